pub mod Kept
pub mod Keys
pub mod Printed
pub mod Firsts
pub mod Names
pub mod Walk
