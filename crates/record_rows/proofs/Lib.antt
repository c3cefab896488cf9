pub mod Entries
pub mod Keys
