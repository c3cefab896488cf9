pub mod Lists
pub mod Table
pub mod Log
pub mod Digests
