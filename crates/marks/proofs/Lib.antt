pub mod Marking
pub mod Lists
