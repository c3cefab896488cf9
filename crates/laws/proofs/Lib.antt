pub mod Tests
pub mod Maps
pub mod Alignments
pub mod Lists
pub mod Every
