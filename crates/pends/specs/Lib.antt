pub mod Pends
