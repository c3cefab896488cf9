pub mod Rows
pub mod Lines
pub mod Records
pub mod Forms
pub mod Types
pub mod Places
