pub mod Log
pub mod Lines
