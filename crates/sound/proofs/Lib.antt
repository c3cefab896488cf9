pub mod Limits
pub mod Fields
pub mod Nodes
pub mod Folds
pub mod Constants
pub mod Arrays
pub mod Facts
pub mod Replay
