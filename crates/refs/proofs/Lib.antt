pub mod Letters
pub mod Laws
pub mod Fine
pub mod Once
pub mod Nodes
pub mod Fields
