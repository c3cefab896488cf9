pub mod Picks
pub mod Keys
pub mod Digests
pub mod Newest
pub mod Kept
