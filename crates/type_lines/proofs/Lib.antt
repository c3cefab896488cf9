pub mod Codes
pub mod Forms
pub mod ByForm
pub mod Spelling
pub mod Shapes
pub mod Needs
pub mod Frames
