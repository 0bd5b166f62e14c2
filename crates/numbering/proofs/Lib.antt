pub mod Joining
pub mod Adding
pub mod Suffixes
pub mod Frames
pub mod Calls
