pub mod Parts
pub mod Steps
pub mod Suspended
pub mod Writing
pub mod Calls
