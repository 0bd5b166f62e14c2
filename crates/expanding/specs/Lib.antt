pub mod Frames
pub mod Dividing
pub mod Expansions
pub mod Calls
pub mod Laws
