-- What numbering answers, and the definitions that its inner contracts cite.
pub mod Parts
pub mod Frames
pub mod Parses
pub mod Calls
