pub mod Splits
pub mod Ways
pub mod Depth
pub mod Measure
