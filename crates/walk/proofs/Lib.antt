pub mod Ascending
pub mod Nth
pub mod Splits
pub mod Ways
pub mod Slots
pub mod Depth
pub mod Measure
