pub mod Derived
pub mod Unique
pub mod Smaller
pub mod Symbols
