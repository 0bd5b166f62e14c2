pub mod Interface
pub mod Symbols
