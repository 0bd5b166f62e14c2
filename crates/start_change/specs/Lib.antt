pub mod Started
pub mod Laws
pub mod Implemented
