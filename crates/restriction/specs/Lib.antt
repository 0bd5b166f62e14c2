pub mod Masks
pub mod Restricted
pub mod Laws
pub mod Fewer
