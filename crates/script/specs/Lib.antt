-- The definitions that the contracts cite.
pub mod Text
pub mod Says
pub mod Cut
pub mod Shapes
pub mod LineEnd
pub mod Laws
