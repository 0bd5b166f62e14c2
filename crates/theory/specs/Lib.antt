-- The definitions of the theory, and its laws.
pub mod Lists
pub mod Grammar
pub mod Sets
pub mod Forms
pub mod Sound
pub mod Order
pub mod Count
pub mod Enumerate
pub mod Theorems
