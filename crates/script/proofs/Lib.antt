-- The lemmas of the crate.
pub mod Cutting
pub mod Decimal
pub mod Keywords
pub mod LineEnds
pub mod Reading
pub mod Saying
pub mod Writing
