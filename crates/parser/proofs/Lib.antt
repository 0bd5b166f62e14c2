-- The lemmas on the parser, and the proofs of its laws.
pub mod Deterministic
pub mod Sentences
pub mod Ends
pub mod Steps
