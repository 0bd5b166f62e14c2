-- The parser, and its laws.
pub mod Parser
pub mod Laws
