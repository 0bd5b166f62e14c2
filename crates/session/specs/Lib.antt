pub mod Answers
pub mod Asked
pub mod Runs
pub mod Lines
