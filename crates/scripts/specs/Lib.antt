pub mod Plays
pub mod Stories
pub mod Outcomes
pub mod Rows
