pub mod Played
pub mod Rehearsals
pub mod Calls
pub mod Stages
pub mod Onwards
pub mod Runs
pub mod Whole
