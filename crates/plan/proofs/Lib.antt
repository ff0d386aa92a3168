pub mod Sharing
pub mod Once
pub mod Answered
