pub mod Sliding
pub mod Shares
pub mod Once
