pub mod Format
pub mod Faults
pub mod Told
pub mod Loaded
pub mod Read
