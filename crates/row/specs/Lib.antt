pub mod Rows
pub mod Fields
pub mod Sinks
pub mod Waiting
pub mod Buffers
