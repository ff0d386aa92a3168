pub mod Queues
pub mod Waits
pub mod Examples
