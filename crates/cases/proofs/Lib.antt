pub mod Computed
pub mod Marked
