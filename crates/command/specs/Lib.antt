pub mod Unread
pub mod Grammar
pub mod Reading
pub mod Openings
pub mod Scripts
