pub mod Bytes
pub mod Headings
pub mod EntryParts
pub mod Sheets
pub mod Once
pub mod Ruled
pub mod Answered
