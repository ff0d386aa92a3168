mod Numerals
mod Lines
pub mod Says
