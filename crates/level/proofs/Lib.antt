mod Window
pub mod Tallies
mod Passes
pub mod Counts
pub mod Choice
pub mod Unique
pub mod Alones
pub mod Shares
pub mod Deadlines
pub mod Spares
pub mod Levels
mod Sames
pub mod Once
pub mod Refusing
mod Seen
mod Seated
mod Counted
mod Ticking
mod Handing
