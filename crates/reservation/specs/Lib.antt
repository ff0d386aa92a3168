pub mod Windows
pub mod Reservations
pub mod Numbers
pub mod Told
