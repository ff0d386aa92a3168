pub mod Entries
pub mod Owners
pub mod Numbers
pub mod Told
pub mod Value
pub mod Filled
pub mod Laws
