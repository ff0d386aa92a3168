mod Onwards
mod Rides
mod Rowing
mod Tickets
