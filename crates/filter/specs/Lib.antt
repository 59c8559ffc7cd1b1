pub mod Slots
pub mod Place
