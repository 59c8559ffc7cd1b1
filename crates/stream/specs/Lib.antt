pub mod Turnings
pub mod Copies
