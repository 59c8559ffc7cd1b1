pub mod Layout
pub mod State
pub mod Readings
pub mod Edits
