pub mod Layout
pub mod Promises
pub mod Examined
pub mod Edits
