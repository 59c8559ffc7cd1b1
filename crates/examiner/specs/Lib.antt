pub mod Examined
pub mod Promises
