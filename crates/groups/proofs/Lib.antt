pub mod Backed
pub mod Falling
