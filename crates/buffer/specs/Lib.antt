pub mod Bytes
pub mod Zeros
pub mod Slots
