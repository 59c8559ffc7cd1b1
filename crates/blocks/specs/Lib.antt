pub mod Endian
pub mod Places
