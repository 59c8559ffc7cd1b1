pub mod Values
pub mod Places
pub mod Joining
pub mod Tables
pub mod Sources
pub mod Conditioned
