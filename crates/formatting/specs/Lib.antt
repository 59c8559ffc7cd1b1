pub mod Sources
pub mod Tables
pub mod Joins
