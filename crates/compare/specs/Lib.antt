pub mod Steps
pub mod Standings
pub mod Promises
pub mod Alike
