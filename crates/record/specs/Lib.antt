pub mod Numbers
pub mod Turns
pub mod Cuts
pub mod Promises
