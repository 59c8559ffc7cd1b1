pub mod Dues
pub mod Promises
