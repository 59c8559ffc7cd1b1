pub mod Promises
pub mod Applies
pub mod AfterCalls
pub mod Sets
