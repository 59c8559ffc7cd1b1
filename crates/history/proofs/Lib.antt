pub mod Going
pub mod Demand3
pub mod Replayed
