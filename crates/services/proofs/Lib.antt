pub mod Stages
pub mod Going
