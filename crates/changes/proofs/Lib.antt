pub mod PromiseLaws
pub mod FitLaws
pub mod Chains
