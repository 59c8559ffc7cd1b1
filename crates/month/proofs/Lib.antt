pub mod Sums
pub mod Records
pub mod Steps
pub mod EveryMonth
pub mod Beside
pub mod Reports
