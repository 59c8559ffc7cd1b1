pub mod Entries
pub mod Events
pub mod Claim
pub mod Beside
pub mod Reports
