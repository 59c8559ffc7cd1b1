pub mod Steps
pub mod Heads
pub mod Written
pub mod Entries
pub mod Walks
pub mod Compared
pub mod Alike
