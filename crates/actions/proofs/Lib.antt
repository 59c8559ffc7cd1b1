pub mod Lists
pub mod Tables
pub mod Fit
pub mod Walks
