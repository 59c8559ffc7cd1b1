pub mod Taking
pub mod Ranges
pub mod Dues
pub mod Charging
pub mod Keeping
