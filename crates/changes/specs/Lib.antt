pub mod Promise
pub mod Given
