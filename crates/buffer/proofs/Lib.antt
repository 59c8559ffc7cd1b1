pub mod ListLaws
pub mod ZeroLaws
pub mod Moves
pub mod SlotLaws
pub mod Passing
pub mod DigitLaws
