pub mod Lines
pub mod EightDigits
pub mod DigitTexts
pub mod LineTexts
pub mod Losses
