pub mod NumberTexts
pub mod ChargeLines
pub mod LossLines
