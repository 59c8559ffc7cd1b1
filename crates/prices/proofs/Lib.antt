pub mod RowSlots
pub mod RowRules
pub mod ImageLaws
pub mod Bridge
pub mod Chosen
pub mod RowEdits
pub mod Adding
