pub mod ImageLaws
pub mod ReadLaws
pub mod EditLaws
pub mod PlacedRules
