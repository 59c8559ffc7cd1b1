pub mod FilterLaws
pub mod RuleLaws
pub mod OrderLaws
pub mod PlaceLaws
