pub mod FittingLaws
pub mod LineLaws
pub mod ChangeLaws
