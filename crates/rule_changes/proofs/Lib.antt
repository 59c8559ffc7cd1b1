pub mod Given
pub mod RuleChanges
