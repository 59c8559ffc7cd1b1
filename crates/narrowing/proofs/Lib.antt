pub mod Prefixes
pub mod ColumnLaws
pub mod Narrowing
