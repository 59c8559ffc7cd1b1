pub mod SetReads
pub mod NumberReads
pub mod Spans
pub mod AfterCalls
