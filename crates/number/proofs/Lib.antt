pub mod Classes
pub mod Answering
pub mod Bodies
pub mod Calls
pub mod AnswerFacts
