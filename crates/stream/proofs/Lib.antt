pub mod Beginning
pub mod Answers
pub mod HandFacts
pub mod TurnLaws
pub mod ChainLaws
pub mod Copying
