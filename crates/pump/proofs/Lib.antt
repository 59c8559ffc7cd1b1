pub mod StepFacts
pub mod SomeRuns
pub mod Pumping
