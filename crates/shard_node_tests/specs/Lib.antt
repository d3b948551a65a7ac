pub mod Examples
pub mod TogetherExamples
