pub mod LogExamples
pub mod OrderExamples
