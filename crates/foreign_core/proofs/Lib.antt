pub mod PlaceLemmas
pub mod StepLemmas
pub mod RunLemmas
pub mod Courses
pub mod ReturnOrder
