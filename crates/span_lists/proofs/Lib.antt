pub mod Halves
pub mod Cuts
pub mod AllocatedSpans
pub mod Consistent
pub mod Views
pub mod Steps
pub mod Whole
pub mod Fresh
