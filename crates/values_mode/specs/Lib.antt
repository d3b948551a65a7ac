pub mod State
pub mod Text
pub mod Examples
pub mod Left
pub mod inside
