pub mod Letters
pub mod Lines
