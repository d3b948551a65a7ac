pub mod AnswerLines
pub mod Views
pub mod inside
