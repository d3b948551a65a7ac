pub mod Audits
pub mod Codes
pub mod Meanings
pub mod Table
pub mod TraceFor
pub mod inside
