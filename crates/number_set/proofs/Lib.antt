pub mod WordBits
pub mod Sets
