pub mod Lists
pub mod Blocks
pub mod OwnerSeats
pub mod Writes
pub mod Laws
pub mod inside
-- of other crates, what the clauses here cite: a caller need not list these
pub use Rattle.layout.specs.Sizes
pub use Rattle.raw_range.specs.Memory
