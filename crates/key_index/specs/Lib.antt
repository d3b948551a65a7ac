pub mod Order
pub mod Lead
pub mod Index
pub mod inside
-- of other crates, what the clauses here cite: a caller need not list these
pub use Rattle.layout.specs.Sizes
pub use Rattle.rows.specs.Key
