pub mod Hash
pub mod Table
pub mod Late
pub mod Lazy
pub mod inside
-- of other crates, what the clauses here cite: a caller need not list these
pub use Rattle.common_lemmas.specs.Lists
pub use Rattle.key_index.specs.Index
pub use Rattle.key_index.specs.Order
pub use Rattle.layout.specs.Sizes
pub use Rattle.rows.specs.Key
