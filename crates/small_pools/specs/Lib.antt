pub mod Classes
pub mod Objects
pub mod inside
-- of other crates, what the clauses here cite: a caller need not list these
pub use Rattle.layout.specs.Extents
pub use Rattle.layout.specs.Sizes
pub use Rattle.span_lists.specs.Layout
