pub mod Sparse
pub mod Emptied
pub mod Passes
pub mod inside
-- of other crates, what the clauses here cite: a caller need not list these
pub use Rattle.layout.specs.Sizes
pub use Rattle.regions.specs.Contents
pub use Rattle.regions.specs.Counts
pub use Rattle.regions.specs.Segments
pub use Rattle.regions.specs.Shapes
pub use Rattle.regions.specs.Stores
