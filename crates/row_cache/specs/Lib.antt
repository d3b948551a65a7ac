pub mod Links
pub mod Rows
pub mod Lends
pub mod inside
-- of other crates, what the clauses here cite: a caller need not list these
pub use Rattle.compaction.specs.Emptied
pub use Rattle.compaction.specs.Passes
pub use Rattle.compaction.specs.Sparse
pub use Rattle.layout.specs.Sizes
pub use Rattle.regions.specs.Contents
pub use Rattle.regions.specs.Counts
pub use Rattle.regions.specs.Segments
pub use Rattle.regions.specs.Shapes
pub use Rattle.rows.specs.Apply
pub use Rattle.rows.specs.Key
pub use Rattle.rows.specs.KeyBody
pub use Rattle.rows.specs.Row
