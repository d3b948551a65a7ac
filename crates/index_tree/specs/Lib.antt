pub mod Sizes
pub mod Indexes
pub mod Links
pub mod Trees
pub mod Moves
pub mod Examples
pub mod Store
pub mod Ways
pub mod Scans
pub mod Writes
pub mod Inserts
pub mod Splits
pub mod inside
pub mod Removes
pub mod Pairs
pub mod Mended
pub mod Prunes
pub mod Limits
-- of other crates, what the clauses here cite: a caller need not list these
pub use Rattle.layout.specs.Kinds
pub use Rattle.layout.specs.Sizes as ShardSizes
pub use Rattle.regions.specs.Contents
pub use Rattle.regions.specs.Segments
pub use Rattle.regions.specs.Shapes
pub use Rattle.segmented_store.specs.Ranged
pub use Rattle.segmented_store.specs.Segments as StoreSegments
pub use Rattle.tree_nodes.specs.Nodes
pub use Rattle.tree_nodes.specs.Order
