pub mod Sizes
pub mod Values
pub mod Fragment
pub mod Chains
pub mod Store
pub mod inside
-- of other crates, what the clauses here cite: a caller need not list these
pub use Rattle.layout.specs.Sizes as ShardSizes
pub use Rattle.regions.specs.Contents
pub use Rattle.regions.specs.Counts
pub use Rattle.regions.specs.Segments
pub use Rattle.regions.specs.Shapes
pub use Rattle.segmented_store.specs.Ranged
pub use Rattle.segmented_store.specs.Room
pub use Rattle.segmented_store.specs.Segments as StoreSegments
