pub mod Lines
pub mod Queues
pub mod State
pub mod Puts
pub mod inside
-- of other crates, what the clauses here cite: a caller need not list these
pub use Rattle.layout.specs.Counts as ShardCounts
pub use Rattle.layout.specs.Sizes
pub use Rattle.regions.specs.Counts
pub use Rattle.regions.specs.Segments
pub use Rattle.regions.specs.Shapes
pub use Rattle.rows.specs.Key
pub use Rattle.rows.specs.Row
pub use Rattle.segmented_store.specs.Ranged
pub use Rattle.segmented_store.specs.Room
pub use Rattle.segmented_store.specs.Segments as StoreSegments
pub use Rattle.text_lemmas.specs.Writing
