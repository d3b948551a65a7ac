pub mod Segments
pub mod Shapes
pub mod Counts
pub mod Contents
pub mod Stores
pub mod Places
pub mod Lends
pub mod inside
-- of other crates, what the clauses here cite: a caller need not list these
pub use Rattle.layout.specs.Sizes
pub use Rattle.object_log.specs.Contents as LogContents
pub use Rattle.object_log.specs.Objects
pub use Rattle.raw_range.specs.Memory
