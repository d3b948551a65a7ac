pub mod Ranged
pub mod Room
pub mod Segments
-- of other crates, what the clauses here cite: a caller need not list these
pub use Rattle.layout.specs.Sizes
pub use Rattle.regions.specs.Segments as RegionSegments
pub use Rattle.regions.specs.Shapes
