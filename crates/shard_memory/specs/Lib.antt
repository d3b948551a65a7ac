pub mod Room
pub mod Tickets
pub mod Shards
pub mod Refusals
pub mod inside
-- of other crates, what the clauses here cite: a caller need not list these
pub use Rattle.foreign_list.specs.Blocks
pub use Rattle.foreign_list.specs.Lists
pub use Rattle.foreign_list.specs.OwnerSeats
pub use Rattle.layout.specs.Counts
pub use Rattle.layout.specs.Extents
pub use Rattle.layout.specs.Sizes
pub use Rattle.raw_range.specs.Memory
pub use Rattle.small_pools.specs.Classes
pub use Rattle.small_pools.specs.Objects
pub use Rattle.span_lists.specs.Layout
