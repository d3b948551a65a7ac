-- The limits of a tree.
use Rattle.std.specs.Prelude.{ℕ}
pub use Rattle.layout.specs.Sizes.{most_segments}

-- the fewest entries of a node that is not the root
abbrev pub fewest_entries : ℕ
fewest_entries = 8

-- the most spare nodes
abbrev pub most_spares : ℕ
most_spares = 8

-- the most levels of a tree, and of one whose segments are no more than the pages that the program's words can ask for
abbrev pub most_levels : ℕ
most_levels = 7

abbrev pub most_run_levels : ℕ
most_run_levels = 6
