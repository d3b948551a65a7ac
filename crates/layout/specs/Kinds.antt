-- The kinds of the objects of segments by name, as descriptors have them.
use Rattle.std.specs.Prelude.{ℕ}

-- of an object that holds a row of a cache
abbrev pub row_kind : ℕ
row_kind = 1

-- a fragment of a value
abbrev pub fragment_kind : ℕ
fragment_kind = 2

-- a node of an index
abbrev pub node_kind : ℕ
node_kind = 3

-- a dirty put
abbrev pub dirty_kind : ℕ
dirty_kind = 4
