-- What a scan writes.
use Rattle.std.specs.Prelude.{◌≡◌, ℕ, ◌*◌, ◌≤◌, List, ◌++◌, length, take, drop}
use Rattle.std.specs.List.{flat_map}
use Rattle.byteorder.specs.Endian.{little_bytes}
use Rattle.layout.specs.Sizes.{key_room}
use Rattle.tree_nodes.specs.Nodes.{Entry}
use Rattle.index_tree.specs.Indexes.{Index, from}

-- an entry's key as a scan writes it: its length in two bytes, and its bytes
abbrev pub written : Entry → List ℕ
written e = little_bytes 2 (length e.key) ++ e.key

-- what a scan writes of so many keys at or above a key
abbrev pub scanned : List ℕ → ℕ → Index → List ℕ
scanned lo count index = flat_map written (take count (from lo index))

-- The keys of these entries, so many, are written to the front of what was, each behind its length, in so many bytes.
pub record IsWritten (es : List Entry) (keys bytes : ℕ) (old new : List ℕ) : Type 0 where
  pub keys_are : keys ≡ length es
  pub bytes_are : bytes ≡ length (flat_map written es)
  pub room : bytes ≤ key_room * keys
  pub front : new ≡ flat_map written es ++ drop bytes old
