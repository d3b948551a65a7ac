-- The bytes of a new object.
use Rattle.std.specs.Prelude.{ℕ, List, [], ◌∷◌, ◌++◌}
use Rattle.byteorder.specs.Endian.{little_bytes}

-- its descriptor, which says that it is live
abbrev pub descriptor_bytes : ℕ → ℕ → List ℕ
descriptor_bytes kind size = (1 ∷ kind ∷ 0 ∷ 0 ∷ []) ++ little_bytes 4 size

-- the descriptor, and the content behind it
abbrev pub object_bytes : ℕ → ℕ → List ℕ → List ℕ
object_bytes kind size content = (1 ∷ kind ∷ 0 ∷ 0 ∷ []) ++ (little_bytes 4 size ++ content)
