-- What the parts of a range own.
use Rattle.std.specs.Prelude.{◌≡◌, refl, ℕ, ◌+◌, Bool, true, false, List, [], ◌∷◌, length, Option, Some, None}
use Rattle.std.specs.Coded.{Coded, code_by, coded×, coded_ℕ}
use base.Fraction.{full_share}
use base.Fml.{Fml, ftrue, fsep}
use denote.Builtin.{u8}
use denote.Array.{Array}
use denote.Memory.{part_at}
use denote.RawPtr.{Ptr, ◌+ₚ◌, block_ptr, coded_ptr, lies_at, room_for, block_of, count_of}
use mir.Syntax.{w8, ty_int, ty_array}
use Rattle.layout.specs.Extents.{Extent}
use Rattle.raw_range.specs.Memory.{Lent}
use Rattle.raw_range.specs.inside.Covered.{is_allocated}

-- where a block's bytes begin, and how many there are
pub record Buffer : Type 0 where
  pub ptr : Ptr
  pub len : ℕ

-- it is stored as the pair of its fields
abbrev pub buffer_code : Coded Buffer
buffer_code = code_by (Ptr × ℕ) (coded× coded_ptr coded_ℕ) (λ e. (e.ptr, e.len)) (λ p. record { ptr = p.0; len = p.1 }) (λ _. refl)

-- its n bytes begin at p
abbrev pub IsBlock : Buffer → Ptr → ℕ → Type 0
IsBlock e p n = (e.ptr ≡ p) × (e.len ≡ n)

-- p points into a block
abbrev pub IsPlaced : Ptr → Type 0
IsPlaced p = p ≡ block_ptr (block_of p) (count_of p)

-- the bytes xs lie at p
abbrev pub run_owns : Ptr → List ℕ → Fml
run_owns p xs = lies_at (Array u8 (length xs)) full_share p xs

-- the n bytes at p, whatever they hold, if they hold anything
abbrev pub room_owns : Ptr → ℕ → Fml
room_owns p n = room_for (ty_array (ty_int w8) n) p

-- the byte x at b, o, unless it is allocated
abbrev pub byte_owns : Bool → ℕ → ℕ → ℕ → Fml
byte_owns true b o x = ftrue
byte_owns false b o x = part_at u8 full_share x b o

-- those of the bytes xs that are not allocated; the first lies at b, o and has the number i
abbrev pub rest_owns : List Extent → ℕ → ℕ → ℕ → List ℕ → Fml
rest_owns allocated b o i [] = ftrue
rest_owns allocated b o i (x ∷ xs) = fsep (byte_owns (is_allocated allocated i) b o x) (rest_owns allocated b (o + 1) (i + 1) xs)

-- those of the bytes xs at p that are not allocated
abbrev pub unallocated_owns : Ptr → List Extent → List ℕ → Fml
unallocated_owns p allocated xs = rest_owns allocated (block_of p) (count_of p) 0 xs

-- the bytes of a piece, if there is one
abbrev pub held_owns : Option Lent → Fml
held_owns None = ftrue
held_owns (Some piece) = run_owns (piece.home +ₚ piece.at) piece.bytes
