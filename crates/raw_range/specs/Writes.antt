-- What a piece ends as, once a `&mut` to its bytes has ended.
use Rattle.std.specs.Prelude.{◌≡◌, ℕ, List, Vec, length, take, drop}
use Rattle.std.specs.List.{refill}
use Rattle.std.specs.Borrow.{Lends, MutBor, Fml, u8, Array}
use Rattle.std.specs.Vec.{with_items_from}
use Rattle.std_alloc.specs.declared.vec.lodged.Lodged.{Lodged}
use Rattle.std_alloc.specs.contracts.vec.Vec as V
use Rattle.std_alloc.specs.contracts.vec.lodged.Lodged as L
use Rattle.std_alloc.specs.contracts.vec.lodged.LodgedAllocator.TheImpl.{ghosts}
use Rattle.raw_range.specs.Memory.{Lent, written}
use Rattle.raw_range.specs.contracts.piece.Piece.{the_row}

-- the piece, once ws were left as its bytes
abbrev pub rewritten : Lent → List ℕ → Lent
rewritten p ws = record p { bytes = refill (length p.bytes) p.bytes ws }

-- the piece, once ws were left as the `len` of its bytes from the byte `at` on
abbrev pub part_rewritten : Lent → ℕ → ℕ → List ℕ → Lent
part_rewritten p at len ws = record p { bytes = written p.bytes at (refill len (take len (drop at p.bytes)) ws) }

-- q is the same bytes of the same range as p, whatever they are
pub record IsSamePiece (p q : Lent) : Type 0 where
  pub home : q.home ≡ p.home
  pub owner : q.owner ≡ p.owner
  pub at : q.at ≡ p.at
  pub length : length q.bytes ≡ length p.bytes

-- only the bytes of the piece change: they are those last written through r
abbrev pub LendsBytes : MutBor Lent → MutBor (List ℕ) → Fml
LendsBytes p r = Lends the_row (Array u8 0) p r (rewritten p.now)

-- only `len` of the bytes change, those from the byte `at` on: they are those last written through r
abbrev pub LendsPart : MutBor Lent → ℕ → ℕ → MutBor (List ℕ) → Fml
LendsPart p at len r = Lends the_row (Array u8 0) p r (part_rewritten p.now at len)

-- the memory of a piece, once a run of it from the element `at` on was written through r
abbrev pub LendsRun : MutBor (Vec ℕ Lodged) → ℕ → MutBor (List ℕ) → Fml
LendsRun m at r = Lends (V.the_row u8 L.the_row ghosts) (Array u8 0) m r (with_items_from m.now at)

-- the same of `len` elements, as many as which are left there
abbrev pub LendsFitted : MutBor (Vec ℕ Lodged) → ℕ → ℕ → MutBor (List ℕ) → Fml
LendsFitted m at len r = Lends (V.the_row u8 L.the_row ghosts) (Array u8 0) m r (λ ws. with_items_from m.now at (refill len (take len (drop at m.now.items)) ws))
