-- What the calls of a range ask of the extents that are allocated, where these are listed.
use Rattle.std.proofs.Common.{◌≡◌, ℕ, List, [], ◌∷◌, length, refl, sym, ap, subst, arith}
use Rattle.std.specs.Prelude.{All, Contains}
use Rattle.std.specs.List.{refill, length_refill}
use Rattle.std.proofs.lemmas.List.Elements.{All-cons}
use Rattle.layout.specs.Extents.{Extent, extent, Disjoint}
use Rattle.raw_range.specs.Memory.{Lent, extent_of}

pub apart_none : (p : Extent) (allocated : List Extent) → allocated ≡ [] → All (Disjoint p) allocated
apart_none p allocated e = let none : All (Disjoint p) [] = λ k d w. absurd (omega (arith, w)) in subst (All (Disjoint p)) (sym e) none

pub apart_more : (p q : Extent) (allocated rest : List Extent) → allocated ≡ q ∷ rest → Disjoint p q → All (Disjoint p) rest → All (Disjoint p) allocated
apart_more p q allocated rest e a h = subst (All (Disjoint p)) (sym e) (All-cons (Disjoint p) q rest a h)

pub has_first : (p q : Extent) (allocated rest : List Extent) → allocated ≡ q ∷ rest → p ≡ q → Contains allocated p
has_first p q allocated rest e f = let has : Contains (q ∷ rest) p = (0, omega arith, sym f) in subst (λ ps. Contains ps p) (sym e) has

pub has_second : (p q r : Extent) (allocated rest : List Extent) → allocated ≡ r ∷ (q ∷ rest) → p ≡ q → Contains allocated p
has_second p q r allocated rest e f = let has : Contains (r ∷ (q ∷ rest)) p = (1, omega arith, sym f) in subst (λ ps. Contains ps p) (sym e) has

-- a piece stays where it is when its bytes are written
pub same_place : (p : Lent) (ws : List ℕ) → extent_of (record p { bytes = refill (length p.bytes) p.bytes ws }) ≡ extent_of p
same_place p ws = ap (extent p.at) (sym (length_refill (length p.bytes) p.bytes ws refl))
