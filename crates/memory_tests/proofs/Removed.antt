-- The piece that was given last comes back.
use Rattle.std.proofs.Common.{◌≡◌, ◌≢◌, ℕ, suc, ◌<◌, inl, inr, Bool, true, cond, not, ◌==◌, eq-eqb, List, [], ◌∷◌, refl, ap, ◌∙◌, arith}
use Rattle.std.specs.Prelude.{All, filter, slice_index_or}
use Rattle.std.proofs.lemmas.Bool.{ne_eqb}
use Rattle.std.proofs.lemmas.List.Elements.{All-head, All-tail}
use Rattle.layout.specs.Extents.{Extent, Disjoint, IsWithin, AreDisjoint}
use Rattle.raw_range.specs.Memory.{remove_extent}

all_kept : (test : Extent → Bool) (ps : List Extent) → All (λ p. test p ≡ true) ps → filter test ps ≡ ps
all_kept test [] h = refl
all_kept test (p ∷ ps) h =
    ap (λ b. cond b (p ∷ filter test ps) (filter test ps)) (All-head (λ (q : Extent). test q ≡ true) p ps h)
    ∙ ap (λ qs. p ∷ qs) (all_kept test ps (All-tail (λ (q : Extent). test q ≡ true) p ps h))

begins_elsewhere : (p q : Extent) → 0 < p.len → 0 < q.len → Disjoint p q → q.start ≢ p.start
begins_elsewhere p q some more (inl before) same = omega (arith, before, some, same)
begins_elsewhere p q some more (inr behind) same = omega (arith, behind, more, same)

-- of disjoint extents only the first begins where it does
pub first_removed : (size : ℕ) (p : Extent) (ps : List Extent) → AreDisjoint size (p ∷ ps) → remove_extent p (p ∷ ps) ≡ ps
first_removed size p ps apart =
    let test : Extent → Bool = λ q. not (q.start == p.start) in
    let first : IsWithin size p = All-head (IsWithin size) p ps apart.0 in
    let others : All (IsWithin size) ps = All-tail (IsWithin size) p ps apart.0 in
    let stay : All (λ q. test q ≡ true) ps = (λ k d within.
    (let q : Extent = slice_index_or ps k d in
    ap not (ne_eqb q.start p.start (begins_elsewhere p q first.0 (others k d within).0 (apart.1 0 (suc k) d (omega arith) (omega (arith, within))))))) in
    ap (λ b. cond b (p ∷ filter test ps) (filter test ps)) (ap not (eq-eqb p.start p.start refl)) ∙ all_kept test ps stay
