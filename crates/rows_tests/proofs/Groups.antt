-- The guards of a region's groups.
use Rattle.std.proofs.Common.{◌≡◌, ℕ, zero, suc, ◌+◌, ◌*◌, ◌%◌, ◌<◌, ◌≤◌, List, [], ◌∷◌, length, Some, inl, inr, refl, ap, subst, ◌∙◌, arith}
use Rattle.std.proofs.lemmas.Bool.{cases_lt}
use Rattle.std.proofs.lemmas.Nat.{mod-mul-add}
use Rattle.regions.specs.Segments.{GroupState, RegionState, group_at, with_guards}
use Rattle.regions.specs.Shapes.{Shape, group_count, group_in, group_of, guards_at, guards_in, guards_of, shape, slot_at, IsUnguarded}
use Rattle.regions.specs.declared.place.Place.{Place}
use Rattle.row_cache.specs.Rows.{group_for}

small : (g n : ℕ) → g < n → g % n ≡ g
small g n h = ap (λ (k : ℕ). k % n) (let e : g ≡ 0 * n + g = omega arith in e) ∙ mod-mul-add 0 n g h

none_past : (groups : List GroupState) (g : ℕ) → length groups ≤ g → (group_at groups g).guards ≡ 0
none_past [] zero h = refl
none_past [] (suc g) h = refl
none_past (x ∷ groups) zero h = absurd (omega (arith, h))
none_past (x ∷ groups) (suc g) h = none_past groups g (omega (arith, h))

-- where no guard stands on the group of any table, none stands
pub unguarded : (r : RegionState) → group_count r ≤ 8 → ((t : ℕ) → t < 8 → guards_of r (group_for r t) ≡ 0) → IsUnguarded r
unguarded r few all g =
    elim (cases_lt g (group_count r)) [
      | inl has ↦ subst (λ (n : ℕ). guards_of r n ≡ 0) (small g (group_count r) has) (all g (omega (arith, has, few)))
      | inr past ↦ none_past r.groups g past
    ]

-- a segment is of a group with as many guards as were set, also after calls that leave the shape
pub guarded_at : (r m s : RegionState) (p : Place) (g guards : ℕ) → group_of r p.segment ≡ Some g → m ≡ with_guards r g guards → shape s ≡ shape m → guards_of m g ≡ guards
    → guards_at s p.segment ≡ guards
guarded_at r m s p g guards here guarded same count =
    let there : group_of m p.segment ≡ Some g = ap (λ (x : RegionState). group_of x p.segment) guarded ∙ here in
    ap (λ (x : Shape). guards_in x.groups (group_in (slot_at x.slots p.segment))) same ∙ ap (guards_in (shape m).groups) there ∙ count
