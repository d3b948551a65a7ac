-- The groups of a region, and their guards.
use Rattle.std.proofs.Common.{◌≡◌, ◌≢◌, ◌↔◌, ℕ, zero, suc, ◌<◌, ◌≤◌, ◌%◌, List, [], ◌∷◌, length, map, Option, Some, None, refl, sym, ap, subst, ◌∙◌, arith}
use Rattle.std.specs.Prelude.{IfSome, IsNone, slice_set}
use Rattle.std.proofs.lemmas.List.{get_or-set_other, get_or-set_same, length-map, length-set}
use Rattle.std.proofs.lemmas.Nat.{mod_below}
use Rattle.raw_range.specs.Memory.{Lent}
use Rattle.regions.specs.Segments.{GroupState, RegionState, all_emptied, ended, fresh, group_at, idle, segment_at, with_guards, with_segment}
use Rattle.regions.specs.Shapes.{HasGroup, IsGreatestFree, IsGreatestHeld, IsUnguarded, Shape, activated, group_count, guards_of, shape}
use Rattle.row_cache.specs.Rows.{group_for}
use Rattle.row_cache.specs.inside.Consistent.{HasGroups}

pub groups_same : (r s : RegionState) → shape s ≡ shape r → group_count s ≡ group_count r
groups_same r s same = ap (λ (x : Shape). length x.groups) same

pub some_kept : (r s : RegionState) → shape s ≡ shape r → HasGroups r → HasGroups s
some_kept r s same some = (let e = groups_same r s same in omega (arith, e, some))

pub some_held : (r s : RegionState) → group_count s ≡ group_count r → HasGroups r → HasGroups s
some_held r s same some = subst (λ n. 1 ≤ n) (sym same) some

-- a table has the same group
pub group_kept : (r s : RegionState) (table : ℕ) → shape s ≡ shape r → group_for s table ≡ group_for r table
group_kept r s table same = ap (λ n. table % n) (groups_same r s same)

pub has_group_for : (r : RegionState) (table : ℕ) → HasGroups r → HasGroup r (group_for r table)
has_group_for r table some = mod_below table (group_count r) (omega (arith, some))

-- ---- guards

guards_set : (groups : List GroupState) (g guards : ℕ) → g < length groups
    → (group_at (slice_set groups g (record { active = (group_at groups g).active; guards = guards })) g).guards ≡ guards
guards_set groups g guards has =
    ap (λ (x : GroupState). x.guards) (get_or-set_same groups g (record { active = (group_at groups g).active; guards = guards }) idle has)

guards_past_set : (groups : List GroupState) (g h : ℕ) (x : GroupState) → h ≢ g → (group_at (slice_set groups g x) h).guards ≡ (group_at groups h).guards
guards_past_set groups g h x far = ap (λ (y : GroupState). y.guards) (get_or-set_other groups g h x idle far)

pub guards_counted : (r s : RegionState) (g guards : ℕ) → HasGroup r g → s ≡ with_guards r g guards → guards_of s g ≡ guards
guards_counted r s g guards has is = ap (λ (x : RegionState). guards_of x g) is ∙ guards_set r.groups g guards has

pub guards_elsewhere : (r s : RegionState) (g guards h : ℕ) → h ≢ g → s ≡ with_guards r g guards → guards_of s h ≡ guards_of r h
guards_elsewhere r s g guards h far is = ap (λ (x : RegionState). guards_of x h) is ∙ guards_past_set r.groups g h (record { active = (group_at r.groups g).active; guards = guards }) far

-- what is said of the guards is said of the same region
pub guarded_means : (A : Type 0) (r s : RegionState) → r ≡ s → (A ↔ ¬ IsUnguarded r) → A ↔ ¬ IsUnguarded s
guarded_means A r s is h = subst (λ (x : RegionState). A ↔ ¬ IsUnguarded x) is h

-- ---- the groups after a call

pub groups_activated : (r s : RegionState) (g n : ℕ) → shape s ≡ activated g n (shape r) → group_count s ≡ group_count r
groups_activated r s g n is = ap (λ (x : Shape). length x.groups) is ∙ length-set (shape r).groups g _

pub groups_guarded : (r s : RegionState) (g guards : ℕ) → s ≡ with_guards r g guards → group_count s ≡ group_count r
groups_guarded r s g guards is = ap (λ (x : RegionState). group_count x) is ∙ length-set (shape r).groups g _

pub groups_taken : (r s : RegionState) (taken : Option Lent) → (IsNone taken → s ≡ r)
    → IfSome taken (λ piece. (n : ℕ) × IsGreatestFree r n × (segment_at r n ≡ Some (fresh piece)) × (s ≡ with_segment r n None)) → group_count s ≡ group_count r
groups_taken r s None same h = ap (λ (x : RegionState). group_count x) (same refl)
groups_taken r s (Some piece) same h = ap (λ (x : RegionState). group_count x) h.3

-- the groups of a region whose segments are all free
pub groups_ended : (r s : RegionState) (given : Option Lent) → (IsNone given → s ≡ all_emptied r)
    → IfSome given (λ piece. (n : ℕ) × IsGreatestHeld r n × (segment_at (all_emptied r) n ≡ Some (fresh piece)) × (s ≡ with_segment (all_emptied r) n None))
    → s.groups ≡ map ended r.groups
groups_ended r s None same h = ap (λ (x : RegionState). x.groups) (same refl)
groups_ended r s (Some piece) same h = ap (λ (x : RegionState). x.groups) h.3

guards_ended : (groups : List GroupState) (g : ℕ) → (group_at (map ended groups) g).guards ≡ (group_at groups g).guards
guards_ended [] g = refl
guards_ended (x ∷ xs) zero = refl
guards_ended (x ∷ xs) (suc g) = guards_ended xs g

pub guards_given_up : (r s : RegionState) (g : ℕ) → s.groups ≡ map ended r.groups → guards_of s g ≡ guards_of r g
guards_given_up r s g is = ap (λ (xs : List GroupState). (group_at xs g).guards) is ∙ guards_ended r.groups g

pub groups_given_up : (r s : RegionState) → s.groups ≡ map ended r.groups → group_count s ≡ group_count r
groups_given_up r s is = ap (λ (xs : List GroupState). length xs) is ∙ length-map r.groups ended
