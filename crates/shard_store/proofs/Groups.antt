-- The groups of a region, and the guards on them.
use Rattle.std.proofs.Common.{◌≡◌, ℕ, zero, suc, ◌+◌, ◌-◌, ◌<◌, List, [], ◌∷◌, length, replicate, refl, ap, ◌∙◌, arith}
use Rattle.std.specs.Prelude.{Option, Some, slice_set}
use Rattle.std.proofs.lemmas.List.{length-set}
use Rattle.regions.specs.Segments.{GroupState, RegionState, group_at, idle, with_guards}
use Rattle.regions.specs.Shapes.{HasGroup, Shape, group_count, guards_of, shape}

-- the guards of each group, where the active segment of one is another
pub guards-activated : (groups : List GroupState) (g n k : ℕ)
    → (group_at (slice_set groups g (record { active = Some n; guards = (group_at groups g).guards })) k).guards ≡ (group_at groups k).guards
guards-activated [] g n k = refl
guards-activated (x ∷ xs) zero n zero = refl
guards-activated (x ∷ xs) zero n (suc k) = refl
guards-activated (x ∷ xs) (suc g) n zero = refl
guards-activated (x ∷ xs) (suc g) n (suc k) = guards-activated xs g n k

-- and how many groups there are
pub groups-activated : (groups : List GroupState) (g n : ℕ)
    → length (slice_set groups g (record { active = Some n; guards = (group_at groups g).guards })) ≡ length groups
groups-activated groups g n = length-set groups g (record { active = Some n; guards = (group_at groups g).guards })

-- no guard stands on groups that were just made
pub guards-idle : (k g : ℕ) → (group_at (replicate k idle) g).guards ≡ 0
guards-idle zero zero = refl
guards-idle zero (suc g) = refl
guards-idle (suc k) zero = refl
guards-idle (suc k) (suc g) = guards-idle k g

-- a group is there still
pub has-kept : (old new : RegionState) (g : ℕ) → group_count new ≡ group_count old → HasGroup old g → HasGroup new g
has-kept old new g same has = (let groups = same in let below : g < group_count old = has in omega (arith, groups, below))

-- how many groups there are, where one has other guards
pub groups-guarded : (old new : RegionState) (g guards : ℕ) → new ≡ with_guards old g guards → group_count new ≡ group_count old
groups-guarded old new g guards is = ap group_count is ∙ length-set old.groups g (record { active = (group_at old.groups g).active; guards = guards })

-- one guard more on a group, and then one less
abbrev guarded : List GroupState → ℕ → ℕ → List GroupState
guarded groups g guards = slice_set groups g (record { active = (group_at groups g).active; guards = guards })

abbrev with_groups : Shape → List GroupState → Shape
with_groups s groups = record s { groups = groups }

abbrev lowered : ℕ → Shape → Shape
lowered g s = with_groups s (guarded s.groups g ((group_at s.groups g).guards - 1))

abbrev with_active : Option ℕ → ℕ → GroupState
with_active active guards = record { active = active; guards = guards }

same-groups : (groups : List GroupState) (g : ℕ)
    → guarded (guarded groups g ((group_at groups g).guards + 1)) g ((group_at (guarded groups g ((group_at groups g).guards + 1)) g).guards - 1) ≡ groups
same-groups [] g = refl
same-groups (x ∷ xs) zero = (let back : x.guards + 1 - 1 ≡ x.guards = omega arith in ap (λ (n : ℕ). with_active x.active n ∷ xs) back)
same-groups (x ∷ xs) (suc g) = ap (λ (groups : List GroupState). x ∷ groups) (same-groups xs g)

pub shape-guarded : (r g k u : RegionState) (group : ℕ) → g ≡ with_guards r group (guards_of r group + 1) → shape k ≡ shape g → u ≡ with_guards k group (guards_of k group - 1)
    → shape u ≡ shape r
shape-guarded r g k u group up same down =
    ap (λ (x : RegionState). shape x) down
    ∙ (ap (lowered group) same ∙ (ap (λ (x : RegionState). lowered group (shape x)) up ∙ ap (λ (groups : List GroupState). with_groups (shape r) groups) (same-groups r.groups group)))
