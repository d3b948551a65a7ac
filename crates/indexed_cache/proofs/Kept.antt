-- The room and the segments are as they were.
use Rattle.std.proofs.Common.{◌≡◌, ℕ, zero, suc, ◌<◌, List, [], ◌∷◌, length, Some, refl, ap, ◌∙◌, arith}
use Rattle.std.specs.Prelude.{slice_set}
use Rattle.std.specs.List.{count_by}
use Rattle.std.proofs.lemmas.List.{length-set}
use Rattle.regions.specs.Segments.{GroupState, RegionState, group_at}
use Rattle.regions.specs.Shapes.{Shape, HasGroup, IsUnguarded, activated, group_count, guards_of, held_count, is_held, pieces, pieces_in, shape}
use Rattle.compaction.specs.Emptied.{HoldsTheSame}
use Rattle.segmented_store.specs.Segments.{HoldsSegments}
use Rattle.row_cache.specs.Rows.{CacheState}
use Rattle.indexed_cache.specs.inside.Kept.{KeepsSegments}

pub segments-same : (r s : RegionState) → shape s ≡ shape r → HoldsSegments r s
segments-same r s same = record {
  most = ap (λ (x : Shape). x.most) same;
  groups = ap (λ (x : Shape). length x.groups) same;
  pieces = ap (λ (x : Shape). pieces_in x.slots) same;
  held = ap (λ (x : Shape). count_by is_held x.slots) same;
  guards = λ g. ap (λ (x : Shape). (group_at x.groups g).guards) same;
}

pub segments-both : (r s t : RegionState) → HoldsSegments r s → HoldsSegments s t → HoldsSegments r t
segments-both r s t a b = record {
  most = b.most ∙ a.most;
  groups = b.groups ∙ a.groups;
  pieces = b.pieces ∙ a.pieces;
  held = b.held ∙ a.held;
  guards = λ g. b.guards g ∙ a.guards g;
}

pub segments-compacted : (r s : RegionState) → HoldsTheSame r s → HoldsSegments r s
segments-compacted r s same = record { most = same.most; groups = same.groups; pieces = same.pieces; held = same.held; guards = same.guards }

-- the guards of each group, where the active segment of one is another
guards-activated : (groups : List GroupState) (g n k : ℕ)
    → (group_at (slice_set groups g (record { active = Some n; guards = (group_at groups g).guards })) k).guards ≡ (group_at groups k).guards
guards-activated [] g n k = refl
guards-activated (x ∷ xs) zero n zero = refl
guards-activated (x ∷ xs) zero n (suc k) = refl
guards-activated (x ∷ xs) (suc g) n zero = refl
guards-activated (x ∷ xs) (suc g) n (suc k) = guards-activated xs g n k

pub segments-activated : (r s : RegionState) (g n : ℕ) → shape s ≡ activated g n (shape r) → pieces s ≡ pieces r → held_count s ≡ held_count r → HoldsSegments r s
segments-activated r s g n is pieces-are held-are = record {
  most = ap (λ (x : Shape). x.most) is;
  groups = ap (λ (x : Shape). length x.groups) is ∙ length-set (shape r).groups g (record { active = Some n; guards = (group_at (shape r).groups g).guards });
  pieces = pieces-are;
  held = held-are;
  guards = λ k. ap (λ (x : Shape). (group_at x.groups k).guards) is ∙ guards-activated (shape r).groups g n k;
}

-- ---- of a cache

pub keeps-shape : (c d : CacheState) → d.room ≡ c.room → shape d.region ≡ shape c.region → KeepsSegments c d
keeps-shape c d room same = record { room = room; segments = segments-same c.region d.region same }

pub keeps-none : (c : CacheState) → KeepsSegments c c
keeps-none c = keeps-shape c c refl refl

pub keeps-both : (c d e : CacheState) → KeepsSegments c d → KeepsSegments d e → KeepsSegments c e
keeps-both c d e a b = record { room = b.room ∙ a.room; segments = segments-both c.region d.region e.region a.segments b.segments }

-- a group is there still
pub has-kept : (c d : CacheState) (g : ℕ) → KeepsSegments c d → HasGroup c.region g → HasGroup d.region g
has-kept c d g kept has = (let groups = kept.segments.groups in let below : g < group_count c.region = has in omega (arith, groups, below))

-- where there is one group, and no guard on it, there is none at all
none-guarded : (groups : List GroupState) → length groups ≡ 1 → (group_at groups 0).guards ≡ 0 → (g : ℕ) → (group_at groups g).guards ≡ 0
none-guarded [] one none g = refl
none-guarded (x ∷ []) one none zero = none
none-guarded (x ∷ []) one none (suc g) = refl
none-guarded (x ∷ y ∷ xs) one none g = absurd (omega (arith, one))

pub unguarded : (r : RegionState) → group_count r ≡ 1 → guards_of r 0 ≡ 0 → IsUnguarded r
unguarded r one none g = none-guarded (shape r).groups one none g
