-- While spare nodes are placed.
use Rattle.std.proofs.Common.{◌≡◌, ℕ, ◌+◌, ◌-◌, ◌*◌, ◌<◌, ◌≤◌, List, [], ◌∷◌, ◌++◌, length, refl, sym, ap, subst, ◌∙◌, arith, length-append}
use Rattle.std.specs.Prelude.{is_some}
use Rattle.std.specs.List.{count_by}
use Rattle.regions.specs.Segments.{RegionState, group_at}
use Rattle.regions.specs.Shapes.{Shape, shape, pieces_in, is_held, is_free, free_count, held_count}
use Rattle.regions.specs.Counts.{live_total}
use Rattle.regions.specs.Contents.{live_at}
use Rattle.regions.specs.declared.place.Place.{Place}
use Rattle.compaction.specs.Emptied.{HoldsTheSame}
use Rattle.segmented_store.specs.Room.{room}
use Rattle.index_tree.specs.Sizes.{node_object}
use Rattle.segmented_store.specs.Segments.{HoldsSegments}
use Rattle.index_tree.specs.Limits.{most_spares}
use Rattle.index_tree.specs.inside.Rosters as rosters
use Rattle.index_tree.specs.inside.Rosters.{IsRosterOf, RosterState, shape_of, with_spare}

-- ---- segments

pub segments_same : (r s : RegionState) → HoldsTheSame r s → HoldsSegments r s
segments_same r s h = record { most = h.most; groups = h.groups; pieces = h.pieces; held = h.held; guards = h.guards }

pub segments_kept : (r s : RegionState) → shape s ≡ shape r → HoldsSegments r s
segments_kept r s e = record {
  most = ap (λ (x : Shape). x.most) e;
  groups = ap (λ (x : Shape). length x.groups) e;
  pieces = ap (λ (x : Shape). pieces_in x.slots) e;
  held = ap (λ (x : Shape). count_by is_held x.slots) e;
  guards = λ g. ap (λ (x : Shape). (group_at x.groups g).guards) e;
}

pub segments_self : (r : RegionState) → HoldsSegments r r
segments_self r = record { most = refl; groups = refl; pieces = refl; held = refl; guards = λ g. refl }

pub segments_again : (r s q : RegionState) → HoldsSegments r s → HoldsSegments s q → HoldsSegments r q
segments_again r s q a b = record {
  most = b.most ∙ a.most;
  groups = b.groups ∙ a.groups;
  pieces = b.pieces ∙ a.pieces;
  held = b.held ∙ a.held;
  guards = λ g. b.guards g ∙ a.guards g;
}

pub free_kept : (r s : RegionState) → shape s ≡ shape r → free_count s ≡ free_count r
free_kept r s e = ap (λ (x : Shape). count_by is_free x.slots) e

-- ---- counts

one_longer : (ps : List Place) (p : Place) → length (ps ++ p ∷ []) ≡ length ps + 1
one_longer ps p = length-append ps (p ∷ [])

pub same_shape : (r s : RosterState) → shape_of s ≡ shape_of r
    → (s.tree.level ≡ r.tree.level) × (length s.known.places ≡ length r.known.places) × (length s.tree.spares ≡ length r.tree.spares) × (s.known.index ≡ r.known.index) × (is_some s.tree.root ≡ is_some r.tree.root)
same_shape r s e =
    (ap (λ (x : rosters.Shape). x.level) e, ap (λ (x : rosters.Shape). x.nodes) e, ap (λ (x : rosters.Shape). x.spares) e, ap (λ (x : rosters.Shape). x.index) e, ap (λ (x : rosters.Shape). x.rooted) e)

pub spare_more : (r s : RosterState) (p : Place) → s ≡ with_spare p r
    → (s.tree.level ≡ r.tree.level) × (length s.known.places ≡ length r.known.places + 1) × (length s.tree.spares ≡ length r.tree.spares + 1) × (s.known.index ≡ r.known.index) × (is_some s.tree.root ≡ is_some r.tree.root)
spare_more r s p e = (
  ap (λ (x : RosterState). x.tree.level) e,
  ap (λ (x : RosterState). length x.known.places) e ∙ one_longer r.known.places p,
  ap (λ (x : RosterState). length x.tree.spares) e ∙ one_longer r.tree.spares p,
  ap (λ (x : RosterState). x.known.index) e,
  ap (λ (x : RosterState). is_some x.tree.root) e,
)

-- what holds while nodes are placed, of the roster and the region at the beginning and now
pub record IsFilling (old now : RosterState) (before region : RegionState) (wanted : ℕ) : Type 0 where
  pub roster : IsRosterOf now (live_at region)
  pub free : 1 ≤ free_count region
  pub segments : HoldsSegments before region
  pub index : now.known.index ≡ old.known.index
  pub level : now.tree.level ≡ old.tree.level
  pub rooted : is_some now.tree.root ≡ is_some old.tree.root
  pub spare : length now.tree.spares ≤ most_spares
  pub room : live_total region + node_object * (wanted - length now.tree.spares) ≤ room (held_count region)
  pub nodes : length now.known.places + length old.tree.spares ≡ length old.known.places + length now.tree.spares
  pub total : live_total region + node_object * length old.known.places ≡ live_total before + node_object * length now.known.places

pub filling_none : (r : RosterState) (region : RegionState) (wanted : ℕ) → IsRosterOf r (live_at region) → 1 ≤ free_count region
    → live_total region + node_object * (wanted - length r.tree.spares) ≤ room (held_count region) → length r.tree.spares ≤ most_spares → IsFilling r r region region wanted
filling_none r region wanted roster free space spare =
    record { roster = roster; free = free; segments = segments_self region; index = refl; level = refl; rooted = refl; spare = spare; room = space; nodes = refl; total = refl }

pub filling_more : (old now more : RosterState) (before region next : RegionState) (wanted : ℕ) → IsFilling old now before region wanted → length now.tree.spares < wanted → wanted ≤ most_spares
    → IsRosterOf more (live_at next) → 1 ≤ free_count next → HoldsSegments region next → more.known.index ≡ now.known.index → more.tree.level ≡ now.tree.level → is_some more.tree.root ≡ is_some now.tree.root
    → length more.tree.spares ≡ length now.tree.spares + 1 → length more.known.places ≡ length now.known.places + 1 → live_total next ≡ live_total region + node_object
    → IsFilling old more before next wanted
filling_more old now more before region next wanted f fewer small roster free segments index level rooted spares nodes total = record {
  roster = roster;
  free = free;
  segments = segments_again before region next f.segments segments;
  index = index ∙ f.index;
  level = level ∙ f.level;
  rooted = rooted ∙ f.rooted;
  spare = omega (arith, spares, fewer, small);
  room = subst (λ k. live_total next + node_object * (wanted - length more.tree.spares) ≤ room k) (sym segments.held) (let was = f.room in omega (arith, was, spares, total, fewer));
  nodes = (let was = f.nodes in omega (arith, was, spares, nodes));
  total = (let was = f.total in omega (arith, was, nodes, total));
}
