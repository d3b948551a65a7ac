-- Where a key may be there at all, there is room for the spare nodes that an insertion takes.
use Rattle.std.proofs.Common.{◌≡◌, ℕ, suc, ◌+◌, ◌-◌, ◌*◌, ◌≤◌, inl, inr, true≢false, length, Option, Some, None, refl, sym, ap, subst, ◌∙◌, arith, length-append}
use Rattle.std.specs.Prelude.{is_some}
use Rattle.regions.specs.Segments.{RegionState}
use Rattle.regions.specs.Shapes.{free_count, held_count}
use Rattle.regions.specs.Counts.{live_total}
use Rattle.regions.specs.Contents.{live_at}
use Rattle.regions.specs.declared.place.Place.{Place}
use Rattle.segmented_store.specs.Room.{room}
use Rattle.index_tree.specs.Indexes.{Index, IsIndex}
use Rattle.index_tree.specs.Sizes.{most, node_object}
use Rattle.segmented_store.specs.Segments.{HoldsSegments}
use Rattle.index_tree.specs.Store.{levels, levels_if, nodes_of}
use Rattle.index_tree.specs.Limits.{most_spares}
use Rattle.index_tree.specs.Trees.{nodes_below, places_of}
use Rattle.index_tree.specs.inside.Consistent.{HasFree, IsConsistent}
use Rattle.index_tree.specs.inside.Rosters.{IsRosterOf, RosterState}
use Rattle.index_tree.proofs.Counted.{eight_fit, few_nodes}
use Rattle.index_tree.proofs.Lengths.{same_length}
use Rattle.index_tree.proofs.Mended.{some_node}
use Rattle.index_tree.proofs.Neighbors.{node_here}
use Rattle.place_lemmas.proofs.Places.{is_some_by}

-- the list of all nodes is as long as that of the tree's
pub listed_length : (r : RosterState) (region : RegionState) → IsRosterOf r (live_at region)
    → length r.known.places ≡ length r.tree.spares + length (nodes_below (nodes_of (live_at region)) r.tree.level r.tree.root)
listed_length r region is =
    let nodes = nodes_of (live_at region) in
    same_length r.known.places (places_of nodes r.tree) is.listed.apart is.tree.apart
    (λ p among.
    let there = some_node (nodes p) (is.listed.stands among.0 p among.1) in
    is.tree.every p there.0 there.1)
    (λ p among.
    let n = node_here nodes r.tree (record { rooted = is.tree.rooted; linked = is.tree.linked; idle = is.tree.idle; apart = is.tree.apart }) p among in
    is.listed.every p n.0 n.1)
    ∙ length-append r.tree.spares (nodes_below nodes r.tree.level r.tree.root)

pub room_for : (r : RosterState) (region : RegionState) (keys segments wanted : ℕ) → IsConsistent r region keys segments → 1 ≤ most (held_count region) → wanted ≤ most_spares
    → live_total region + node_object * (wanted - length r.tree.spares) ≤ room (held_count region)
room_for r region keys segments wanted i some small =
    let below = length (nodes_below (nodes_of (live_at region)) r.tree.level r.tree.root) in
    let few = few_nodes (nodes_of (live_at region)) r.tree i.roster.tree in
    let held : 64 * below ≤ 9 * keys + 64 = subst (λ k. 64 * below ≤ 9 * k + 64) (ap (λ x. length x) i.roster.index ∙ sym i.len) few in
    let within : keys ≤ most (held_count region) = subst (λ k. k ≤ most (held_count region)) (sym i.len) i.room in
    let fit = eight_fit keys below (held_count region) held within some in
    let listed = listed_length r region i.roster in
    let counted = i.counted in let spares = i.spare in
    omega (arith, fit, listed, counted, spares, small)

free_one : (region : RegionState) → HasFree region → 3 ≤ held_count region → 1 ≤ free_count region
free_one region free held = elim free [
  | inl some ↦ some
  | inr few ↦ elim few [ inl none ↦ absurd (omega (arith, none, held)) | inr one ↦ (let short = one.0 in absurd (omega (arith, short, held))) ]
]

same_levels : (o p : Option Place) (l m : ℕ) → is_some o ≡ is_some p → l ≡ m → levels_if o l ≡ levels_if p m
same_levels None None l m same is = refl
same_levels None (Some q) l m same is = absurd (true≢false (sym same))
same_levels (Some p) None l m same is = absurd (true≢false same)
same_levels (Some p) (Some q) l m same is = ap (λ n. suc n) is

rooted_was : (o : Option Place) (p : Place) (b : Option Place) → is_some o ≡ is_some b → o ≡ Some p → (q : Place) × (b ≡ Some q)
rooted_was o p b same e = is_some_by b (sym same ∙ ap (λ (x : Option Place). is_some x) e)

-- what is consistent stays so while spare nodes are placed
pub filled : (r s : RosterState) (region next : RegionState) (keys segments : ℕ) → IsConsistent r region keys segments → IsRosterOf s (live_at next) → s.known.index ≡ r.known.index
    → is_some s.tree.root ≡ is_some r.tree.root → length s.tree.spares ≤ most_spares → 1 ≤ free_count next → HoldsSegments region next
    → live_total next + node_object * length r.known.places ≡ live_total region + node_object * length s.known.places → IsConsistent s next keys segments
filled r s region next keys segments i roster index rooted spare free same total =
    let were = i.held in let few = i.few in let held = same.held in let numbers = i.numbers in let most_same = same.most in let counted = i.counted in
    record {
      one = same.groups ∙ i.one;
      roster = roster;
      rising = subst (λ (x : Index). IsIndex x) (sym index) i.rising;
      spare = spare;
      some = λ p e.
          (let was = rooted_was s.tree.root p r.tree.root rooted e in
          subst (λ (x : Index). 1 ≤ length x) (sym index) (i.some was.0 was.1));
      len = i.len ∙ ap (λ (x : Index). length x) (sym index);
      held = i.held ∙ sym held;
      few = omega (arith, held, few);
      numbers = omega (arith, most_same, numbers);
      free = inl free;
      counted = omega (arith, counted, total);
      room = subst (λ (x : Index). length x ≤ most (held_count next)) (sym index) (subst (λ k. length r.known.index ≤ most k) (sym held) i.room);
    }

pub levels_filled : (r s : RosterState) → is_some s.tree.root ≡ is_some r.tree.root → s.tree.level ≡ r.tree.level → levels s.tree ≡ levels r.tree
levels_filled r s rooted level = same_levels s.tree.root r.tree.root s.tree.level r.tree.level rooted level

pub free_there : (r : RosterState) (region : RegionState) (keys segments : ℕ) → IsConsistent r region keys segments → 3 ≤ held_count region → 1 ≤ free_count region
free_there r region keys segments i held = free_one region i.free held
