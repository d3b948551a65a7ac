-- An index whose nodes were written over, so that they are another tree.
use Rattle.std.proofs.Common.{◌≡◌, ℕ, ◌*◌, ◌≤◌, ◌⊎◌, length, Some, sym, ap, subst, ◌∙◌, arith}
use Rattle.std.specs.Prelude.{IsSome}
use Rattle.std.specs.List.{count_by}
use Rattle.regions.specs.Segments.{RegionState}
use Rattle.regions.specs.Shapes.{Shape, active_in, held_count, is_free, is_held, shape}
use Rattle.regions.specs.Counts.{live_total}
use Rattle.regions.specs.Contents.{live_at}
use Rattle.regions.specs.declared.place.Place.{Place}
use Rattle.index_tree.specs.Indexes.{IsIndex}
use Rattle.index_tree.specs.Sizes.{most, node_object}
use Rattle.index_tree.specs.Limits.{most_spares}
use Rattle.index_tree.specs.inside.Consistent.{IsConsistent}
use Rattle.index_tree.specs.inside.Rosters.{IsRosterOf, RosterState}

abbrev HasFreeOf : Shape → Type 0
HasFreeOf x = (1 ≤ count_by is_free x.slots) ⊎ ((count_by is_held x.slots ≡ 0) ⊎ ((count_by is_held x.slots ≤ 1) × IsSome (active_in x.groups 0)))

-- the index that the nodes hold from now on
pub consistent_settled : (r s : RosterState) (region next : RegionState) (keys now segments : ℕ) → IsConsistent r region keys segments → IsRosterOf s (live_at next) → IsIndex s.known.index
    → length s.tree.spares ≤ most_spares → ((p : Place) → s.tree.root ≡ Some p → 1 ≤ length s.known.index) → now ≡ length s.known.index → length s.known.index ≤ most (held_count region)
    → live_total next ≡ node_object * length s.known.places → shape next ≡ shape region → IsConsistent s next now segments
consistent_settled r s region next keys now segments i roster rising spare some len room counted same =
    let held : held_count next ≡ held_count region = ap (λ (x : Shape). count_by is_held x.slots) same in
    let numbers : (shape next).most ≡ (shape region).most = ap (λ (x : Shape). x.most) same in
    let few = i.few in let most_were = i.numbers in
    record {
      one = ap (λ (x : Shape). length x.groups) same ∙ i.one;
      roster = roster;
      rising = rising;
      spare = spare;
      some = some;
      len = len;
      held = i.held ∙ sym held;
      few = omega (arith, held, few);
      numbers = omega (arith, numbers, most_were);
      free = subst (λ (x : Shape). HasFreeOf x) (sym same) i.free;
      counted = counted;
      room = subst (λ k. length s.known.index ≤ most k) (sym held) room;
    }
