-- A key taken out of a whole tree.
use Rattle.std.proofs.Common.{◌≡◌, ℕ, ◌+◌, ◌-◌, ◌*◌, ◌≤◌, true≢false, List, [], ◌∷◌, length, Option, Some, None, refl, sym, ap, subst, ◌∙◌, arith, length-append, Ordering, Less, Equal, Greater}
use Rattle.std.specs.Prelude.{IsSome}
use Rattle.std.specs.List.{sum}
use Rattle.std.proofs.lemmas.List.Elements.{All-cons, All-nil, All-weaker}
use Rattle.regions.specs.Segments.{RegionState}
use Rattle.regions.specs.Shapes.{shape}
use Rattle.regions.specs.Counts.{live_total}
use Rattle.regions.specs.Contents.{live_at}
use Rattle.regions.specs.Stores.{Live, SameBut}
use Rattle.regions.specs.declared.place.Place.{Place}
use Rattle.tree_nodes.specs.Order.{AreRising, IsBelow, key_cmp}
use Rattle.index_tree.specs.Indexes.{Index, IsIndex, above, below, number_of, without}
use Rattle.index_tree.specs.Inserts.{times}
use Rattle.index_tree.specs.Links.{Nodes}
use Rattle.index_tree.specs.Prunes.{Prunes}
use Rattle.index_tree.specs.Removes.{CanLose}
use Rattle.index_tree.specs.Sizes.{node_object}
use Rattle.index_tree.specs.Limits.{most_spares}
use Rattle.index_tree.specs.Store.{nodes_of}
use Rattle.index_tree.specs.Trees.{held_below, nodes_below, places_of}
use Rattle.index_tree.specs.Writes.{blank}
use Rattle.index_tree.specs.inside.Consistent.{IsConsistent}
use Rattle.index_tree.specs.inside.Rosters.{IsRosterOf, IsSameTree, RosterState, released}
use Rattle.index_tree.specs.Ways.{AllAbove}
use Rattle.index_tree.proofs.Counted.{some_below}
use Rattle.index_tree.proofs.InsertRows.{times_append}
use Rattle.index_tree.proofs.InsertedTree.{equal_here, length_with, one_if}
use Rattle.index_tree.proofs.Once.{once_of_apart}
use Rattle.index_tree.proofs.SearchLists.{without_behind, without_front}
use Rattle.index_tree.proofs.SearchWay.{held_rises}
use Rattle.index_tree.proofs.Settled.{consistent_settled}
use Rattle.index_tree.proofs.KeyOrder.{greater_less, less_less}

-- ---- what the removal asks

pub can_lose : (r : RosterState) (live : Live) → IsRosterOf r live → (root : Place) → r.tree.root ≡ Some root → (key : List ℕ)
    → CanLose (nodes_of live) r.tree.level root key
can_lose r live is root e key = record {
  parent = None;
  low = None;
  high = None;
  tree = is.tree.rooted root e;
  from = tt;
  up = tt;
  once = λ q.
      (let low = once_of_apart (places_of (nodes_of live) r.tree) is.tree.apart q in
      let both = times_append q r.tree.spares (nodes_below (nodes_of live) r.tree.level r.tree.root) in
      let here : times q (nodes_below (nodes_of live) r.tree.level r.tree.root) ≡ times q (nodes_below (nodes_of live) r.tree.level (Some root)) =
      ap (λ (o : Option Place). times q (nodes_below (nodes_of live) r.tree.level o)) e in
      omega (arith, low, both, here));
}

-- the number of a key below the root is that in the index
pub number_known : (r : RosterState) (live : Live) → IsRosterOf r live → (root : Place) → r.tree.root ≡ Some root → (level : ℕ) → level ≡ r.tree.level → (key : List ℕ)
    → number_of key (held_below (nodes_of live) level (Some root)) ≡ number_of key r.known.index
number_known r live is root e level same key =
    ap (λ l. number_of key (held_below (nodes_of live) l (Some root))) same
    ∙ (ap (λ (o : Option Place). number_of key (held_below (nodes_of live) r.tree.level o)) (sym e) ∙ ap (λ (x : Index). number_of key x) is.index)

-- ---- how many keys there are then

pub length_without : (key : List ℕ) (es : Index) → AreRising es → length (without key es) + one_if (number_of key es) ≡ length es
length_without key es rise =
    let more = length_with key 0 es rise in
    let with_it = length-append (below key es) (record { key = key; number = 0 } ∷ above key es) in
    let out = length-append (below key es) (above key es) in
    omega (arith, more, with_it, out)

-- without a key that is not there an index is the same
pub without_none : (key : List ℕ) (es : Index) → AreRising es → number_of key es ≡ None → without key es ≡ es
without_none key [] rise none = refl
without_none key (e ∷ es) rise none = go (λ n. without_none key es rise.1 n) (key_cmp e.key key) refl
  where
    go : (number_of key es ≡ None → without key es ≡ es) → (o : Ordering) → key_cmp e.key key ≡ o → without key (e ∷ es) ≡ e ∷ es
    go rest Less is =
        without_behind key (e ∷ []) es (All-cons (λ x. IsBelow x.key key) e [] is (All-nil (λ x. IsBelow x.key key)))
        ∙ ap (λ (t : Index). e ∷ t) (rest (sym (equal_here key e es Less is) ∙ none))
    go rest Equal is = absurd (let clash : Some e.number ≡ None = sym (equal_here key e es Equal is) ∙ none in cc)
    go rest Greater is =
        let over = greater_less e.key key is in
        let all : AllAbove key (e ∷ es) = All-cons (λ x. IsBelow key x.key) e es over (All-weaker (λ x. IsBelow e.key x.key) (λ x. IsBelow key x.key) (λ x h. less_less key e.key x.key over h) es rise.0) in
        without_front key [] (e ∷ es) all

-- ---- what stands then

rises_top : (new : Nodes) (lower : ℕ) (top : Option Place) → ((p : Place) → top ≡ Some p → AreRising (held_below new lower (Some p))) → IsIndex (held_below new lower top)
rises_top new lower None rise = tt
rises_top new lower (Some p) rise = rise p refl

one_of : (o : Option ℕ) → IsSome o → one_if o ≡ 1
one_of None h = absurd (true≢false (sym h))
one_of (Some n) h = refl

module _ (r s : RosterState) (old mid new : RegionState) (keys segments lower : ℕ) (root : Place) (top : Option Place) (key : List ℕ) (freed : List Place) (is : IsConsistent r old keys segments)
    (is_root : r.tree.root ≡ Some root) (has : IsSome (number_of key r.known.index)) (p : Prunes (nodes_of (live_at old)) (nodes_of (live_at mid)) r.tree.level root lower top key freed)
    (same : SameBut blank old mid) (trimmed : IsSameTree (released (nodes_of (live_at mid)) top lower freed r) s) where
  pub index_now : s.known.index ≡ without key r.known.index
  index_now =
      trimmed.index
      ∙ (p.held
      ∙ (ap (λ (o : Option Place). without key (held_below (nodes_of (live_at old)) r.tree.level o)) (sym is_root) ∙ ap (λ (x : Index). without key x) is.roster.index))

  pub consistent_now : IsRosterOf s (live_at new) → length s.tree.spares ≤ most_spares → (live_total mid ≡ node_object * length r.known.places → live_total new ≡ node_object * length s.known.places)
      → shape new ≡ shape mid → IsConsistent s new (keys - 1) segments
  consistent_now roster few counted shapes =
      let fewer : length s.known.index + 1 ≡ length r.known.index =
      (let l = length_without key r.known.index is.rising in let one = one_of (number_of key r.known.index) has in let e = ap (λ (x : Index). length x) index_now in omega (arith, l, one, e)) in
      let len = is.len in let room = is.room in
      consistent_settled r s old new keys (keys - 1) segments is roster
      (subst (λ (x : Index). IsIndex x) (sym trimmed.index) (rises_top (nodes_of (live_at mid)) lower top (λ q e. held_rises (nodes_of (live_at mid)) lower None None None q (p.rooted q e))))
      few
      (λ q e. subst (λ (x : Index). 1 ≤ length x) (sym trimmed.index)
      (let at : top ≡ Some q = sym trimmed.root ∙ e in
      subst (λ (o : Option Place). 1 ≤ length (held_below (nodes_of (live_at mid)) lower o)) (sym at)
      (some_below (nodes_of (live_at mid)) lower None None q (p.rooted q at) (p.some q at))))
      (omega (arith, fewer, len))
      (omega (arith, fewer, room))
      (counted (ap (λ (ns : List ℕ). sum ns) same.live ∙ is.counted))
      (shapes ∙ same.shape)
