-- A key put into a whole tree whose spare nodes are ready.
use Rattle.std.proofs.Common.{◌≡◌, ℕ, ◌+◌, ◌<◌, ◌≤◌, Bool, true, false, true≢false, cond, List, [], ◌∷◌, ◌++◌, All, length, drop, Option, Some, None, refl, sym, ap, subst, ◌∙◌, arith, length-append, Ordering, Less, Equal, Greater}
use Rattle.std.specs.Prelude.{is_some, not, option_map}
use mir.Val.{bool_byte}
use Rattle.std.specs.Ordering.{is_eq}
use Rattle.std.specs.List.{find}
use Rattle.std.proofs.lemmas.List.{length-take-le}
use Rattle.std.proofs.lemmas.List.Elements.{All-cons, All-nil, All-weaker}
use Rattle.regions.specs.Segments.{RegionState}
use Rattle.regions.specs.Shapes.{held_count}
use Rattle.std.specs.List.{sum}
use Rattle.regions.specs.Contents.{live_at}
use Rattle.regions.specs.Stores.{Live}
use Rattle.regions.specs.declared.place.Place.{Place}
use Rattle.tree_nodes.specs.Nodes.{Entry}
use Rattle.tree_nodes.specs.Order.{AreRising, IsBelow, key_cmp}
use Rattle.index_tree.specs.Indexes.{Index, above, below, number_of, with_number}
use Rattle.index_tree.specs.Inserts.{IsRoom, Plants, Touched, times}
use Rattle.regions.specs.Places.{HasRoom}
use Rattle.index_tree.specs.Sizes.{most}
use Rattle.index_tree.specs.Store.{HoldsNode, nodes_of}
use Rattle.index_tree.specs.Trees.{IsSpare, nodes_below, places_of}
use Rattle.index_tree.specs.inside.Consistent.{IsConsistent}
use Rattle.index_tree.specs.inside.Rosters.{IsRosterOf, RosterState, settled}
use Rattle.index_tree.specs.Ways.{AllAbove}
use Rattle.index_tree.proofs.GrownRoster.{grown_roster}
use Rattle.index_tree.proofs.InsertOrder.{with_number_between, with_number_front, with_number_here}
use Rattle.index_tree.proofs.InsertRows.{all_by_times, times_append}
use Rattle.index_tree.proofs.Neighbors.{node_here}
use Rattle.index_tree.proofs.Once.{once_of_apart, stands_at}
use Rattle.index_tree.proofs.SearchLists.{number_amid}
use Rattle.index_tree.proofs.SearchNode.{is_live}
use Rattle.index_tree.proofs.SearchWay.{held_rises}
use Rattle.index_tree.proofs.Settled.{consistent_settled}
use Rattle.index_tree.proofs.KeyOrder.{greater_less, less_less, tied}

-- ---- what the insertion asks

module _ (r : RosterState) (live : Live) (is : IsRosterOf r live) where
  holds_all : (ps : List Place) → ((q : Place) → 1 ≤ times q ps → 1 ≤ times q (places_of (nodes_of live) r.tree)) → All (HoldsNode live) ps
  holds_all ps within = all_by_times (HoldsNode live) ps (λ q some.
      (let there = stands_at q (places_of (nodes_of live) r.tree) (within q some) in
      let node = node_here (nodes_of live) r.tree (record { rooted = is.tree.rooted; linked = is.tree.linked; idle = is.tree.idle; apart = is.tree.apart }) q there in
      is.holds q (is_live live q node.0 node.1)))

  pub spares_hold : All (HoldsNode live) r.tree.spares
  spares_hold = holds_all r.tree.spares (λ q some. (let both = times_append q r.tree.spares (nodes_below (nodes_of live) r.tree.level r.tree.root) in omega (arith, some, both)))

  pub spares_roomy : All HasRoom r.tree.spares
  spares_roomy = All-weaker (IsSpare (nodes_of live)) HasRoom (λ p s. s.room) r.tree.spares is.tree.idle

  pub room_there : (p : Place) → r.tree.root ≡ Some p → (key : List ℕ) (number : ℕ) → r.tree.level < length r.tree.spares → IsRoom live r.tree.level p r.tree.spares key number
  room_there p e key number many = record {
    parent = None;
    low = None;
    high = None;
    subtree = is.tree.rooted p e;
    from = tt;
    up_to = tt;
    below = holds_all below_it (λ q some. (let both = whole q in omega (arith, some, both)));
    spares_hold = spares_hold;
    rooms = spares_roomy;
    once = λ q.
        (let low = once_of_apart (places_of (nodes_of live) r.tree) is.tree.apart q in let both = whole q in let turned = times_append q below_it r.tree.spares in
        omega (arith, low, both, turned));
    many = many;
  }
    where
      below_it : List Place
      below_it = nodes_below (nodes_of live) r.tree.level (Some p)

      whole : (q : Place) → times q (places_of (nodes_of live) r.tree) ≡ times q r.tree.spares + times q below_it
      whole q = times_append q r.tree.spares (nodes_below (nodes_of live) r.tree.level r.tree.root)
          ∙ ap (λ (o : Option Place). times q r.tree.spares + times q (nodes_below (nodes_of live) r.tree.level o)) e

-- ---- how many keys there are then

abbrev pub one_if : Option ℕ → ℕ
one_if None = 0
one_if (Some n) = 1

pub equal_here : (key : List ℕ) (e : Entry) (es : List Entry) (o : Ordering) → key_cmp e.key key ≡ o → number_of key (e ∷ es) ≡ cond (is_eq o) (Some e.number) (number_of key es)
equal_here key e es o is = ap (λ (x : Ordering). option_map (λ (y : Entry). y.number) (cond (is_eq x) (Some e) (find (λ y. is_eq (key_cmp y.key key)) es))) is ∙ go o
  where
    go : (o : Ordering) → option_map (λ (y : Entry). y.number) (cond (is_eq o) (Some e) (find (λ y. is_eq (key_cmp y.key key)) es)) ≡ cond (is_eq o) (Some e.number) (number_of key es)
    go Less = refl
    go Equal = refl
    go Greater = refl

pub length_with : (key : List ℕ) (number : ℕ) (es : Index) → AreRising es → length (with_number key number es) + one_if (number_of key es) ≡ length es + 1
length_with key number [] rise = refl
length_with key number (e ∷ es) rise = go (length_with key number es rise.1) (key_cmp e.key key) refl
  where
    go : length (with_number key number es) + one_if (number_of key es) ≡ length es + 1 → (o : Ordering) → key_cmp e.key key ≡ o
        → length (with_number key number (e ∷ es)) + one_if (number_of key (e ∷ es)) ≡ length (e ∷ es) + 1
    go rest Less is =
        let long = ap (λ (t : Index). length t) (with_number_front key number (e ∷ []) es (All-cons (λ x. IsBelow x.key key) e [] is (All-nil (λ x. IsBelow x.key key)))) in
        let has = ap (λ o. one_if o) (equal_here key e es Less is) in
        omega (arith, rest, long, has)
    go rest Equal is =
        let all : AllAbove key es = subst (λ (k : List ℕ). AllAbove k es) (tied e.key key is) rise.0 in
        let long = ap (λ (t : Index). length t)
        (subst (λ (k : List ℕ). with_number key number (record { key = k; number = e.number } ∷ es) ≡ record { key = key; number = number } ∷ es) (sym (tied e.key key is))
        (with_number_here key number e.number [] es (All-nil (λ x. IsBelow x.key key)) all)) in
        let has = ap (λ o. one_if o) (equal_here key e es Equal is) in
        omega (arith, long, has)
    go rest Greater is =
        let over = greater_less e.key key is in
        let all : AllAbove key (e ∷ es) = All-cons (λ x. IsBelow key x.key) e es over (All-weaker (λ x. IsBelow e.key x.key) (λ x. IsBelow key x.key) (λ x h. less_less key e.key x.key over h) es rise.0) in
        let long = ap (λ (t : Index). length t) (with_number_between key number [] (e ∷ es) (All-nil (λ x. IsBelow x.key key)) all) in
        let has = ap (λ o. one_if o) (number_amid key [] [] (e ∷ es) (All-nil (λ x. IsBelow x.key key)) all) in
        omega (arith, long, has)

-- the count of keys rises by one where the key was not there
pub counted_after : (had : Option ℕ) (none : Bool) (more keys : ℕ) → is_some had ≡ not none → more ≡ bool_byte none → keys + more + one_if had ≡ keys + 1
counted_after None true more keys e m = omega (arith, m)
counted_after None false more keys e m = absurd (true≢false (sym e))
counted_after (Some n) true more keys e m = absurd (true≢false e)
counted_after (Some n) false more keys e m = omega (arith, m)

-- ---- what stands then

pub some_key : (key : List ℕ) (number : ℕ) (es : Index) → 1 ≤ length (with_number key number es)
some_key key number es = let long = length-append (below key es) (record { key = key; number = number } ∷ above key es) in omega (arith, long)

module _ (r : RosterState) (old new : RegionState) (keys segments n higher : ℕ) (top : Place) (key : List ℕ) (number : ℕ) (is : IsConsistent r old keys segments)
    (planted : Plants (nodes_of (live_at old)) (nodes_of (live_at new)) r.tree.level r.tree.root higher top key number (drop n r.tree.spares))
    (touched : Touched (nodes_below (nodes_of (live_at old)) r.tree.level r.tree.root ++ r.tree.spares) old new) where
  abbrev after : RosterState
  after = settled (nodes_of (live_at new)) (Some top) higher n r

  pub index_after : after.known.index ≡ with_number key number r.known.index
  index_after = planted.held ∙ ap (λ (x : Index). with_number key number x) is.roster.index

  pub consistent_after : (had : Option ℕ) (now : ℕ) → had ≡ number_of key r.known.index → now + one_if had ≡ keys + 1 → (had ≡ None → length r.known.index < most (held_count old)) → n ≤ length r.tree.spares
      → IsConsistent after new now segments
  consistent_after had now has count fewer short =
      consistent_settled r after old new keys now segments is
      (grown_roster (nodes_below (nodes_of (live_at old)) r.tree.level r.tree.root ++ r.tree.spares) old new touched r is.roster n higher top key number planted)
      (held_rises (nodes_of (live_at new)) higher None None None top planted.rooted)
      (let l = length-take-le n r.tree.spares short in let s = is.spare in omega (arith, l, s, short))
      (λ p e. subst (λ (x : Index). 1 ≤ length x) (sym index_after) (some_key key number r.known.index))
      (let l = long in let were = is.len in omega (arith, l, were, count))
      (within had refl)
      (ap (λ (ns : List ℕ). sum ns) touched.same.live ∙ is.counted)
      touched.same.shape
    where
      long : length after.known.index + one_if had ≡ length r.known.index + 1
      long = subst (λ (x : Index). length x + one_if had ≡ length r.known.index + 1) (sym index_after)
          (subst (λ (o : Option ℕ). length (with_number key number r.known.index) + one_if o ≡ length r.known.index + 1) (sym has) (length_with key number r.known.index is.rising))

      within : (o : Option ℕ) → had ≡ o → length after.known.index ≤ most (held_count old)
      within None e = let l = long in let one = ap (λ o. one_if o) e in let few = fewer e in omega (arith, l, one, few)
      within (Some m) e = let l = long in let one = ap (λ o. one_if o) e in let room = is.room in omega (arith, l, one, room)

-- ---- whether there was a number

pub none_told : (o : Option ℕ) (none : Bool) → is_some o ≡ not none → none ≡ true → o ≡ None
none_told None none e t = refl
none_told (Some n) none e t = absurd (true≢false (e ∙ ap not t))

pub some_told : (o : Option ℕ) (none : Bool) → is_some o ≡ not none → none ≡ false → o ≡ None → ⊥
some_told o none e f is = true≢false (sym (ap not f) ∙ (sym e ∙ ap (λ (x : Option ℕ). is_some x) is))
