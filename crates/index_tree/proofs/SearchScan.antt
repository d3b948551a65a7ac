-- Keys written leaf by leaf.
use borrow.Rule.Slice.PartMut.{put_mid}
use Rattle.std.proofs.Common.{◌≡◌, ℕ, zero, suc, ◌+◌, ◌-◌, ◌<◌, ◌≤◌, ◌⊎◌, inl, inr, true, false, true≢false, get_or, refl, sym, ap, subst, ◌∙◌, arith, length-append, append_assoc, append-nil, Ordering, Less, Equal, Greater, is_lt}
use Rattle.std.specs.Prelude.{List, [], ◌∷◌, ◌++◌, All, length, take, drop, Option, Some, None}
use Rattle.std.specs.Prelude.{IfSome}
use Rattle.std.specs.List.{flat_map}
use Rattle.std.specs.Ordering.{is_le}
use Rattle.std.proofs.lemmas.List.{drop-drop, drop_all, length-drop, length-take, take-append-le, take_all, take_more, take_rest, take-append-drop, get_or-drop}
use Rattle.std.proofs.lemmas.List.Elements.{All-get_or, All-head, All-nil, All-tail, All-weaker}
use Rattle.std.proofs.lemmas.Grind.{flat_map-append}
use Rattle.std.proofs.Math.Seq.{take-append_seam, drop-append_seam}
use Rattle.regions.specs.declared.place.Place.{Place}
use Rattle.tree_nodes.specs.Nodes.{Entry, TreeNode, CanStand, IsEntry, entry_at, no_entry}
use Rattle.tree_nodes.specs.Order.{AreRising, IsBelow, count_below, key_cmp}
use Rattle.index_tree.specs.Indexes.{from}
use Rattle.regions.specs.Places.{led_to}
use Rattle.index_tree.specs.Links.{Nodes}
use Rattle.index_tree.specs.Scans.{IsWritten, written}
use Rattle.index_tree.specs.Trees.{AreLinked, IsSubtree, entries_of, held_below, leaves_below, next_at, next_in}
use Rattle.index_tree.specs.Ways.{IsOnWay, held_in}
use Rattle.place_lemmas.proofs.Places.{leads_on, some_none, some_same}
use Rattle.index_tree.proofs.SearchLists.{all_kept, from_amid}
use Rattle.index_tree.proofs.SearchNode.{SplitsAt, splits}
use Rattle.index_tree.proofs.SearchWay.{from_there}
use Rattle.index_tree.proofs.SearchLeaves.{IsFull, IsLeaf, behind_full, way_leaf, way_leaves}
use Rattle.index_tree.proofs.KeyOrder.{greater_less}

-- ---- what is written in two parts

front_is : {es : List Entry} {keys bytes : ℕ} {old new : List ℕ} → IsWritten es keys bytes old new → take bytes new ≡ flat_map written es
front_is {es} {keys} {bytes} {old} {new} w =
    let front : List ℕ = flat_map written es in
    ap (λ (n : ℕ). take n new) w.bytes_are ∙ (ap (take (length front)) w.front ∙ take-append_seam front (drop bytes old))

behind_is : {es : List Entry} {keys bytes : ℕ} {old new : List ℕ} → IsWritten es keys bytes old new → drop bytes new ≡ drop bytes old
behind_is {es} {keys} {bytes} {old} {new} w =
    let front : List ℕ = flat_map written es in
    ap (λ (n : ℕ). drop n new) w.bytes_are ∙ (ap (drop (length front)) w.front ∙ drop-append_seam front (drop bytes old))

pub joined : {es fs : List Entry} {keys bytes more_keys more_bytes : ℕ} {old mid part : List ℕ}
    → IsWritten es keys bytes old mid → IsWritten fs more_keys more_bytes (take (length mid - bytes) (drop bytes mid)) part
    → IsWritten (es ++ fs) (keys + more_keys) (bytes + more_bytes) old (put_mid bytes (length mid - bytes) mid part)
joined {es} {fs} {keys} {bytes} {more_keys} {more_bytes} {old} {mid} {part} w v =
    let one : List ℕ = flat_map written es in
    let two : List ℕ = flat_map written fs in
    let both : flat_map written (es ++ fs) ≡ one ++ two = flat_map-append written es fs in
    let k = w.keys_are in let l = v.keys_are in let b = w.bytes_are in let c = v.bytes_are in let r = w.room in let s = v.room in
    let many = length-append es fs in
    let longer = ap (λ (t : List ℕ). length t) both in
    let long = length-append one two in
    let none : drop (length mid - bytes) (drop bytes mid) ≡ [] = drop_all (length mid - bytes) (drop bytes mid) (omega (arith, length-drop bytes mid)) in
    record {
      keys_are = omega (arith, many, k, l);
      bytes_are = omega (arith, longer, long, b, c);
      room = omega (arith, r, s);
      front =
          ap (λ (t : List ℕ). take bytes mid ++ (part ++ t)) none
          ∙ (ap (λ (t : List ℕ). take bytes mid ++ t) (append-nil part ∙ (v.front ∙ ap (λ (t : List ℕ). two ++ drop more_bytes t) (take_rest mid bytes)))
          ∙ (ap (λ (t : List ℕ). t ++ (two ++ drop more_bytes (drop bytes mid))) (front_is w)
          ∙ (ap (λ (t : List ℕ). one ++ (two ++ t)) (ap (drop more_bytes) (behind_is w) ∙ drop-drop more_bytes bytes old)
          ∙ (sym (append_assoc one two (drop (bytes + more_bytes) old)) ∙ ap (λ (t : List ℕ). t ++ drop (bytes + more_bytes) old) (sym both)))));
    }

-- ---- one entry more of a leaf

-- one entry, written by itself
pub one_written : (e : Entry) (more : ℕ) (part put : List ℕ) → length e.key ≤ 256 → more ≡ 2 + length e.key → put ≡ written e ++ drop more part → IsWritten (e ∷ []) 1 more part put
one_written e more part put short is are =
    let long = length-append (written e) [] in
    let wide : length (written e) ≡ 2 + length e.key = omega arith in
    record {
      keys_are = refl;
      bytes_are = omega (arith, long, wide, is);
      room = omega (arith, is, short);
      front = are ∙ ap (λ (t : List ℕ). t ++ drop more part) (sym (append-nil (written e)));
    }

module _ (node : TreeNode) (stands : CanStand node) (first : ℕ) where
  short_key : (k : ℕ) → k < length node.entries → length (entry_at node k).key ≤ 256
  short_key k within = (All-get_or IsEntry node.entries k no_entry within stands.entries).short_key

  pub entry_more : (i keys bytes more : ℕ) (old mid put : List ℕ) → i ≡ first + keys → i < length node.entries → more ≡ 2 + length (entry_at node i).key
      → put ≡ written (entry_at node i) ++ drop more (take (length mid - bytes) (drop bytes mid))
      → IsWritten (take keys (drop first node.entries)) keys bytes old mid
      → IsWritten (take (keys + 1) (drop first node.entries)) (keys + 1) (bytes + more) old (put_mid bytes (length mid - bytes) mid put)
  entry_more i keys bytes more old mid put is within more_is are w =
      let es : List Entry = drop first node.entries in
      let size = length-drop first node.entries in
      let same : get_or es keys no_entry ≡ entry_at node i = get_or-drop first node.entries keys no_entry ∙ ap (λ n. get_or node.entries n no_entry) (sym is) in
      subst (λ (xs : List Entry). IsWritten xs (keys + 1) (bytes + more) old (put_mid bytes (length mid - bytes) mid put))
      (ap (λ (e : Entry). take keys es ++ e ∷ []) (sym same) ∙ sym (take_more es keys no_entry (omega (arith, size, within, is))))
      (joined w (one_written (entry_at node i) more (take (length mid - bytes) (drop bytes mid)) put (short_key i within) more_is are))

-- ---- what a leaf has from a key on

least_is_from : (key : List ℕ) (e : Entry) → is_lt (key_cmp e.key key) ≡ false → is_le (key_cmp key e.key) ≡ true
least_is_from key e least = go (key_cmp key e.key) refl
  where
    go : (o : Ordering) → key_cmp key e.key ≡ o → is_le (key_cmp key e.key) ≡ true
    go Less is = ap is_le is
    go Equal is = ap is_le is
    go Greater is = absurd (true≢false (sym (ap is_lt (greater_less key e.key is)) ∙ least))

pub from_is : (es : List Entry) (key : List ℕ) (n : ℕ) → AreRising es → n ≡ count_below es key → from key es ≡ drop n es
from_is es key n rise counted =
    let cut : SplitsAt es key n = subst (λ k. SplitsAt es key k) (sym counted) (splits key es rise) in
    let whole : es ≡ take n es ++ (drop n es ++ []) = sym (take-append-drop n es) ∙ ap (λ (t : List Entry). take n es ++ t) (sym (append-nil (drop n es))) in
    ap (λ (t : List Entry). from key t) whole
    ∙ (from_amid key (take n es) (drop n es) [] cut.below (All-nil (λ e. IsBelow key e.key))
    ∙ (append-nil (from key (drop n es))
    ∙ all_kept (λ e. is_le (key_cmp key e.key)) (drop n es) (All-weaker (λ e. is_lt (key_cmp e.key key) ≡ false) (λ e. is_le (key_cmp key e.key) ≡ true) (least_is_from key) (drop n es) cut.least)))

-- ---- along the leaves

taken : (count keys : ℕ) (xs ys : List Entry) → length xs ≡ keys → keys < count → take count (xs ++ ys) ≡ xs ++ take (count - keys) ys
taken count keys xs ys long less =
    ap (λ n. take n (xs ++ ys)) {x = count} {y = length xs + (count - keys)} (omega arith) ∙ go xs (count - keys)
  where
    go : (zs : List Entry) (n : ℕ) → take (length zs + n) (zs ++ ys) ≡ zs ++ take n ys
    go [] n = ap (λ k. take k ys) {x = 0 + n} {y = n} (omega arith)
    go (z ∷ zs) n = ap (λ k. take k (z ∷ (zs ++ ys))) {x = suc (length zs) + n} {y = suc (length zs + n)} (omega arith) ∙ ap (λ (t : List Entry). z ∷ t) (go zs n)

-- leaves that are linked, from one on
pub linked_from : (nodes : Nodes) (front : List Place) (q : Place) (behind : List Place) → AreLinked nodes (front ++ (q ∷ behind)) → AreLinked nodes (q ∷ behind)
linked_from nodes [] q behind linked = linked
linked_from nodes (p ∷ []) q behind linked = linked.1
linked_from nodes (p ∷ r ∷ front) q behind linked = linked_from nodes (r ∷ front) q behind linked.1

-- So many of all are written, up to the end of the leaf at a place or as many as are wanted; the other leaves are full, and linked.
pub record IsAlong (nodes : Nodes) (all : List Entry) (count : ℕ) (at : Place) (keys bytes : ℕ) (old new : List ℕ) : Type 0 where
  pub done : List Entry
  pub rest : List Place
  pub split : all ≡ done ++ held_in nodes rest
  pub written : IsWritten (take count done) keys bytes old new
  pub leaves : All (IsLeaf nodes) (at ∷ rest)
  pub full : All (IsFull nodes) rest
  pub linked : AreLinked nodes (at ∷ rest)

module _ {nodes : Nodes} {all : List Entry} {count : ℕ} {at : Place} {keys bytes : ℕ} {old new : List ℕ} (along : IsAlong nodes all count at keys bytes old new) where
  pub few_keys : keys ≤ count
  few_keys = let k = along.written.keys_are in let l = length-take count along.done in omega (arith, k, l)

  -- as many as are wanted
  pub all_written : count ≤ keys → IsWritten (take count all) keys bytes old new
  all_written enough =
      let k = along.written.keys_are in let l = length-take count along.done in
      subst (λ (xs : List Entry). IsWritten xs keys bytes old new)
      (sym (ap (λ (xs : List Entry). take count xs) along.split ∙ take-append-le count along.done (held_in nodes along.rest) (omega (arith, k, l, enough))))
      along.written

  -- the next leaf
  abbrev pub Next : ℕ → Type 0
  Next link = ((led_to link ≡ None) × (along.rest ≡ [])) ⊎ ((q : Place) × (led_to link ≡ Some q) × ((behind : List Place) × (along.rest ≡ q ∷ behind)))

  pub next_is : (link : ℕ) → IfSome (nodes at) (λ node. link ≡ node.next_leaf) → Next link
  next_is link read = go along.rest along.leaves along.linked refl
    where
      here : IsLeaf nodes at → link ≡ next_at nodes at
      here leaf = subst (λ (o : Option TreeNode). IfSome o (λ node. link ≡ node.next_leaf)) leaf.is read ∙ sym (ap (λ (o : Option TreeNode). next_in o) leaf.is)

      go : (rest : List Place) → All (IsLeaf nodes) (at ∷ rest) → AreLinked nodes (at ∷ rest) → along.rest ≡ rest → Next link
      go [] leaves linked is = inl (ap (λ l. led_to l) (here (All-head (IsLeaf nodes) at [] leaves) ∙ linked), is)
      go (q ∷ behind) leaves linked is =
          let room = (All-head (IsLeaf nodes) q behind (All-tail (IsLeaf nodes) at (q ∷ behind) leaves)).room in
          inr (q, ap (λ l. led_to l) (here (All-head (IsLeaf nodes) at (q ∷ behind) leaves) ∙ linked.0) ∙ leads_on (Some q) room, (behind, is))

  -- where there is none
  pub end_written : (link : ℕ) → IfSome (nodes at) (λ node. link ≡ node.next_leaf) → led_to link ≡ None → IsWritten (take count all) keys bytes old new
  end_written link read none = elim (next_is link read) [
    | inl e ↦
        subst (λ (xs : List Entry). IsWritten (take count xs) keys bytes old new)
        (sym (along.split ∙ (ap (λ (ps : List Place). along.done ++ held_in nodes ps) e.1 ∙ append-nil along.done)))
        along.written
    | inr e ↦ some_none e.1 none
  ]

  -- the next leaf is one, and as full as each but the root
  pub next_leaf : (link : ℕ) (q : Place) → IfSome (nodes at) (λ node. link ≡ node.next_leaf) → led_to link ≡ Some q → IsLeaf nodes q × IsFull nodes q
  next_leaf link q read is = elim (next_is link read) [
    | inl e ↦ some_none is e.0
    | inr e ↦
        (let same : e.0 ≡ q = some_same e.1 is in
        let leaves = subst (λ (ps : List Place). All (IsLeaf nodes) (at ∷ ps)) e.2.1 along.leaves in
        let full = subst (λ (ps : List Place). All (IsFull nodes) ps) e.2.1 along.full in (
          subst (IsLeaf nodes) same (All-head (IsLeaf nodes) e.0 e.2.0 (All-tail (IsLeaf nodes) at (e.0 ∷ e.2.0) leaves)),
          subst (IsFull nodes) same (All-head (IsFull nodes) e.0 e.2.0 full),
        ))
  ]

  -- and its entries are written behind
  pub goes_on : (link : ℕ) (q : Place) (more_keys more_bytes : ℕ) (part : List ℕ) → IfSome (nodes at) (λ node. link ≡ node.next_leaf) → led_to link ≡ Some q → keys < count
      → IfSome (nodes q) (λ node. IsWritten (take (count - keys) (drop 0 node.entries)) more_keys more_bytes (take (length new - bytes) (drop bytes new)) part)
      → IsAlong nodes all count q (keys + more_keys) (bytes + more_bytes) old (put_mid bytes (length new - bytes) new part)
  goes_on link q more_keys more_bytes part read is less more = elim (next_is link read) [
    | inl e ↦ some_none is e.0
    | inr e ↦
        (let same : e.0 ≡ q = some_same e.1 is in
        let rest : along.rest ≡ q ∷ e.2.0 = e.2.1 ∙ ap (λ (p : Place). p ∷ e.2.0) same in
        on e.2.0 rest)
  ]
    where
      on : (behind : List Place) → along.rest ≡ q ∷ behind → IsAlong nodes all count q (keys + more_keys) (bytes + more_bytes) old (put_mid bytes (length new - bytes) new part)
      on behind rest =
          let leaves = All-tail (IsLeaf nodes) at (q ∷ behind) (subst (λ (ps : List Place). All (IsLeaf nodes) (at ∷ ps)) rest along.leaves) in
          let leaf : IsLeaf nodes q = All-head (IsLeaf nodes) q behind leaves in
          let here : List Entry = leaf.node.entries in
          let k = along.written.keys_are in let l = length-take count along.done in
          let short : length along.done ≡ keys = omega (arith, k, l, less) in
          let is_here : entries_of (nodes q) ≡ here = ap (λ (o : Option TreeNode). entries_of o) leaf.is in
          let so_far : IsWritten along.done keys bytes old new = subst (λ (xs : List Entry). IsWritten xs keys bytes old new) (take_all count along.done (omega (arith, short, less))) along.written in
          let added : IsWritten (take (count - keys) here) more_keys more_bytes (take (length new - bytes) (drop bytes new)) part =
          subst (λ (o : Option TreeNode). IfSome o (λ node. IsWritten (take (count - keys) (drop 0 node.entries)) more_keys more_bytes (take (length new - bytes) (drop bytes new)) part)) leaf.is more in
          record {
            done = along.done ++ here;
            rest = behind;
            split =
                along.split
                ∙ (ap (λ (ps : List Place). along.done ++ held_in nodes ps) rest
                ∙ (ap (λ (es : List Entry). along.done ++ (es ++ held_in nodes behind)) is_here ∙ sym (append_assoc along.done here (held_in nodes behind))));
            written = subst (λ (xs : List Entry). IsWritten xs (keys + more_keys) (bytes + more_bytes) old (put_mid bytes (length new - bytes) new part)) (sym (taken count keys along.done here short less))
                (joined so_far added);
            leaves = leaves;
            full = All-tail (IsFull nodes) q behind (subst (λ (ps : List Place). All (IsFull nodes) ps) rest along.full);
            linked = (subst (λ (ps : List Place). AreLinked nodes (at ∷ ps)) rest along.linked).1;
          }

  pub some_more : (link : ℕ) (q : Place) (more_keys more_bytes : ℕ) (part : List ℕ) → IfSome (nodes at) (λ node. link ≡ node.next_leaf) → led_to link ≡ Some q → keys < count
      → IfSome (nodes q) (λ node. IsWritten (take (count - keys) (drop 0 node.entries)) more_keys more_bytes (take (length new - bytes) (drop bytes new)) part)
      → 1 ≤ more_keys
  some_more link q more_keys more_bytes part read is less more =
      let next = next_leaf link q read is in
      let node : TreeNode = next.0.node in
      let w : IsWritten (take (count - keys) node.entries) more_keys more_bytes (take (length new - bytes) (drop bytes new)) part =
      subst (λ (o : Option TreeNode). IfSome o (λ node. IsWritten (take (count - keys) (drop 0 node.entries)) more_keys more_bytes (take (length new - bytes) (drop bytes new)) part)) next.0.is more in
      let many : 8 ≤ length node.entries = subst (λ (o : Option TreeNode). IfSome o (λ n. 8 ≤ length n.entries)) next.0.is next.1 in
      let k = w.keys_are in let l = length-take (count - keys) node.entries in
      omega (arith, k, l, many, less)

-- the first leaf's entries are written
pub begins : (nodes : Nodes) (level : ℕ) (root : Place) (lo : List ℕ) (count : ℕ) (q : Place) (first keys bytes : ℕ) (old new : List ℕ) → IsSubtree nodes level None None None root
    → AreLinked nodes (leaves_below nodes level (Some root)) → IsOnWay nodes (leaves_below nodes level (Some root)) lo zero q → IfSome (nodes q) (λ node. first ≡ count_below node.entries lo)
    → IfSome (nodes q) (λ node. IsWritten (take count (drop first node.entries)) keys bytes old new) → IsAlong nodes (from lo (held_below nodes level (Some root))) count q keys bytes old new
begins nodes level root lo count q first keys bytes old new tree linked way counted w =
    let leaf : IsLeaf nodes q = way_leaf nodes level root lo q tree way in
    let es : List Entry = leaf.node.entries in
    let is_first : first ≡ count_below es lo = subst (λ (o : Option TreeNode). IfSome o (λ node. first ≡ count_below node.entries lo)) leaf.is counted in
    record {
      done = drop first es;
      rest = way.behind;
      split =
          from_there nodes level (Some root) lo q way
          ∙ ap (λ (t : List Entry). t ++ held_in nodes way.behind) (ap (λ (o : Option TreeNode). from lo (entries_of o)) leaf.is ∙ from_is es lo first leaf.rising is_first);
      written = subst (λ (o : Option TreeNode). IfSome o (λ node. IsWritten (take count (drop first node.entries)) keys bytes old new)) leaf.is w;
      leaves = way_leaves nodes level root lo q tree way;
      full = behind_full nodes level root tree way.front way.behind q way.leaves_are;
      linked = linked_from nodes way.front q way.behind (subst (λ (ps : List Place). AreLinked nodes ps) way.leaves_are linked);
    }
