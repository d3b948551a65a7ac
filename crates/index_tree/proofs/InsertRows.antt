-- A row in which one subtree became a row.
use Rattle.std.proofs.Common.{◌≡◌, ◌≢◌, ℕ, zero, suc, ◌+◌, ◌≤◌, inl, inr, false, cond, List, [], ◌∷◌, ◌++◌, All, length, take, drop, map, get_or, Option, Some, None, refl, sym, ap, subst, ◌∙◌, append_assoc, arith, is_lt}
use Rattle.std.specs.List.{flat_map}
use Rattle.std.specs.Prelude.{IfSome}
use Rattle.std.proofs.lemmas.List.{append-nil}
use Rattle.std.proofs.lemmas.List.Concat.{flat_map-append}
use Rattle.std.proofs.lemmas.List.Elements.{All-nil, All-cons, All-append, All-head, All-tail, All-get_or, All-weaker}
use Rattle.regions.specs.Stores.{is_place}
use Rattle.regions.specs.declared.place.Place.{Place}
use Rattle.tree_nodes.specs.Nodes.{Entry, TreeNode, no_entry}
use Rattle.tree_nodes.specs.Order.{AreRising, IsBelow, key_cmp}
use Rattle.index_tree.specs.Indexes.{with_number}
use Rattle.index_tree.specs.Links.{Nodes}
use Rattle.index_tree.specs.Limits.{fewest_entries}
use Rattle.index_tree.specs.Trees.{IsBetween, IsFrom, IsNodeOf, IsSubtree, IsUpTo, held_below, leaves_below, next_in, nodes_below}
use Rattle.index_tree.specs.Inserts.{AreChained, Branch, Row, Spread, entry_of, first_link, of_row, times}
use Rattle.index_tree.specs.Ways.{AllAbove, AllBelow}
use Rattle.place_lemmas.proofs.Places.{place_tells, some_none}
use Rattle.index_tree.proofs.Bounds.{held_between}
use Rattle.index_tree.proofs.FrameRows.{gathered, left_in, open_node, right_in, row_map, row_same}
use Rattle.index_tree.proofs.Frame.{AgreeBelow, Agrees, all_back, all_front, all_parts, below_children, frame_held, frame_leaves, frame_nodes, frame_subtree}
use Rattle.index_tree.proofs.InsertOrder.{with_number_behind, with_number_front}
use Rattle.index_tree.proofs.KeyOrder.{from_less, least_least, less_from, less_less, not_below}

-- ---- how often a place is in a list

pub times_append : (r : Place) (xs ys : List Place) → times r (xs ++ ys) ≡ times r xs + times r ys
times_append r [] ys = omega arith
times_append r (x ∷ xs) ys = ap (λ n. cond (is_place r x) 1 0 + n) (times_append r xs ys) ∙ omega arith

pub times_here : (p : Place) (ps : List Place) → 1 ≤ times p (p ∷ ps)
times_here p ps = elim (place_tells p p) [
  | inl h ↦ subst (λ b. 1 ≤ cond b 1 0 + times p ps) (sym h.0) (omega arith)
  | inr h ↦ absurd (h.1 refl)
]

pub times_own : (p : Place) (ps : List Place) → times p (p ∷ ps) ≡ suc (times p ps)
times_own p ps = elim (place_tells p p) [
  | inl h ↦ (let same : times p (p ∷ ps) ≡ 1 + times p ps = ap (λ b. cond b 1 0 + times p ps) h.0 in omega arith)
  | inr h ↦ absurd (h.1 refl)
]

pub times_past : (r p : Place) (ps : List Place) → r ≢ p → times r (p ∷ ps) ≡ times r ps
times_past r p ps far = elim (place_tells r p) [
  | inl h ↦ absurd (far h.1)
  | inr h ↦ (let same : times r (p ∷ ps) ≡ 0 + times r ps = ap (λ b. cond b 1 0 + times r ps) h.0 in omega arith)
]

pub times_more : (r p : Place) (ps : List Place) → times r ps ≤ times r (p ∷ ps)
times_more r p ps = omega arith

pub all_by_times : (P : Place → Type 0) (ps : List Place) → ((r : Place) → 1 ≤ times r ps → P r) → All P ps
all_by_times P [] each = All-nil P
all_by_times P (p ∷ ps) each =
    All-cons P p ps (each p (times_here p ps)) (all_by_times P ps (λ r some. each r (let more = times_more r p ps in omega arith)))

pub times_of_all : (P : Place → Type 0) (ps : List Place) (r : Place) → All P ps → 1 ≤ times r ps → P r
times_of_all P [] r all some = absurd (omega arith)
times_of_all P (p ∷ ps) r all some = elim (place_tells r p) [
  | inl h ↦ subst P (sym h.1) (All-head P p ps all)
  | inr h ↦ times_of_all P ps r (All-tail P p ps all) (let same : times r (p ∷ ps) ≡ 0 + times r ps = ap (λ b. cond b 1 0 + times r ps) h.0 in omega arith)
]

-- ---- leaves in order

pub first_append : (xs ys : List Place) (end : ℕ) → first_link (xs ++ ys) end ≡ first_link xs (first_link ys end)
first_append [] ys end = refl
first_append (x ∷ xs) ys end = refl

module _ (nodes : Nodes) where
  pub chained_front : (xs ys : List Place) (end : ℕ) → AreChained nodes (xs ++ ys) end → AreChained nodes xs (first_link ys end)
  chained_front [] ys end c = tt
  chained_front (x ∷ xs) ys end c = (c.0 ∙ first_append xs ys end, chained_front xs ys end c.1)

  pub chained_back : (xs ys : List Place) (end : ℕ) → AreChained nodes (xs ++ ys) end → AreChained nodes ys end
  chained_back [] ys end c = c
  chained_back (x ∷ xs) ys end c = chained_back xs ys end c.1

  pub chained_joined : (xs ys : List Place) (end : ℕ) → AreChained nodes xs (first_link ys end) → AreChained nodes ys end → AreChained nodes (xs ++ ys) end
  chained_joined [] ys end c d = d
  chained_joined (x ∷ xs) ys end c d = (c.0 ∙ sym (first_append xs ys end), chained_joined xs ys end c.1 d)

pub chained_agree : (nodes new : Nodes) (ps : List Place) (end : ℕ) → All (Agrees nodes new) ps → AreChained nodes ps end → AreChained new ps end
chained_agree nodes new [] end all c = tt
chained_agree nodes new (p ∷ ps) end all c =
    (ap next_in (All-head (Agrees nodes new) p ps all) ∙ c.0, chained_agree nodes new ps end (All-tail (Agrees nodes new) p ps all) c.1)

-- ---- rows

pub of_row_append : {A : Type 0} (g : Option Place → List A) (first : Place) (cs : List Branch) (b : Branch) (bs : List Branch)
    → of_row g first (cs ++ b ∷ bs) ≡ of_row g first cs ++ of_row g b.place bs
of_row_append {A} g first cs b bs =
    ap (λ (t : List A). g (Some first) ++ t) (flat_map-append (λ (c : Branch). g (Some c.place)) cs (b ∷ bs))
    ∙ sym (append_assoc (g (Some first)) (flat_map (λ (c : Branch). g (Some c.place)) cs) (of_row g b.place bs))

pub row_joined : (nodes : Nodes) (level : ℕ) (parent : Option Place) (low high : Option (List ℕ)) (first : Place) (cs : List Branch) (b : Branch) (bs : List Branch)
    → Row nodes level parent low first cs (Some b.entry.key) → Row nodes level parent (Some b.entry.key) b.place bs high → Row nodes level parent low first (cs ++ b ∷ bs) high
row_joined nodes level parent low high first [] b bs front back = (front, back)
row_joined nodes level parent low high first (c ∷ cs) b bs front back = (front.0, row_joined nodes level parent (Some c.entry.key) high c.place cs b bs front.1 back)

pub row_front : (nodes : Nodes) (level : ℕ) (parent : Option Place) (low high : Option (List ℕ)) (first : Place) (cs : List Branch) (b : Branch) (bs : List Branch)
    → Row nodes level parent low first (cs ++ b ∷ bs) high → Row nodes level parent low first cs (Some b.entry.key)
row_front nodes level parent low high first [] b bs row = row.0
row_front nodes level parent low high first (c ∷ cs) b bs row = (row.0, row_front nodes level parent (Some c.entry.key) high c.place cs b bs row.1)

pub row_back : (nodes : Nodes) (level : ℕ) (parent : Option Place) (low high : Option (List ℕ)) (first : Place) (cs : List Branch) (b : Branch) (bs : List Branch)
    → Row nodes level parent low first (cs ++ b ∷ bs) high → Row nodes level parent (Some b.entry.key) b.place bs high
row_back nodes level parent low high first [] b bs row = row.1
row_back nodes level parent low high first (c ∷ cs) b bs row = row_back nodes level parent (Some c.entry.key) high c.place cs b bs row.1

-- what agrees on a row's nodes agrees below each of its places
pub row_agree : (nodes new : Nodes) (level : ℕ) (first : Place) (bs : List Branch) → All (Agrees nodes new) (of_row (nodes_below nodes level) first bs)
    → AgreeBelow nodes new level first × All (λ (b : Branch). AgreeBelow nodes new level b.place) bs
row_agree nodes new level first bs all = (
  all_front (Agrees nodes new) (nodes_below nodes level (Some first)) (flat_map (λ (b : Branch). nodes_below nodes level (Some b.place)) bs) all,
  all_parts (Agrees nodes new) (λ (b : Branch). nodes_below nodes level (Some b.place)) bs
      (all_back (Agrees nodes new) (nodes_below nodes level (Some first)) (flat_map (λ (b : Branch). nodes_below nodes level (Some b.place)) bs) all),
)

-- ---- the leaves of a subtree are among its nodes

module _ (nodes : Nodes) (P : Place → Type 0) where
  row_leaves : (level : ℕ) (parent : Option Place)
      → ((low high : Option (List ℕ)) (q : Place) → IsSubtree nodes level parent low high q → All P (nodes_below nodes level (Some q)) → All P (leaves_below nodes level (Some q)))
      → (first : Place) (bs : List Branch) (low high : Option (List ℕ)) → Row nodes level parent low first bs high
      → All P (of_row (nodes_below nodes level) first bs) → All P (of_row (leaves_below nodes level) first bs)
  row_leaves level parent each first [] low high row all =
      All-append P (leaves_below nodes level (Some first)) [] (each low high first row (all_front P (nodes_below nodes level (Some first)) [] all)) (All-nil P)
  row_leaves level parent each first (b ∷ bs) low high row all =
      All-append P (leaves_below nodes level (Some first)) (of_row (leaves_below nodes level) b.place bs)
      (each low (Some b.entry.key) first row.0 (all_front P (nodes_below nodes level (Some first)) (of_row (nodes_below nodes level) b.place bs) all))
      (row_leaves level parent each b.place bs (Some b.entry.key) high row.1 (all_back P (nodes_below nodes level (Some first)) (of_row (nodes_below nodes level) b.place bs) all))

  pub leaves_among : (level : ℕ) (parent : Option Place) (low high : Option (List ℕ)) (p : Place) → IsSubtree nodes level parent low high p
      → All P (nodes_below nodes level (Some p)) → All P (leaves_below nodes level (Some p))
  leaves_among zero parent low high p sub all = all
  leaves_among (suc level) parent low high p sub all =
      let o = open_node nodes level parent low high p sub in
      subst (λ (t : List Place). All P t) (sym (gathered (leaves_below nodes level) nodes level parent low high p o))
      (row_leaves level (Some p) (λ l h q s a. leaves_among level (Some p) l h q s a) o.first o.branches low high o.row
      (subst (λ (t : List Place). All P t) (gathered (nodes_below nodes level) nodes level parent low high p o) (All-tail P p (below_children nodes (suc level) p) all)))

  pub row_leaves_among : (level : ℕ) (parent : Option Place) (first : Place) (bs : List Branch) (low high : Option (List ℕ)) → Row nodes level parent low first bs high
      → All P (of_row (nodes_below nodes level) first bs) → All P (of_row (leaves_below nodes level) first bs)
  row_leaves_among level parent first bs low high row all = row_leaves level parent (λ l h q s a. leaves_among level parent l h q s a) first bs low high row all

-- ---- the keys of a row below a node rise, between its bounds

-- strictly above a bound, if there is one
abbrev pub IsAbove : Option (List ℕ) → Entry → Type 0
IsAbove low e = IfSome low (λ key. IsBelow key e.key)

pub above_from : (low : Option (List ℕ)) (e : Entry) → IsAbove low e → IsFrom low e
above_from None e h = tt
above_from (Some key) e h = not_below key e.key h

above_trans : (low : Option (List ℕ)) (e f : Entry) → IsFrom low e → IsBelow e.key f.key → IsAbove low f
above_trans None e f from below = tt
above_trans (Some key) e f from below = from_less key e.key f.key from below

pub up_trans : (high : Option (List ℕ)) (e f : Entry) → IsBelow e.key f.key → IsUpTo high f → IsUpTo high e
up_trans None e f below up = tt
up_trans (Some key) e f below up = less_less e.key f.key key below up

pub from_trans : (low : Option (List ℕ)) (e f : Entry) → IsFrom low e → is_lt (key_cmp f.key e.key) ≡ false → IsFrom low f
from_trans None e f from least = tt
from_trans (Some key) e f from least = least_least f.key e.key key least from

from_up : (high : Option (List ℕ)) (e f : Entry) → is_lt (key_cmp f.key e.key) ≡ false → IsUpTo high f → IsUpTo high e
from_up None e f least up = tt
from_up (Some key) e f least up = from_less e.key f.key key least up

pub record RowKeys (low high : Option (List ℕ)) (es : List Entry) : Type 0 where
  pub rising : AreRising es
  pub above : All (IsAbove low) es
  pub up : All (IsUpTo high) es

some_of : (level : ℕ) (p : Place) (low high : Option (List ℕ)) (node : TreeNode) → IsNodeOf level (Some p) low high node → (e : Entry) × IsFrom low e × IsUpTo high e
some_of level p low high node of =
    let many : fewest_entries ≤ length node.entries = of.many (λ e. some_none {a = p} refl e) in
    (get_or node.entries 0 no_entry, All-get_or (IsFrom low) node.entries 0 no_entry (omega arith) of.from, All-get_or (IsUpTo high) node.entries 0 no_entry (omega arith) of.up_to)

module _ (nodes : Nodes) (p : Place) where
  -- an entry of a node below another
  some_entry : (level : ℕ) (low high : Option (List ℕ)) (q : Place) → IsSubtree nodes level (Some p) low high q → (e : Entry) × IsFrom low e × IsUpTo high e
  some_entry zero low high q (node, is, here, of, none) = some_of zero p low high node of
  some_entry (suc level) low high q (node, is, here, of, inner, children) = some_of (suc level) p low high node of

  row_span : (level : ℕ) (e : Entry) (first : Place) (bs : List Branch) (high : Option (List ℕ)) → Row nodes level (Some p) (Some e.key) first bs high → IsUpTo high e
  row_span level e first [] high row =
      let some = some_entry level (Some e.key) high first row in
      from_up high e some.0 some.1 some.2
  row_span level e first (b ∷ bs) high row =
      let some = some_entry level (Some e.key) (Some b.entry.key) first row.0 in
      up_trans high e b.entry (from_less e.key some.0.key b.entry.key some.1 some.2) (row_span level b.entry b.place bs high row.1)

  pub row_keys : (level : ℕ) (first : Place) (bs : List Branch) (low high : Option (List ℕ)) → Row nodes level (Some p) low first bs high → RowKeys low high (map entry_of bs)
  row_keys level first [] low high row = record { rising = tt; above = All-nil (IsAbove low); up = All-nil (IsUpTo high) }
  row_keys level first (b ∷ bs) low high row =
      let some = some_entry level low (Some b.entry.key) first row.0 in
      let behind : RowKeys (Some b.entry.key) high (map entry_of bs) = row_keys level b.place bs (Some b.entry.key) high row.1 in
      let here : IsAbove low b.entry = above_trans low some.0 b.entry some.1 some.2 in
      record {
        rising = (behind.above, behind.rising);
        above = All-cons (IsAbove low) b.entry (map entry_of bs) here
            (All-weaker (IsAbove (Some b.entry.key)) (IsAbove low) (λ e h. above_trans low b.entry e (above_from low b.entry here) h) (map entry_of bs) behind.above);
        up = All-cons (IsUpTo high) b.entry (map entry_of bs) (row_span level b.entry b.place bs high row.1) behind.up;
      }

  -- all that a row holds is from its low bound on
  pub row_from : (level : ℕ) (first : Place) (bs : List Branch) (low high : Option (List ℕ)) → Row nodes level (Some p) low first bs high → All (IsFrom low) (of_row (held_below nodes level) first bs)
  row_from level first [] low high row =
      All-append (IsFrom low) (held_below nodes level (Some first)) []
      (All-weaker (IsBetween low high) (IsFrom low) (λ e h. h.0) (held_below nodes level (Some first)) (held_between nodes level (Some p) low high first row)) (All-nil (IsFrom low))
  row_from level first (b ∷ bs) low high row =
      let some = some_entry level low (Some b.entry.key) first row.0 in
      let here : IsFrom low b.entry = above_from low b.entry (above_trans low some.0 b.entry some.1 some.2) in
      All-append (IsFrom low) (held_below nodes level (Some first)) (of_row (held_below nodes level) b.place bs)
      (All-weaker (IsBetween low (Some b.entry.key)) (IsFrom low) (λ e h. h.0) (held_below nodes level (Some first)) (held_between nodes level (Some p) low (Some b.entry.key) first row.0))
      (All-weaker (IsFrom (Some b.entry.key)) (IsFrom low) (λ e h. from_trans low b.entry e here h) (of_row (held_below nodes level) b.place bs) (row_from level b.place bs (Some b.entry.key) high row.1))

-- ---- a row in which one subtree became a row

abbrev pub keyed : List ℕ → ℕ → Entry
keyed key number = record { key = key; number = number }

module _ (nodes new : Nodes) (level : ℕ) (p : Place) (key : List ℕ) (number : ℕ) (used : List Place) where
  abbrev Becomes : Option (List ℕ) → Option (List ℕ) → Place → List Branch → List Branch → Type 0
  Becomes low high first bs cs = Spread nodes new level (Some p) low high first bs cs key number used

  -- a subtree in front of it
  spread_front : (low high : Option (List ℕ)) (first : Place) (b : Branch) (bs cs : List Branch) → IsSubtree nodes level (Some p) low (Some b.entry.key) first → AgreeBelow nodes new level first
      → IsFrom (Some b.entry.key) (keyed key number) → Becomes (Some b.entry.key) high b.place bs cs → Becomes low high first (b ∷ bs) (b ∷ cs)
  spread_front low high first b bs cs sub agree least s =
      let held : List Entry = held_below nodes level (Some first) in
      let leaves : List Place = leaves_below nodes level (Some first) in
      let same_leaves : leaves_below new level (Some first) ≡ leaves = frame_leaves nodes new level (Some p) low (Some b.entry.key) first sub agree in
      let all : AllBelow key held = All-weaker (IsBetween low (Some b.entry.key)) (λ e. IsBelow e.key key)
      (λ e h. less_from e.key b.entry.key key h.1 least) held (held_between nodes level (Some p) low (Some b.entry.key) first sub) in
      record {
        row = (frame_subtree nodes new level (Some p) low (Some b.entry.key) first sub agree, s.row);
        held =
            ap (λ (t : List Entry). t ++ of_row (held_below new level) b.place cs) (frame_held nodes new level (Some p) low (Some b.entry.key) first sub agree)
            ∙ (ap (λ (t : List Entry). held ++ t) s.held ∙ sym (with_number_front key number held (of_row (held_below nodes level) b.place bs) all));
        first_leaf = λ end.
            (ap (λ (t : List Place). first_link (t ++ of_row (leaves_below new level) b.place cs) end) same_leaves
            ∙ (first_append leaves (of_row (leaves_below new level) b.place cs) end
            ∙ (ap (λ n. first_link leaves n) (s.first_leaf end) ∙ sym (first_append leaves (of_row (leaves_below nodes level) b.place bs) end))));
        chained = λ end c.
            (subst (λ (t : List Place). AreChained new (t ++ of_row (leaves_below new level) b.place cs) end) (sym same_leaves)
            (chained_joined new leaves (of_row (leaves_below new level) b.place cs) end
            (subst (λ n. AreChained new leaves n) (sym (s.first_leaf end))
            (chained_agree nodes new leaves (first_link (of_row (leaves_below nodes level) b.place bs) end) (leaves_among nodes (Agrees nodes new) level (Some p) low (Some b.entry.key) first sub agree)
            (chained_front nodes leaves (of_row (leaves_below nodes level) b.place bs) end c)))
            (s.chained end (chained_back nodes leaves (of_row (leaves_below nodes level) b.place bs) end c))));
        places = λ r.
            (let here : times r (nodes_below new level (Some first)) ≡ times r (nodes_below nodes level (Some first)) = ap (λ (t : List Place). times r t) (frame_nodes nodes new level (Some p) low (Some b.entry.key) first sub agree) in
            let a = times_append r (nodes_below new level (Some first)) (of_row (nodes_below new level) b.place cs) in
            let c = times_append r (nodes_below nodes level (Some first)) (of_row (nodes_below nodes level) b.place bs) in
            let behind = s.places r in
            omega arith);
      }

  -- subtrees behind it
  spread_behind : (low high : Option (List ℕ)) (first : Place) (b : Branch) (bs cs : List Branch) → Row nodes level (Some p) (Some b.entry.key) b.place bs high
      → All (Agrees nodes new) (of_row (nodes_below nodes level) b.place bs)
      → IsUpTo (Some b.entry.key) (keyed key number) → Becomes low (Some b.entry.key) first [] cs → Becomes low high first (b ∷ bs) (cs ++ b ∷ bs)
  spread_behind low high first b bs cs row agree below s =
      let these = row_agree nodes new level b.place bs agree in
      let later : Option (List ℕ) = Some b.entry.key in
      let held : List Entry = of_row (held_below nodes level) b.place bs in
      let leaves : List Place = of_row (leaves_below nodes level) b.place bs in
      let same_held : of_row (held_below new level) b.place bs ≡ held =
      row_same (held_below nodes level) (held_below new level) nodes level (Some p) (AgreeBelow nodes new level) (λ l h q t a. frame_held nodes new level (Some p) l h q t a) b.place bs later high row these.0 these.1 in
      let same_leaves : of_row (leaves_below new level) b.place bs ≡ leaves =
      row_same (leaves_below nodes level) (leaves_below new level) nodes level (Some p) (AgreeBelow nodes new level) (λ l h q t a. frame_leaves nodes new level (Some p) l h q t a) b.place bs later high row these.0 these.1 in
      let same_nodes : of_row (nodes_below new level) b.place bs ≡ of_row (nodes_below nodes level) b.place bs =
      row_same (nodes_below nodes level) (nodes_below new level) nodes level (Some p) (AgreeBelow nodes new level) (λ l h q t a. frame_nodes nodes new level (Some p) l h q t a) b.place bs later high row these.0 these.1 in
      let all : AllAbove key held = All-weaker (IsFrom later) (λ e. IsBelow key e.key) (λ e h. less_from key b.entry.key e.key below h) held (row_from nodes p level b.place bs later high row) in
      let front : List Place = leaves_below nodes level (Some first) in
      let new_front : List Place = of_row (leaves_below new level) first cs in
      let joined : of_row (leaves_below new level) first (cs ++ b ∷ bs) ≡ new_front ++ leaves =
      of_row_append (leaves_below new level) first cs b bs ∙ ap (λ (t : List Place). new_front ++ t) same_leaves in
      record {
        row = row_joined new level (Some p) low high first cs b bs s.row
            (row_map nodes new level (Some p) (Some p) (AgreeBelow nodes new level) (λ l h q t a. frame_subtree nodes new level (Some p) l h q t a) b.place bs later high row these.0 these.1);
        held =
            of_row_append (held_below new level) first cs b bs
            ∙ (ap (λ (t : List Entry). of_row (held_below new level) first cs ++ t) same_held
            ∙ (ap (λ (t : List Entry). t ++ held) (s.held ∙ ap (λ (t : List Entry). with_number key number t) (append-nil (held_below nodes level (Some first))))
            ∙ sym (with_number_behind key number (held_below nodes level (Some first)) held all)));
        first_leaf = λ end.
            (ap (λ (t : List Place). first_link t end) joined
            ∙ (first_append new_front leaves end
            ∙ (s.first_leaf (first_link leaves end)
            ∙ (ap (λ (t : List Place). first_link t (first_link leaves end)) (append-nil front) ∙ sym (first_append front leaves end)))));
        chained = λ end c.
            (subst (λ (t : List Place). AreChained new t end) (sym joined)
            (chained_joined new new_front leaves end
            (s.chained (first_link leaves end) (subst (λ (t : List Place). AreChained nodes t (first_link leaves end)) (sym (append-nil front)) (chained_front nodes front leaves end c)))
            (chained_agree nodes new leaves end (row_leaves_among nodes (Agrees nodes new) level (Some p) b.place bs later high row agree) (chained_back nodes front leaves end c))));
        places = λ r.
            (let whole : times r (of_row (nodes_below new level) first (cs ++ b ∷ bs)) ≡ times r (of_row (nodes_below new level) first cs ++ of_row (nodes_below nodes level) b.place bs) =
            ap (λ (t : List Place). times r t) (of_row_append (nodes_below new level) first cs b bs ∙ ap (λ (t : List Place). of_row (nodes_below new level) first cs ++ t) same_nodes) in
            let a = times_append r (of_row (nodes_below new level) first cs) (of_row (nodes_below nodes level) b.place bs) in
            let c = times_append r (nodes_below nodes level (Some first)) (of_row (nodes_below nodes level) b.place bs) in
            let d = times_append r (nodes_below nodes level (Some first)) [] in
            let here = s.places r in
            omega arith);
      }

-- the place of a child
abbrev pub child_in : Place → List Branch → ℕ → Place
child_in first bs zero = first
child_in first [] (suc i) = first
child_in first (b ∷ bs) (suc i) = child_in b.place bs i

-- the key is at or above all keys in front of a child's
pub left_from : (nodes : Nodes) (level : ℕ) (p first : Place) (bs : List Branch) (low high : Option (List ℕ)) (i : ℕ) (e : Entry) → Row nodes level (Some p) low first bs high
    → i ≤ length bs → IsFrom (left_in low (map entry_of bs) i) e → IsFrom low e
left_from nodes level p first bs low high zero e row within h = h
left_from nodes level p first [] low high (suc i) e row within h = h
left_from nodes level p first (b ∷ bs) low high (suc i) e row within h =
    let keys : RowKeys low high (map entry_of (b ∷ bs)) = row_keys nodes p level first (b ∷ bs) low high row in
    from_trans low b.entry e (above_from low b.entry (All-head (IsAbove low) b.entry (map entry_of bs) keys.above))
    (left_from nodes level p b.place bs (Some b.entry.key) high i e row.1 (omega arith) h)

module _ (nodes : Nodes) (level : ℕ) where
  -- the nodes below a child are among those of the row
  pub child_among : (top : Place) (ds : List Branch) (j : ℕ) → j ≤ length ds → (r : Place) → times r (nodes_below nodes level (Some (child_in top ds j))) ≤ times r (of_row (nodes_below nodes level) top ds)
  child_among top ds zero within r = let a = times_append r (nodes_below nodes level (Some top)) (flat_map (λ (d : Branch). nodes_below nodes level (Some d.place)) ds) in omega arith
  child_among top [] (suc j) within r = absurd (omega arith)
  child_among top (d ∷ ds) (suc j) within r =
      let a = times_append r (nodes_below nodes level (Some top)) (of_row (nodes_below nodes level) d.place ds) in
      let b = child_among d.place ds j (omega arith) r in
      omega arith

module _ (nodes new : Nodes) (level : ℕ) (p : Place) (key : List ℕ) (number : ℕ) (used : List Place) where
  pub spread_at : (i : ℕ) (first : Place) (bs cs : List Branch) (low high : Option (List ℕ)) → Row nodes level (Some p) low first bs high → i ≤ length bs
      → Spread nodes new level (Some p) (left_in low (map entry_of bs) i) (right_in (map entry_of bs) high i) (child_in first bs i) [] cs key number used
      → IsFrom (left_in low (map entry_of bs) i) (keyed key number) → IsUpTo (right_in (map entry_of bs) high i) (keyed key number)
      → ((r : Place) → times r (nodes_below nodes level (Some (child_in first bs i)) ++ used) ≡ 0 → new r ≡ nodes r)
      → ((r : Place) → times r (of_row (nodes_below nodes level) first bs) + times r used ≤ 1)
      → Spread nodes new level (Some p) low high first bs (take i bs ++ (cs ++ drop i bs)) key number used
  spread_at zero first [] cs low high row within s least below others apart =
      subst (λ (t : List Branch). Spread nodes new level (Some p) low high first [] t key number used) (sym (append-nil cs)) s
  spread_at zero first (b ∷ bs) cs low high row within s least below others apart =
      spread_behind nodes new level p key number used low high first b bs cs row.1
      (all_by_times (Agrees nodes new) (of_row (nodes_below nodes level) b.place bs)
      (λ r some. others r
      (let once = apart r in
      let a = times_append r (nodes_below nodes level (Some first)) used in
      let c = times_append r (nodes_below nodes level (Some first)) (of_row (nodes_below nodes level) b.place bs) in
      omega arith)))
      below s
  spread_at (suc i) first [] cs low high row within s least below others apart = absurd (omega arith)
  spread_at (suc i) first (b ∷ bs) cs low high row within s least below others apart =
      spread_front nodes new level p key number used low high first b bs (take i bs ++ (cs ++ drop i bs)) row.0
      (all_by_times (Agrees nodes new) (nodes_below nodes level (Some first))
      (λ r some. others r (
      let once = apart r in
      let c = times_append r (nodes_below nodes level (Some first)) (of_row (nodes_below nodes level) b.place bs) in
      let a = times_append r (nodes_below nodes level (Some (child_in b.place bs i))) used in
      let part = child_among nodes level b.place bs i (omega arith) r in
      omega arith)))
      (left_from nodes level p b.place bs (Some b.entry.key) high i (keyed key number) row.1 (omega arith) least)
      (spread_at i b.place bs cs (Some b.entry.key) high row.1 (omega arith) s least below others
      (λ r. (let once = apart r in let c = times_append r (nodes_below nodes level (Some first)) (of_row (nodes_below nodes level) b.place bs) in omega arith)))
