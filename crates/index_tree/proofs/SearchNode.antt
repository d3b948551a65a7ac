-- Where a key stands among the rising keys of a node.
use Rattle.std.proofs.Common.{◌≡◌, ◌≢◌, ℕ, zero, suc, ◌+◌, ◌<◌, ◌≤◌, Bool, true, false, true≢false, cond, List, [], ◌∷◌, All, Option, Some, None, length, take, drop, get_or, option_map, refl, sym, ap, subst, ◌∙◌, arith, Ordering, Less, Equal, Greater, is_lt}
use Rattle.std.specs.Prelude.{◌↔◌, IfSome, IsSome}
use Rattle.std.specs.Ordering.{is_eq}
use Rattle.std.proofs.lemmas.List.{get_or-drop, length-drop, take-append-drop, take_more}
use Rattle.std.proofs.lemmas.List.Elements.{All-nil, All-cons, All-append, All-head, All-weaker, All-from_get_or, All-get_or}
use Rattle.std.proofs.lemmas.List.Sums.{sum_by-cons}
use Rattle.regions.specs.Contents.{Item}
use Rattle.regions.specs.Stores.{Live}
use Rattle.regions.specs.declared.place.Place.{Place}
use Rattle.tree_nodes.specs.Nodes.{Entry, TreeNode, entry_at, no_entry, node_in}
use Rattle.tree_nodes.specs.Order.{AreRising, IsBelow, count_below, key_cmp}
use Rattle.index_tree.specs.Indexes.{number_of}
use Rattle.index_tree.specs.Store.{HoldsNode, nodes_of}
use Rattle.index_tree.specs.Trees.{entries_of}
use Rattle.index_tree.specs.Ways.{AllAbove, AllBelow, LeadsTo}
use Rattle.place_lemmas.proofs.Places.{some_none}
use Rattle.index_tree.proofs.SearchLists.{number_amid, rising_at}
use Rattle.index_tree.proofs.SearchDown.{split_at}
use Rattle.index_tree.proofs.KeyOrder.{greater_less, less_greater, less_less, not_itself, tied}
use Rattle.index_tree.proofs.Touches.{value_of}

abbrev NotBelow : List ℕ → Entry → Type 0
NotBelow key e = is_lt (key_cmp e.key key) ≡ false

-- so many entries have keys below a key, and the others have not
pub record SplitsAt (es : List Entry) (key : List ℕ) (n : ℕ) : Type 0 where
  pub within : n ≤ length es
  pub below : AllBelow key (take n es)
  pub least : All (NotBelow key) (drop n es)

is_less : (o : Ordering) → is_lt o ≡ true → o ≡ Less
is_less Less e = refl
is_less Equal e = cc
is_less Greater e = cc

-- what is above one that is not below a key is not below it
still_least : (key : List ℕ) (e : Entry) (es : List Entry) → NotBelow key e → All (λ g. IsBelow e.key g.key) es → All (NotBelow key) es
still_least key e es least all =
    All-weaker (λ g. IsBelow e.key g.key) (NotBelow key) (λ g over. go g (is_lt (key_cmp g.key key)) refl over) es all
  where
    go : (g : Entry) (b : Bool) → is_lt (key_cmp g.key key) ≡ b → IsBelow e.key g.key → NotBelow key g
    go g false is over = is
    go g true is over = absurd (true≢false (sym (ap is_lt (less_less e.key g.key key over (is_less (key_cmp g.key key) is))) ∙ least))

none_counted : (key : List ℕ) (es : List Entry) → All (NotBelow key) es → count_below es key ≡ 0
none_counted key [] all = refl
none_counted key (e ∷ es) all =
    let none : cond {A = ℕ} (is_lt (key_cmp e.key key)) 1 0 ≡ 0 = ap {B = ℕ} (λ (b : Bool). cond b 1 0) (All-head (NotBelow key) e es all) in
    let behind = none_counted key es (λ k d within. all (suc k) d (omega arith)) in
    let whole : count_below (e ∷ es) key ≡ cond {A = ℕ} (is_lt (key_cmp e.key key)) 1 0 + count_below es key = sum_by-cons (λ x. cond (is_lt (key_cmp x.key key)) 1 0) e es in
    omega arith

pub splits : (key : List ℕ) (es : List Entry) → AreRising es → SplitsAt es key (count_below es key)
splits key [] rise = record { within = omega arith; below = All-nil (λ e. IsBelow e.key key); least = All-nil (NotBelow key) }
splits key (e ∷ es) rise = go (splits key es rise.1) (is_lt (key_cmp e.key key)) refl
  where
    whole : count_below (e ∷ es) key ≡ cond {A = ℕ} (is_lt (key_cmp e.key key)) 1 0 + count_below es key
    whole = sum_by-cons (λ x. cond (is_lt (key_cmp x.key key)) 1 0) e es

    go : SplitsAt es key (count_below es key) → (b : Bool) → is_lt (key_cmp e.key key) ≡ b → SplitsAt (e ∷ es) key (count_below (e ∷ es) key)
    go behind true is =
        let one : cond {A = ℕ} (is_lt (key_cmp e.key key)) 1 0 ≡ 1 = ap {B = ℕ} (λ (b : Bool). cond b 1 0) is in
        let count : suc (count_below es key) ≡ count_below (e ∷ es) key = omega (arith, whole, one) in
        subst (λ n. SplitsAt (e ∷ es) key n) count
        (record {
          within = (let w = behind.within in omega (arith, w));
          below = All-cons (λ x. IsBelow x.key key) e (take (count_below es key) es) (is_less (key_cmp e.key key) is) behind.below;
          least = behind.least;
        })
    go behind false is =
        let all : All (NotBelow key) (e ∷ es) = All-cons (NotBelow key) e es is (still_least key e es is rise.0) in
        subst (λ n. SplitsAt (e ∷ es) key n) (sym (none_counted key (e ∷ es) all))
        (record { within = omega arith; below = All-nil (λ x. IsBelow x.key key); least = all })

-- all behind an entry with the key, or one above it, are above it
pub behind_rise : (es : List Entry) (key : List ℕ) (n : ℕ) → AreRising es → n < length es → is_lt (key_cmp (get_or es n no_entry).key key) ≡ false → AllAbove key (drop (n + 1) es)
behind_rise es key n rise within least =
    All-from_get_or (λ g. IsBelow key g.key) (drop (n + 1) es) no_entry
    (λ j short.
    let size = length-drop (n + 1) es in
    let later : IsBelow (get_or es n no_entry).key (get_or es (n + 1 + j) no_entry).key = rising_at es n (n + 1 + j) rise (omega arith) (omega (arith, size, short)) in
    subst (λ (g : Entry). IsBelow key g.key) (sym (get_or-drop (n + 1) es j no_entry)) (over (get_or es n no_entry).key (get_or es (n + 1 + j) no_entry).key least later))
  where
    over : (a b : List ℕ) → is_lt (key_cmp a key) ≡ false → IsBelow a b → IsBelow key b
    over a b not_below above = go (key_cmp a key) refl
      where
        go : (o : Ordering) → key_cmp a key ≡ o → IsBelow key b
        go Less is = absurd (true≢false (sym (ap is_lt is) ∙ not_below))
        go Equal is = subst (λ (k : List ℕ). IsBelow k b) (tied a key is) above
        go Greater is = less_less key a b (greater_less a key is) above

upto_all : (key : List ℕ) (es : List Entry) → AllBelow key es → All (λ e. is_lt (key_cmp key e.key) ≡ false) es
upto_all key es all = All-weaker (λ e. IsBelow e.key key) (λ e. is_lt (key_cmp key e.key) ≡ false) (λ e h. ap is_lt (less_greater e.key key h)) es all

-- the way where a key of the node is that key
pub leads_past : (node : TreeNode) (key : List ℕ) (n m : ℕ) → AreRising node.entries → n ≡ count_below node.entries key → n < length node.entries → (entry_at node n).key ≡ key → m ≡ n + 1
    → LeadsTo node key m
leads_past node key n m rise counted within same more =
    let es : List Entry = node.entries in
    let cut : SplitsAt es key n = subst (λ k. SplitsAt es key k) (sym counted) (splits key es rise) in
    let here : is_lt (key_cmp key (get_or es n no_entry).key) ≡ false = ap (λ (k : List ℕ). is_lt (key_cmp key k)) same ∙ not_itself key in
    let here_too : is_lt (key_cmp (get_or es n no_entry).key key) ≡ false = ap (λ (k : List ℕ). is_lt (key_cmp k key)) same ∙ not_itself key in
    subst (λ k. LeadsTo node key k) (sym more)
    (record {
      within = omega arith;
      upto = subst (λ t. All (λ e. is_lt (key_cmp key e.key) ≡ false) t) (sym (take_more es n no_entry within))
          (All-append (λ e. is_lt (key_cmp key e.key) ≡ false) (take n es) (get_or es n no_entry ∷ []) (upto_all key (take n es) cut.below)
          (All-cons (λ e. is_lt (key_cmp key e.key) ≡ false) (get_or es n no_entry) [] here (All-nil (λ e. is_lt (key_cmp key e.key) ≡ false))));
      above = behind_rise es key n rise within here_too;
    })

-- and where none is
pub leads_to : (node : TreeNode) (key : List ℕ) (n : ℕ) → AreRising node.entries → n ≡ count_below node.entries key → ((n < length node.entries) × ((entry_at node n).key ≡ key) → ⊥)
    → LeadsTo node key n
leads_to node key n rise counted other =
    let es : List Entry = node.entries in
    let cut : SplitsAt es key n = subst (λ k. SplitsAt es key k) (sym counted) (splits key es rise) in
    record {
      within = cut.within;
      upto = upto_all key (take n es) cut.below;
      above = All-weaker (λ e. NotBelow key e × (e.key ≢ key)) (λ e. IsBelow key e.key) (λ e h. over e h.0 h.1) (drop n es) (apart cut);
    }
  where
    es : List Entry
    es = node.entries

    over : (e : Entry) → NotBelow key e → e.key ≢ key → IsBelow key e.key
    over e least far = go (key_cmp e.key key) refl
      where
        go : (o : Ordering) → key_cmp e.key key ≡ o → IsBelow key e.key
        go Less is = absurd (true≢false (sym (ap is_lt is) ∙ least))
        go Equal is = absurd (far (tied e.key key is))
        go Greater is = greater_less e.key key is

    -- the first is no such key, and the others are above it
    apart : SplitsAt es key n → All (λ e. NotBelow key e × (e.key ≢ key)) (drop n es)
    apart cut =
        All-from_get_or (λ e. NotBelow key e × (e.key ≢ key)) (drop n es) no_entry
        (λ j short.
        let size = length-drop n es in
        let within : n < length es = omega (arith, size, short) in
        (All-get_or (NotBelow key) (drop n es) j no_entry short cut.least, λ same. other (within, first j short same)))
      where
        first : (j : ℕ) → j < length (drop n es) → (get_or (drop n es) j no_entry).key ≡ key → (get_or es n no_entry).key ≡ key
        first zero short same = ap (λ k. (get_or es k no_entry).key) {x = n} {y = n + 0} (omega arith) ∙ (sym (ap (λ (e : Entry). e.key) (get_or-drop n es zero no_entry)) ∙ same)
        first (suc j) short same =
            let size = length-drop n es in
            let zeroth : get_or (drop n es) zero no_entry ≡ get_or es n no_entry = get_or-drop n es zero no_entry ∙ ap (λ k. get_or es k no_entry) {x = n + 0} {y = n} (omega arith) in
            let least : NotBelow key (get_or es n no_entry) = subst (NotBelow key) zeroth (All-get_or (NotBelow key) (drop n es) zero no_entry (omega arith) cut.least) in
            let later : IsBelow (get_or es n no_entry).key key =
            subst (λ (k : List ℕ). IsBelow (get_or es n no_entry).key k) (ap (λ (e : Entry). e.key) (sym (get_or-drop n es (suc j) no_entry)) ∙ same)
            (rising_at es n (n + suc j) rise (omega arith) (omega (arith, size, short))) in
            absurd (true≢false (sym (ap is_lt later) ∙ least))

-- ---- the number of a key

pub number_here : (node : TreeNode) (key : List ℕ) (n : ℕ) → AreRising node.entries → n ≡ count_below node.entries key → n < length node.entries → (entry_at node n).key ≡ key
    → Some (entry_at node n).number ≡ number_of key node.entries
number_here node key n rise counted within same =
    let es : List Entry = node.entries in
    let e : Entry = get_or es n no_entry in
    let cut : SplitsAt es key n = subst (λ k. SplitsAt es key k) (sym counted) (splits key es rise) in
    let here_too : is_lt (key_cmp e.key key) ≡ false = ap (λ (k : List ℕ). is_lt (key_cmp k key)) same ∙ not_itself key in
    let found : is_eq (key_cmp e.key key) ≡ true = ap (λ (k : List ℕ). is_eq (key_cmp k key)) same ∙ equals key in
    sym (ap (λ xs. number_of key xs) (split_at es n no_entry within)
    ∙ (number_amid key (take n es) (e ∷ []) (drop (n + 1) es) cut.below (behind_rise es key n rise within here_too)
    ∙ ap (λ (b : Bool). option_map (λ (x : Entry). x.number) (cond {A = Option Entry} b (Some e) None)) found))
  where
    equals : (k : List ℕ) → is_eq (key_cmp k k) ≡ true
    equals k = go (key_cmp k k) refl
      where
        go : (o : Ordering) → key_cmp k k ≡ o → is_eq (key_cmp k k) ≡ true
        go Less is = (let clash : Less ≡ Greater = sym is ∙ less_greater k k is in cc)
        go Equal is = ap is_eq is
        go Greater is = (let clash : Greater ≡ Less = sym is ∙ greater_less k k is in cc)

pub no_number : (node : TreeNode) (key : List ℕ) (n : ℕ) → AreRising node.entries → n ≡ count_below node.entries key → ((n < length node.entries) × ((entry_at node n).key ≡ key) → ⊥)
    → None ≡ number_of key node.entries
no_number node key n rise counted other =
    let es : List Entry = node.entries in
    let leads : LeadsTo node key n = leads_to node key n rise counted other in
    let cut : SplitsAt es key n = subst (λ k. SplitsAt es key k) (sym counted) (splits key es rise) in
    sym (ap (λ xs. number_of key xs) (sym (take-append-drop n es)) ∙ number_amid key (take n es) [] (drop n es) cut.below leads.above)

-- ---- at a place

module _ (o : Option TreeNode) (key : List ℕ) (n : ℕ) (has : Bool) (rise : IfSome o (λ node. AreRising node.entries)) (counted : IfSome o (λ node. n ≡ count_below node.entries key))
    (told : IfSome o (λ node. (has ≡ true) ↔ ((n < length node.entries) × ((entry_at node n).key ≡ key)))) where
  pub leads_past_if : has ≡ true → IfSome o (λ node. LeadsTo node key (n + 1))
  leads_past_if there = go o rise counted told
    where
      go : (o : Option TreeNode) → IfSome o (λ node. AreRising node.entries) → IfSome o (λ node. n ≡ count_below node.entries key)
          → IfSome o (λ node. (has ≡ true) ↔ ((n < length node.entries) × ((entry_at node n).key ≡ key))) → IfSome o (λ node. LeadsTo node key (n + 1))
      go None r k t = tt
      go (Some node) r k t = leads_past node key n (n + 1) r k (t.0 there).0 (t.0 there).1 refl

  pub leads_to_if : has ≡ false → IfSome o (λ node. LeadsTo node key n)
  leads_to_if missing = go o rise counted told
    where
      go : (o : Option TreeNode) → IfSome o (λ node. AreRising node.entries) → IfSome o (λ node. n ≡ count_below node.entries key)
          → IfSome o (λ node. (has ≡ true) ↔ ((n < length node.entries) × ((entry_at node n).key ≡ key))) → IfSome o (λ node. LeadsTo node key n)
      go None r k t = tt
      go (Some node) r k t = leads_to node key n r k (λ found. true≢false (sym (t.1 found) ∙ missing))

  pub number_here_if : (node : TreeNode) (number : ℕ) → o ≡ Some node → has ≡ true → IfSome o (λ node. number ≡ (entry_at node n).number) → Some number ≡ number_of key (entries_of o)
  number_here_if node number is there read =
      let t = value_of (λ node. (has ≡ true) ↔ ((n < length node.entries) × ((entry_at node n).key ≡ key))) o node is told in
      ap (λ k. Some k) (value_of (λ node. number ≡ (entry_at node n).number) o node is read)
      ∙ (number_here node key n (value_of (λ node. AreRising node.entries) o node is rise) (value_of (λ node. n ≡ count_below node.entries key) o node is counted) (t.0 there).0 (t.0 there).1
      ∙ sym (ap (λ (x : Option TreeNode). number_of key (entries_of x)) is))

  pub no_number_if : has ≡ false → None ≡ number_of key (entries_of o)
  no_number_if missing = go o rise counted told
    where
      go : (o : Option TreeNode) → IfSome o (λ node. AreRising node.entries) → IfSome o (λ node. n ≡ count_below node.entries key)
          → IfSome o (λ node. (has ≡ true) ↔ ((n < length node.entries) × ((entry_at node n).key ≡ key))) → None ≡ number_of key (entries_of o)
      go None r k t = refl
      go (Some node) r k t = no_number node key n r k (λ found. true≢false (sym (t.1 found) ∙ missing))

-- the node at a place where one is live
pub node_there : (live : Live) (p : Place) (h : HoldsNode live p) → nodes_of live p ≡ Some (node_in h.0.content)
node_there live p h = ap (λ (o : Option Item). option_map (λ (i : Item). node_in i.content) o) h.1

pub is_live : (live : Live) (p : Place) (node : TreeNode) → nodes_of live p ≡ Some node → IsSome (live p)
is_live live p node is = go (live p) is
  where
    go : (o : Option Item) → option_map (λ (i : Item). node_in i.content) o ≡ Some node → IsSome o
    go None e = some_none e refl
    go (Some i) e = refl
