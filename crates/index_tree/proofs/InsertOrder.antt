-- The order of keys where one is put in.
use Rattle.std.proofs.Common.{◌≡◌, ℕ, true, false, cond, List, [], ◌∷◌, ◌++◌, All, sym, ap, ◌∙◌, append_assoc, is_lt}
use Rattle.std.proofs.lemmas.List.{append-nil}
use Rattle.std.proofs.lemmas.List.Elements.{All-nil, All-cons, All-head, All-tail, All-weaker, filter-append}
use Rattle.tree_nodes.specs.Nodes.{Entry}
use Rattle.tree_nodes.specs.Order.{AreRising, IsBelow, key_cmp}
use Rattle.index_tree.specs.Indexes.{above, below, with_number}
use Rattle.index_tree.specs.Ways.{AllAbove, AllBelow}
use Rattle.index_tree.proofs.Frame.{all_back, all_front}
use Rattle.index_tree.proofs.KeyOrder.{not_below, not_itself}
use Rattle.index_tree.proofs.SearchLists.{all_kept, none_kept, rising_append}

abbrev item : List ℕ → ℕ → Entry
item key number = record { key = key; number = number }

below_all : (key : List ℕ) (es : List Entry) → AllBelow key es → below key es ≡ es
below_all key es all = all_kept (λ e. is_lt (key_cmp e.key key)) es (All-weaker (λ e. IsBelow e.key key) (λ e. is_lt (key_cmp e.key key) ≡ true) (λ e h. ap is_lt h) es all)

below_none : (key : List ℕ) (es : List Entry) → AllAbove key es → below key es ≡ []
below_none key es all = none_kept (λ e. is_lt (key_cmp e.key key)) es (All-weaker (λ e. IsBelow key e.key) (λ e. is_lt (key_cmp e.key key) ≡ false) (λ e h. not_below key e.key h) es all)

above_all : (key : List ℕ) (es : List Entry) → AllAbove key es → above key es ≡ es
above_all key es all = all_kept (λ e. is_lt (key_cmp key e.key)) es (All-weaker (λ e. IsBelow key e.key) (λ e. is_lt (key_cmp key e.key) ≡ true) (λ e h. ap is_lt h) es all)

above_none : (key : List ℕ) (es : List Entry) → AllBelow key es → above key es ≡ []
above_none key es all = none_kept (λ e. is_lt (key_cmp key e.key)) es (All-weaker (λ e. IsBelow e.key key) (λ e. is_lt (key_cmp key e.key) ≡ false) (λ e h. not_below e.key key h) es all)

below_both : (key : List ℕ) (xs ys : List Entry) → below key (xs ++ ys) ≡ below key xs ++ below key ys
below_both key xs ys = filter-append (λ e. is_lt (key_cmp e.key key)) xs ys

above_both : (key : List ℕ) (xs ys : List Entry) → above key (xs ++ ys) ≡ above key xs ++ above key ys
above_both key xs ys = filter-append (λ e. is_lt (key_cmp key e.key)) xs ys

-- entries that are all below the key stand in front, those that are all above it behind
pub with_number_front : (key : List ℕ) (number : ℕ) (xs ys : List Entry) → AllBelow key xs → with_number key number (xs ++ ys) ≡ xs ++ with_number key number ys
with_number_front key number xs ys all =
    ap (λ (t : List Entry). t ++ (item key number ∷ above key (xs ++ ys))) (below_both key xs ys ∙ ap (λ (t : List Entry). t ++ below key ys) (below_all key xs all))
    ∙ (ap (λ (t : List Entry). (xs ++ below key ys) ++ (item key number ∷ t)) (above_both key xs ys ∙ ap (λ (t : List Entry). t ++ above key ys) (above_none key xs all))
    ∙ append_assoc xs (below key ys) (item key number ∷ above key ys))

pub with_number_behind : (key : List ℕ) (number : ℕ) (xs ys : List Entry) → AllAbove key ys → with_number key number (xs ++ ys) ≡ with_number key number xs ++ ys
with_number_behind key number xs ys all =
    ap (λ (t : List Entry). t ++ (item key number ∷ above key (xs ++ ys)))
    (below_both key xs ys ∙ (ap (λ (t : List Entry). below key xs ++ t) (below_none key ys all) ∙ append-nil (below key xs)))
    ∙ (ap (λ (t : List Entry). below key xs ++ (item key number ∷ t)) (above_both key xs ys ∙ ap (λ (t : List Entry). above key xs ++ t) (above_all key ys all))
    ∙ sym (append_assoc (below key xs) (item key number ∷ above key xs) ys))

-- with no entry that has the key, it stands between those below it and those above it
pub with_number_between : (key : List ℕ) (number : ℕ) (xs ys : List Entry) → AllBelow key xs → AllAbove key ys → with_number key number (xs ++ ys) ≡ xs ++ item key number ∷ ys
with_number_between key number xs ys all_below all_above =
    with_number_front key number xs ys all_below ∙ ap (λ (t : List Entry). xs ++ t) (with_number_behind key number [] ys all_above)

-- and in place of the entry that has it
pub with_number_here : (key : List ℕ) (number old : ℕ) (xs ys : List Entry) → AllBelow key xs → AllAbove key ys → with_number key number (xs ++ item key old ∷ ys) ≡ xs ++ item key number ∷ ys
with_number_here key number old xs ys all_below all_above =
    with_number_front key number xs (item key old ∷ ys) all_below
    ∙ ap (λ (t : List Entry). xs ++ t) (with_number_behind key number (item key old ∷ []) ys all_above ∙ ap (λ (t : List Entry). t ++ ys) single)
  where
    single : with_number key number (item key old ∷ []) ≡ item key number ∷ []
    single =
        ap (λ b. cond b (item key old ∷ []) [] ++ (item key number ∷ cond (is_lt (key_cmp key key)) (item key old ∷ []) [])) (not_itself key)
        ∙ ap (λ b. item key number ∷ cond b (item key old ∷ []) []) (not_itself key)

-- ---- rising entries

pub rising_front : (xs ys : List Entry) → AreRising (xs ++ ys) → AreRising xs
rising_front [] ys r = tt
rising_front (x ∷ xs) ys r = (all_front (λ later. IsBelow x.key later.key) xs ys r.0, rising_front xs ys r.1)

pub rising_back : (xs ys : List Entry) → AreRising (xs ++ ys) → AreRising ys
rising_back [] ys r = r
rising_back (x ∷ xs) ys r = rising_back xs ys r.1

-- those in front are below all behind
pub rising_across : (xs ys : List Entry) → AreRising (xs ++ ys) → All (λ x. AllAbove x.key ys) xs
rising_across [] ys r = All-nil (λ x. AllAbove x.key ys)
rising_across (x ∷ xs) ys r = All-cons (λ z. AllAbove z.key ys) x xs (all_back (λ later. IsBelow x.key later.key) xs ys r.0) (rising_across xs ys r.1)

-- a key put in between those below it and those above it
pub rising_between : (xs ys : List Entry) (e : Entry) → AreRising (xs ++ ys) → AllBelow e.key xs → AllAbove e.key ys → AreRising (xs ++ e ∷ ys)
rising_between xs ys e r all_below all_above =
    rising_append xs (e ∷ ys) (rising_front xs ys r) (all_above, rising_back xs ys r)
    (across xs (rising_across xs ys r) all_below)
  where
    across : (qs : List Entry) → All (λ x. AllAbove x.key ys) qs → AllBelow e.key qs → All (λ x. AllAbove x.key (e ∷ ys)) qs
    across [] all low = All-nil (λ x. AllAbove x.key (e ∷ ys))
    across (a ∷ qs) all low =
        All-cons (λ x. AllAbove x.key (e ∷ ys)) a qs
        (All-cons (λ later. IsBelow a.key later.key) e ys (All-head (λ x. IsBelow x.key e.key) a qs low) (All-head (λ x. AllAbove x.key ys) a qs all))
        (across qs (All-tail (λ x. AllAbove x.key ys) a qs all) (All-tail (λ x. IsBelow x.key e.key) a qs low))
