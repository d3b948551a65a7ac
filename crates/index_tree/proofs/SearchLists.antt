-- What is read of entries of which a part in front lies below a key, and a part behind above it.
use Rattle.std.proofs.Common.{◌≡◌, ℕ, zero, suc, ◌<◌, Bool, true, false, cond, List, [], ◌∷◌, ◌++◌, All, Option, Some, None, length, get_or, option_map, refl, ap, sym, ◌∙◌, arith, Ordering, Less, Greater, append-nil, append_assoc}
use Rattle.std.specs.Prelude.{filter, find}
use Rattle.std.specs.Option.{option_or}
use Rattle.std.specs.List.{flat_map}
use Rattle.std.specs.Ordering.{is_lt, is_le, is_eq}
use Rattle.std.proofs.lemmas.List.Folds.{find-append}
use Rattle.std.proofs.lemmas.List.Elements.{All-nil, All-append, All-head, All-tail, All-get_or, All-weaker, All-from_get_or, filter-append}
use Rattle.tree_nodes.specs.Nodes.{Entry, no_entry}
use Rattle.tree_nodes.specs.Order.{AreRising, IsBelow, key_cmp}
use Rattle.index_tree.specs.Indexes.{above, below, from, number_of, without}
use Rattle.index_tree.specs.Ways.{AllAbove, AllBelow}
use Rattle.index_tree.proofs.KeyOrder.{less_greater}

-- ---- a test that no element passes, or each

pub none_kept : {A : Type 0} (test : A → Bool) (xs : List A) → All (λ x. test x ≡ false) xs → filter test xs ≡ []
none_kept test [] all = refl
none_kept {A} test (x ∷ xs) all =
    ap (λ (b : Bool). cond {A = List A} b (x ∷ filter test xs) (filter test xs)) (All-head (λ y. test y ≡ false) x xs all)
    ∙ none_kept test xs (All-tail (λ y. test y ≡ false) x xs all)

pub all_kept : {A : Type 0} (test : A → Bool) (xs : List A) → All (λ x. test x ≡ true) xs → filter test xs ≡ xs
all_kept test [] all = refl
all_kept {A} test (x ∷ xs) all =
    ap (λ (b : Bool). cond {A = List A} b (x ∷ filter test xs) (filter test xs)) (All-head (λ y. test y ≡ true) x xs all)
    ∙ ap (λ (t : List A). x ∷ t) (all_kept test xs (All-tail (λ y. test y ≡ true) x xs all))

none_found : {A : Type 0} (test : A → Bool) (xs : List A) → All (λ x. test x ≡ false) xs → find test xs ≡ None
none_found test [] all = refl
none_found {A} test (x ∷ xs) all =
    ap (λ (b : Bool). cond {A = Option A} b (Some x) (find test xs)) (All-head (λ y. test y ≡ false) x xs all)
    ∙ none_found test xs (All-tail (λ y. test y ≡ false) x xs all)

or_none : {A : Type 0} (o : Option A) → option_or o None ≡ o
or_none None = refl
or_none (Some a) = refl

-- ---- parts below a key, and above it

module _ (key : List ℕ) where
  below_tests : (test : Ordering → Bool) (xs : List Entry) → AllBelow key xs → All (λ e. test (key_cmp e.key key) ≡ test Less) xs
  below_tests test xs all = All-weaker (λ e. IsBelow e.key key) (λ e. test (key_cmp e.key key) ≡ test Less) (λ e h. ap test h) xs all

  below_turned : (test : Ordering → Bool) (xs : List Entry) → AllBelow key xs → All (λ e. test (key_cmp key e.key) ≡ test Greater) xs
  below_turned test xs all = All-weaker (λ e. IsBelow e.key key) (λ e. test (key_cmp key e.key) ≡ test Greater) (λ e h. ap test (less_greater e.key key h)) xs all

  above_tests : (test : Ordering → Bool) (xs : List Entry) → AllAbove key xs → All (λ e. test (key_cmp e.key key) ≡ test Greater) xs
  above_tests test xs all = All-weaker (λ e. IsBelow key e.key) (λ e. test (key_cmp e.key key) ≡ test Greater) (λ e h. ap test (less_greater key e.key h)) xs all

  above_turned : (test : Ordering → Bool) (xs : List Entry) → AllAbove key xs → All (λ e. test (key_cmp key e.key) ≡ test Less) xs
  above_turned test xs all = All-weaker (λ e. IsBelow key e.key) (λ e. test (key_cmp key e.key) ≡ test Less) (λ e h. ap test h) xs all

  -- what a filter keeps of three parts
  of_three : (test : Entry → Bool) (xs here ys : List Entry) → filter test (xs ++ (here ++ ys)) ≡ filter test xs ++ (filter test here ++ filter test ys)
  of_three test xs here ys = filter-append test xs (here ++ ys) ∙ ap (λ t. filter test xs ++ t) (filter-append test here ys)

  pub number_amid : (xs here ys : List Entry) → AllBelow key xs → AllAbove key ys → number_of key (xs ++ (here ++ ys)) ≡ number_of key here
  number_amid xs here ys under over =
      let test : Entry → Bool = λ e. is_eq (key_cmp e.key key) in
      ap (λ (o : Option Entry). option_map (λ (e : Entry). e.number) o)
      (find-append test xs (here ++ ys)
      ∙ (ap (λ (o : Option Entry). option_or o (find test (here ++ ys))) (none_found test xs (below_tests is_eq xs under))
      ∙ (find-append test here ys
      ∙ (ap (λ (o : Option Entry). option_or (find test here) o) (none_found test ys (above_tests is_eq ys over)) ∙ or_none (find test here)))))

  pub from_amid : (xs here ys : List Entry) → AllBelow key xs → AllAbove key ys → from key (xs ++ (here ++ ys)) ≡ from key here ++ ys
  from_amid xs here ys under over =
      let test : Entry → Bool = λ e. is_le (key_cmp key e.key) in
      of_three test xs here ys
      ∙ (ap (λ t. t ++ (filter test here ++ filter test ys)) (none_kept test xs (below_turned is_le xs under))
      ∙ ap (λ t. filter test here ++ t) (all_kept test ys (above_turned is_le ys over)))

  pub below_amid : (xs here ys : List Entry) → AllBelow key xs → AllAbove key ys → below key (xs ++ (here ++ ys)) ≡ xs ++ below key here
  below_amid xs here ys under over =
      let test : Entry → Bool = λ e. is_lt (key_cmp e.key key) in
      of_three test xs here ys
      ∙ (ap (λ t. t ++ (filter test here ++ filter test ys)) (all_kept test xs (below_tests is_lt xs under))
      ∙ (ap (λ t. xs ++ (filter test here ++ t)) (none_kept test ys (above_tests is_lt ys over)) ∙ ap (λ t. xs ++ t) (append-nil (filter test here))))

  pub above_amid : (xs here ys : List Entry) → AllBelow key xs → AllAbove key ys → above key (xs ++ (here ++ ys)) ≡ above key here ++ ys
  above_amid xs here ys under over =
      let test : Entry → Bool = λ e. is_lt (key_cmp key e.key) in
      of_three test xs here ys
      ∙ (ap (λ t. t ++ (filter test here ++ filter test ys)) (none_kept test xs (below_turned is_lt xs under))
      ∙ ap (λ t. filter test here ++ t) (all_kept test ys (above_turned is_lt ys over)))

  -- without the key, in front of entries above it and behind entries below it
  pub without_behind : (xs t : List Entry) → AllBelow key xs → without key (xs ++ t) ≡ xs ++ without key t
  without_behind xs t under =
      let low : Entry → Bool = λ e. is_lt (key_cmp e.key key) in
      let high : Entry → Bool = λ e. is_lt (key_cmp key e.key) in
      ap (λ (u : List Entry). u ++ filter high (xs ++ t)) (filter-append low xs t ∙ ap (λ (u : List Entry). u ++ filter low t) (all_kept low xs (below_tests is_lt xs under)))
      ∙ (ap (λ (u : List Entry). (xs ++ filter low t) ++ u) (filter-append high xs t ∙ ap (λ (u : List Entry). u ++ filter high t) (none_kept high xs (below_turned is_lt xs under)))
      ∙ append_assoc xs (filter low t) (filter high t))

  pub without_front : (t ys : List Entry) → AllAbove key ys → without key (t ++ ys) ≡ without key t ++ ys
  without_front t ys over =
      let low : Entry → Bool = λ e. is_lt (key_cmp e.key key) in
      let high : Entry → Bool = λ e. is_lt (key_cmp key e.key) in
      ap (λ (u : List Entry). u ++ filter high (t ++ ys))
      (filter-append low t ys ∙ (ap (λ (u : List Entry). filter low t ++ u) (none_kept low ys (above_tests is_lt ys over)) ∙ append-nil (filter low t)))
      ∙ (ap (λ (u : List Entry). filter low t ++ u) (filter-append high t ys ∙ ap (λ (u : List Entry). filter high t ++ u) (all_kept high ys (above_turned is_lt ys over)))
      ∙ sym (append_assoc (filter low t) (filter high t) ys))

-- ---- keys that rise

abbrev pub IsBefore : List Entry → Entry → Type 0
IsBefore ys e = All (λ g. IsBelow e.key g.key) ys

pub rising_append : (xs ys : List Entry) → AreRising xs → AreRising ys → All (IsBefore ys) xs → AreRising (xs ++ ys)
rising_append [] ys rise_xs rise_ys before = rise_ys
rising_append (x ∷ xs) ys rise_xs rise_ys before = (
  All-append (λ g. IsBelow x.key g.key) xs ys rise_xs.0 (All-head (IsBefore ys) x xs before),
  rising_append xs ys rise_xs.1 rise_ys (All-tail (IsBefore ys) x xs before),
)

-- of two entries the one in front has the lower key
pub rising_at : (es : List Entry) (i j : ℕ) → AreRising es → i < j → j < length es → IsBelow (get_or es i no_entry).key (get_or es j no_entry).key
rising_at [] i j rise less within = absurd (omega arith)
rising_at (e ∷ es) zero zero rise less within = absurd (omega arith)
rising_at (e ∷ es) zero (suc j) rise less within = All-get_or (λ g. IsBelow e.key g.key) es j no_entry (omega arith) rise.0
rising_at (e ∷ es) (suc i) zero rise less within = absurd (omega arith)
rising_at (e ∷ es) (suc i) (suc j) rise less within = rising_at es i j rise.1 (omega arith) (omega arith)

pub all_gathered : {A : Type 0} (P : A → Type 0) (f : ℕ → List A) (xs : List ℕ) → All (λ x. All P (f x)) xs → All P (flat_map f xs)
all_gathered P f [] all = All-nil P
all_gathered P f (x ∷ xs) all =
    All-append P (f x) (flat_map f xs) (All-head (λ y. All P (f y)) x xs all) (all_gathered P f xs (All-tail (λ y. All P (f y)) x xs all))

-- what is gathered rises, if each part does, and each lies before all behind it
pub rising_gathered : (f : ℕ → List Entry) (xs : List ℕ) (d : ℕ) → All (λ x. AreRising (f x)) xs
    → ((i j : ℕ) → i < j → j < length xs → All (IsBefore (f (get_or xs j d))) (f (get_or xs i d))) → AreRising (flat_map f xs)
rising_gathered f [] d rise apart = tt
rising_gathered f (x ∷ xs) d rise apart =
    rising_append (f x) (flat_map f xs) (All-head (λ y. AreRising (f y)) x xs rise)
    (rising_gathered f xs d (All-tail (λ y. AreRising (f y)) x xs rise) (λ i j less within. apart (suc i) (suc j) (omega arith) (omega arith)))
    (λ k e within.
    all_gathered (λ g. IsBelow (get_or (f x) k e).key g.key) f xs
    (All-from_get_or (λ y. IsBefore (f y) (get_or (f x) k e)) xs d (λ j short. apart zero (suc j) (omega arith) (omega arith) k e within)))
