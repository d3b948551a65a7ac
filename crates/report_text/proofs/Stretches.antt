-- The texts of a list from one element on, up to another.
use Rattle.std.proofs.Common.{◌≡◌, ℕ, ◌+◌, ◌-◌, ◌<◌, ◌≤◌, List, ◌++◌, length, take, drop, get_or, Result, Ok, Err, sym, ap, ◌∙◌, subst, arith, append-nil, take-add, drop-drop, drop-cons}
use Rattle.std.specs.List.{flat_map}
use Rattle.std.proofs.lemmas.List.{take_all}
use Rattle.std.proofs.lemmas.List.Concat.{flat_map-append}
use Rattle.text_lemmas.specs.Writing.{Output, Writes}
use Rattle.text_lemmas.proofs.Written.{Writes-then, Writes-stop}

module _ {X : Type 0} (f : X → List ℕ) (xs : List X) where
  abbrev pub lines : ℕ → ℕ → List ℕ
  lines a b = flat_map f (take (b - a) (drop a xs))

  -- some, and those behind them
  pub lines-join : (a b c : ℕ) → a ≤ b → b ≤ c → lines a b ++ lines b c ≡ lines a c
  lines-join a b c first second =
      let sum : c - a ≡ (b - a) + (c - b) = omega (arith, first, second) in
      let at : a + (b - a) ≡ b = omega (arith, first) in
      let rest : drop (b - a) (drop a xs) ≡ drop b xs = drop-drop (b - a) a xs ∙ ap (λ n. drop n xs) at in
      let cut : take (c - a) (drop a xs) ≡ take (b - a) (drop a xs) ++ take (c - b) (drop b xs) =
      ap (λ n. take n (drop a xs)) sum ∙ take-add (b - a) (c - b) (drop a xs) ∙ ap (λ l. take (b - a) (drop a xs) ++ take (c - b) l) rest in
      sym (ap (flat_map f) cut ∙ flat_map-append f (take (b - a) (drop a xs)) (take (c - b) (drop b xs)))

  -- one of them
  pub lines-one : (i : ℕ) (d : X) → i < length xs → lines i (i + 1) ≡ f (get_or xs i d)
  lines-one i d within =
      let one : i + 1 - i ≡ 1 = omega arith in
      ap (λ n. flat_map f (take n (drop i xs))) one ∙ ap (λ l. flat_map f (take 1 l)) (drop-cons xs i d within) ∙ append-nil (f (get_or xs i d))

  -- all of them
  pub lines-all : (a b : ℕ) → a ≡ 0 → length xs ≤ b → lines a b ≡ flat_map f xs
  lines-all a b first past =
      let whole : b - 0 ≡ b = omega arith in
      ap (λ n. lines n b) first ∙ ap (λ n. flat_map f (take n xs)) whole ∙ ap (flat_map f) (take_all b xs past)

  -- up to another by another name
  pub Lines-to : {T E : Type 0} {r : Result T E} {a b : Output} (i : ℕ) {j k : ℕ} → j ≡ k → Writes r a b (lines i j) → Writes r a b (lines i k)
  Lines-to {r = r} {a = a} {b = b} i is p = subst (λ m. Writes r a b (lines i m)) is p

  module _ {T E : Type 0} {a b c : Output} (s i j : ℕ) where
    -- some more of them
    pub Lines-next : {u v : T} → s ≤ i → i ≤ j → Writes {T = T} {E = E} (Ok u) a b (lines s i) → Writes {T = T} {E = E} (Ok v) b c (lines i j) → Writes {T = T} {E = E} (Ok v) a c (lines s j)
    Lines-next first second p q = subst (Writes (Ok _) a c) (lines-join s i j first second) (Writes-then p q)

    -- a failure in some of them
    pub Lines-broken : {u : T} {e : E} (n : ℕ) → s ≤ i → i ≤ j → j ≤ n → Writes {T = T} {E = E} (Ok u) a b (lines s i) → Writes {T = T} {E = E} (Err e) b c (lines i j)
        → Writes {T = T} {E = E} (Err e) a c (lines s n)
    Lines-broken n first second third p q =
        let so_far = subst (Writes (Err _) a c) (lines-join s i j first second) (Writes-then p q) in
        let past : s ≤ j = omega (arith, first, second) in
        subst (Writes (Err _) a c) (lines-join s j n past third) (Writes-stop (lines j n) so_far)
