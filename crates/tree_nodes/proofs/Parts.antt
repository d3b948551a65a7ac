-- A list by the parts at an index.
use Rattle.std.proofs.Common.{◌≡◌, ℕ, suc, ◌+◌, ◌-◌, ◌<◌, ◌≤◌, List, [], ◌∷◌, ◌++◌, length, take, drop, get_or, ap, sym, ◌∙◌, append_assoc, arith, length-append}
use Rattle.std.specs.List.{insert}
use Rattle.std.proofs.lemmas.List.{length-take-le, length-drop, take_at, take-append-drop, drop-drop, drop_more, drop_all}

module _ {A : Type 0} where
  -- the elements in front of one, this one, and those behind it
  pub at_index : (xs : List A) (i : ℕ) (d : A) → i < length xs → xs ≡ take i xs ++ get_or xs i d ∷ drop (suc i) xs
  at_index xs i d within =
      sym (take-append-drop i xs)
      ∙ ap (λ (t : List A). take i xs ++ t) (drop_more xs i d within ∙ ap (λ k. get_or xs i d ∷ drop k xs) {y = suc i} (omega arith))

  -- of so many and one more the last, and those between it and an index
  pub at_last : (xs : List A) (i n : ℕ) (d : A) → i ≤ n → length xs ≡ suc n → xs ≡ take i xs ++ (take (n - i) (drop i xs) ++ get_or xs n d ∷ [])
  at_last xs i n d within is =
      let behind : List A = drop i xs in
      let tail : drop (n - i) behind ≡ get_or xs n d ∷ [] =
      drop-drop (n - i) i xs ∙ (ap (λ k. drop k xs) {y = n} (omega arith)
      ∙ (drop_more xs n d (omega arith) ∙ ap (λ t. get_or xs n d ∷ t) (drop_all (n + 1) xs (omega arith)))) in
      sym (take-append-drop i xs)
      ∙ ap (λ t. take i xs ++ t) (sym (take-append-drop (n - i) behind) ∙ ap (λ t. take (n - i) behind ++ t) tail)

  -- an element put in, and the last one gone
  pub put_in_at : (xs : List A) (i n : ℕ) (x d : A) → i ≤ n → length xs ≡ suc n → take (suc n) (insert xs i x) ≡ take i xs ++ x ∷ take (n - i) (drop i xs)
  put_in_at xs i n x d within is =
      let front : List A = take i xs in
      let mid : List A = take (n - i) (drop i xs) in
      let parts : drop i xs ≡ mid ++ get_or xs n d ∷ [] = sym (take-append-drop (n - i) (drop i xs)) ∙ ap (λ t. mid ++ t)
      (drop-drop (n - i) i xs ∙ (ap (λ k. drop k xs) {y = n} (omega arith) ∙ (drop_more xs n d (omega arith) ∙ ap (λ t. get_or xs n d ∷ t) (drop_all (n + 1) xs (omega arith))))) in
      let length_front : length front ≡ i = length-take-le i xs (omega arith) in
      let length_mid : length mid ≡ n - i = length-take-le (n - i) (drop i xs) (let l = length-drop i xs in omega arith) in
      let whole : length (front ++ x ∷ mid) ≡ suc n = length-append front (x ∷ mid) ∙ omega arith in
      ap (λ t. take (suc n) (front ++ x ∷ t)) parts
      ∙ (ap (λ t. take (suc n) t) (sym (append_assoc front (x ∷ mid) (get_or xs n d ∷ [])))
      ∙ take_at (front ++ x ∷ mid) (get_or xs n d ∷ []) (suc n) whole)
