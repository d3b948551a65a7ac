-- Keys taken from two lists, one after another, and what is left of both behind them.
use Rattle.std.proofs.Common.{◌≡◌, ℕ, ◌+◌, ◌-◌, ◌<◌, ◌≤◌, suc, true, false, List, [], ◌∷◌, ◌++◌, length, take, drop, get_or, arith, refl, sym, ap, ◌∙◌, subst, add-one, append_assoc, append-nil, drop-cons, length-drop, take-take, take_all}
use denote.Ref.{Bor}
use Rattle.std.proofs.Math.Seq.{take-append-add}
use Rattle.std.proofs.lemmas.List.{drop-map, get_or-map, length-map, map-append, take-append-le, take-map}
use Rattle.rows.specs.Apply.{is_at_most}
use Rattle.report_text.specs.inside.Merged.{merged}
use Rattle.report_text.proofs.Gathered.{texts}

-- behind those that were taken comes what is left of both, from i and from j on
pub record AreTaken (keys others : List (List ℕ)) (i j : ℕ) (both : List (List ℕ)) : Type 0 where
  pub all : both ++ merged (drop i keys) (drop j others) ≡ merged keys others

next : (keys : List (List ℕ)) (i : ℕ) (key : List ℕ) → i < length keys → get_or keys i [] ≡ key → drop i keys ≡ key ∷ drop (i + 1) keys
next keys i key below is = rw add-one (drop-cons keys i [] below ∙ ap (λ k. k ∷ drop (suc i) keys) is)

-- ---- one more

-- a key of the first list, where it is at most that of the other
key-taken : (keys others : List (List ℕ)) (i j : ℕ) (both : List (List ℕ)) (key other : List ℕ) → drop i keys ≡ key ∷ drop (i + 1) keys → drop j others ≡ other ∷ drop (j + 1) others
    → is_at_most key other ≡ true → AreTaken keys others i j both → AreTaken keys others (i + 1) j (both ++ key ∷ [])
key-taken keys others i j both key other next-is other-next-is least p =
    let rest = drop (j + 1) others in
    let here : merged (key ∷ drop (i + 1) keys) (other ∷ rest) ≡ key ∷ merged (drop (i + 1) keys) (other ∷ rest) = rw least refl in
    let first : merged (drop i keys) (drop j others) ≡ key ∷ merged (drop (i + 1) keys) (drop j others) =
    ap (λ list. merged list (drop j others)) next-is ∙ ap (merged (key ∷ drop (i + 1) keys)) other-next-is ∙ here
    ∙ ap (λ list. key ∷ merged (drop (i + 1) keys) list) (sym other-next-is) in
    record { all = append_assoc both (key ∷ []) (merged (drop (i + 1) keys) (drop j others)) ∙ ap (λ list. both ++ list) (sym first) ∙ p.all }

-- else one of the other
other-taken : (keys others : List (List ℕ)) (i j : ℕ) (both : List (List ℕ)) (key other : List ℕ) → drop i keys ≡ key ∷ drop (i + 1) keys → drop j others ≡ other ∷ drop (j + 1) others
    → is_at_most key other ≡ false → AreTaken keys others i j both → AreTaken keys others i (j + 1) (both ++ other ∷ [])
other-taken keys others i j both key other next-is other-next-is greater p =
    let rest = drop (j + 1) others in
    let here : merged (key ∷ drop (i + 1) keys) (other ∷ rest) ≡ other ∷ merged (key ∷ drop (i + 1) keys) rest = rw greater refl in
    let first : merged (drop i keys) (drop j others) ≡ other ∷ merged (drop i keys) rest =
    ap (λ list. merged list (drop j others)) next-is ∙ ap (merged (key ∷ drop (i + 1) keys)) other-next-is ∙ here ∙ ap (λ list. other ∷ merged list rest) (sym next-is) in
    record { all = append_assoc both (other ∷ []) (merged (drop i keys) rest) ∙ ap (λ list. both ++ list) (sym first) ∙ p.all }

module _ (keys others : List (Bor (List ℕ))) (i j : ℕ) (both after : List (List ℕ)) (d : Bor (List ℕ)) where
  next-text : (list : List (Bor (List ℕ))) (k : ℕ) → k < length list → drop k (texts list) ≡ (get_or list k d).now ∷ drop (k + 1) (texts list)
  next-text list k below = next (texts list) k (get_or list k d).now (omega (arith, below, length-map list (λ (key : Bor (List ℕ)). key.now))) (get_or-map (λ key. key.now) list k d [] below)

  pub key_next : i < length keys → j < length others → is_at_most (get_or keys i d).now (get_or others j d).now ≡ true → after ≡ both ++ (get_or keys i d).now ∷ []
      → AreTaken (texts keys) (texts others) i j both → AreTaken (texts keys) (texts others) (i + 1) j after
  key_next below other-below least is p =
      subst (AreTaken (texts keys) (texts others) (i + 1) j) (sym is)
      (key-taken (texts keys) (texts others) i j both (get_or keys i d).now (get_or others j d).now (next-text keys i below) (next-text others j other-below) least p)

  pub other_next : i < length keys → j < length others → is_at_most (get_or keys i d).now (get_or others j d).now ≡ false → after ≡ both ++ (get_or others j d).now ∷ []
      → AreTaken (texts keys) (texts others) i j both → AreTaken (texts keys) (texts others) i (j + 1) after
  other_next below other-below greater is p =
      subst (AreTaken (texts keys) (texts others) i (j + 1)) (sym is)
      (other-taken (texts keys) (texts others) i j both (get_or keys i d).now (get_or others j d).now (next-text keys i below) (next-text others j other-below) greater p)

-- ---- what is left is added as far as there is room

pub take_over : {X : Type 0} (n : ℕ) (xs ys : List X) → length xs ≤ n → take n (xs ++ ys) ≡ xs ++ take (n - length xs) ys
take_over n xs ys over =
    let long : length xs + (n - length xs) ≡ n = omega arith in
    ap (λ k. take k (xs ++ ys)) (sym long) ∙ take-append-add xs ys (n - length xs)

take-full : (n : ℕ) (both more : List (List ℕ)) → length both ≡ n → take n (both ++ more) ≡ both
take-full n both more full = take-append-le n both more (omega arith) ∙ take_all n both (omega arith)

merged-none : (keys : List (List ℕ)) → merged keys [] ≡ keys
merged-none [] = refl
merged-none (key ∷ keys) = ap (λ list. key ∷ list) (merged-none keys)

-- one list is at its end, or there is no room
behind : (n : ℕ) (both keys others : List (List ℕ)) → length both ≤ n → (0 < length keys → 0 < length others → length both ≡ n)
    → take n (take n (both ++ keys) ++ others) ≡ take n (both ++ merged keys others)
behind n both [] others few full = ap (λ list. take n (list ++ others)) (ap (take n) (append-nil both) ∙ take_all n both few)
behind n both (key ∷ keys) [] few full =
    ap (take n) (append-nil (take n (both ++ key ∷ keys))) ∙ take-take n n (both ++ key ∷ keys) (omega arith) ∙ ap (λ list. take n (both ++ list)) (sym (merged-none (key ∷ keys)))
behind n both (key ∷ keys) (other ∷ others) few full =
    let many : length both ≡ n = full (omega arith) (omega arith) in
    ap (λ list. take n (list ++ other ∷ others)) (take-full n both (key ∷ keys) many) ∙ take-full n both (other ∷ others) many
    ∙ sym (take-full n both (merged (key ∷ keys) (other ∷ others)) many)

added : (n : ℕ) (front list : List (Bor (List ℕ))) (i : ℕ) → texts (take n (front ++ take (length list - i) (drop i list))) ≡ take n (texts front ++ drop i (texts list))
added n front list i =
    let whole : take (length list - i) (drop i list) ≡ drop i list = take_all (length list - i) (drop i list) (omega (arith, length-drop i list)) in
    ap (λ rest. texts (take n (front ++ rest))) whole ∙ sym (take-map (λ (key : Bor (List ℕ)). key.now) n (front ++ drop i list))
    ∙ ap (take n) (map-append (λ (key : Bor (List ℕ)). key.now) front (drop i list) ∙ ap (λ rest. texts front ++ rest) (sym (drop-map (λ (key : Bor (List ℕ)). key.now) i list)))

pub filled : (keys others both after last : List (Bor (List ℕ))) (i j n : ℕ) → length both ≤ n → (i < length keys → j < length others → length both ≡ n)
    → AreTaken (texts keys) (texts others) i j (texts both) → after ≡ take n (both ++ take (length keys - i) (drop i keys))
    → last ≡ take n (after ++ take (length others - j) (drop j others)) → texts last ≡ take n (merged (texts keys) (texts others))
filled keys others both after last i j n few full p after-is last-is =
    let now = λ (key : Bor (List ℕ)). key.now in
    let after-texts : texts after ≡ take n (texts both ++ drop i (texts keys)) = ap texts after-is ∙ added n both keys i in
    ap texts last-is ∙ added n after others j ∙ ap (λ list. take n (list ++ drop j (texts others))) after-texts
    ∙ behind n (texts both) (drop i (texts keys)) (drop j (texts others)) (omega (arith, few, length-map both now))
    (λ some other-some.
    let within : i < length keys = omega (arith, some, length-drop i (texts keys), length-map keys now) in
    let other-within : j < length others = omega (arith, other-some, length-drop j (texts others), length-map others now) in
    length-map both now ∙ full within other-within)
    ∙ ap (take n) p.all
