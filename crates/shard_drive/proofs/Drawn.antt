-- One word more is drawn.
use Rattle.std.proofs.Common.{◌≡◌, ℕ, zero, suc, ◌+◌, ◌<◌, ◌≤◌, ◌%◌, List, [], ◌∷◌, ◌++◌, length, inl, inr, get_or, set, get_or-set_other, arith, ap, sym, refl, subst, ◌∙◌}
use Rattle.std.specs.List.{All, sum_by}
use Rattle.std.proofs.lemmas.Bool.{cases_eq}
use Rattle.std.proofs.lemmas.List.Sums.{sum_by-set}
use Rattle.rand_pcg.specs.Lcg.{Lcg}
use Rattle.layout.specs.Counts.{counted, greatest_count}
use Rattle.shard_drive.specs.Drives.{Follows}
use Rattle.shard_drive.specs.Words.{FollowsWords, behind, drawn, first_state, named, word}
use Rattle.shard_drive.proofs.Given.{raised-none}
use Rattle.shard_drive.proofs.Places.{Writes}
use Rattle.shard_drive.proofs.Turned.{turns-next}

-- the state behind so many words
abbrev pub after : ℕ → Lcg → Lcg
after zero state = state
after (suc m) state = after m (behind state)

after-next : (m : ℕ) (state : Lcg) → after (suc m) state ≡ behind (after m state)
after-next zero state = refl
after-next (suc m) state = after-next m (behind state)

named-next : (n m : ℕ) (state : Lcg) → named n (suc m) state ≡ named n m state ++ (word (after m state) % n) ∷ []
named-next n zero state = refl
named-next n (suc m) state = ap (λ rest. word state % n ∷ rest) (named-next n m (behind state))

-- no count stood at the greatest before the turn
below-before : {A : Type 0} (turns : A → ℕ) (xs ys : List A) (k : ℕ) → k < length xs → length ys ≡ length xs → Writes k xs ys
    → ((d : A) → turns (get_or ys k d) ≡ counted (turns (get_or xs k d))) → All (λ node. turns node < greatest_count) ys → All (λ node. turns node < greatest_count) xs
below-before {A} turns xs ys k within long writes turn all j d below =
    let after : turns (get_or ys j d) < greatest_count = all j d (subst (λ (n : ℕ). j < n) (sym long) below) in
    elim (cases_eq j k) [
      | inl same ↦
          let raises : turns (get_or ys j d) ≡ counted (turns (get_or xs j d)) = subst (λ (i : ℕ). turns (get_or ys i d) ≡ counted (turns (get_or xs i d))) (sym same) (turn d) in
          omega (arith, raises, after)
      | inr ne ↦
          let stays : get_or ys j d ≡ get_or xs j d = ap (λ (zs : List A). get_or zs j d) (writes d) ∙ get_or-set_other xs k j (get_or ys k d) d ne in
          subst (λ (x : A). turns x < greatest_count) stays after
    ]

sum-of : {A : Type 0} (turns : A → ℕ) (xs ys : List A) (k : ℕ) (any : A) → k < length xs → length ys ≡ length xs → Writes k xs ys
    → ((d : A) → turns (get_or ys k d) ≡ counted (turns (get_or xs k d))) → All (λ node. turns node < greatest_count) ys → sum_by turns ys ≡ suc (sum_by turns xs)
sum-of {A} turns xs ys k any within long writes turn all =
    let below : turns (get_or ys k any) < greatest_count = all k any (subst (λ (n : ℕ). k < n) (sym long) within) in
    let raises = turn any in
    let written : sum_by turns ys ≡ sum_by turns (set xs k (get_or ys k any)) = ap (λ (zs : List A). sum_by turns zs) (writes any) in
    let one = sum_by-set turns xs k (get_or ys k any) any within in
    omega (arith, below, raises, written, one)

-- where k is a place, the row has something at its head
sum-next : {A : Type 0} (turns : A → ℕ) (xs ys : List A) (k : ℕ) → k < length xs → length ys ≡ length xs → Writes k xs ys
    → ((d : A) → turns (get_or ys k d) ≡ counted (turns (get_or xs k d))) → All (λ node. turns node < greatest_count) ys → sum_by turns ys ≡ suc (sum_by turns xs)
sum-next turns [] ys k within long writes turn all = absurd (omega (arith, within))
sum-next turns (x ∷ xs) ys k within long writes turn all = sum-of turns (x ∷ xs) ys k x within long writes turn all

-- the words so far were followed, and the generator stands behind them
pub record HasFollowed {A : Type 0} (turns : A → ℕ) (number : ℕ) (old new : List A) (state : Lcg) : Type 0 where
  pub words : ℕ
  pub at : state ≡ after words (first_state number)
  pub follows : Follows turns (drawn number (length old) words) old new
  pub sum : All (λ node. turns node < greatest_count) new → sum_by turns new ≡ sum_by turns old + words

pub none-followed : {A : Type 0} (turns : A → ℕ) (number : ℕ) (old : List A) → All (λ node. turns node ≤ greatest_count) old
    → HasFollowed turns number old old (first_state number)
none-followed turns number old few = record {
  words = 0;
  at = refl;
  follows = λ k d below. raised-none (turns (get_or old k d)) (few k d below);
  sum = λ all. omega arith;
}

pub followed : {A : Type 0} (turns : A → ℕ) (number : ℕ) (old new : List A) (state : Lcg) → HasFollowed turns number old new state → FollowsWords turns number old new
followed turns number old new state so_far = record { words = so_far.words; follows = so_far.follows; sum = so_far.sum }

pub next-followed : {A : Type 0} (turns : A → ℕ) (number : ℕ) (old xs ys : List A) (state after : Lcg) (k : ℕ) → k ≡ word state % length old → after ≡ behind state
    → k < length xs → length ys ≡ length xs → Writes k xs ys → ((d : A) → turns (get_or ys k d) ≡ counted (turns (get_or xs k d)))
    → HasFollowed turns number old xs state → HasFollowed turns number old ys after
next-followed {A} turns number old xs ys state after k names drawn within long writes turn so_far =
    let m = so_far.words in
    let start = first_state number in
    let n = length old in
    let now : named n (suc m) start ≡ named n m start ++ k ∷ [] =
    named-next n m start ∙ ap (λ s. named n m start ++ (word s % n) ∷ []) (sym so_far.at) ∙ ap (λ e. named n m start ++ e ∷ []) (sym names) in
    record {
      words = suc m;
      at = drawn ∙ (ap behind so_far.at ∙ sym (after-next m start));
      follows = subst (λ schedule. Follows turns schedule old ys) (sym now) (turns-next turns (named n m start) old xs ys k within writes turn so_far.follows);
      sum = λ all.
          let more = sum-next turns xs ys k within long writes turn all in
          let before = so_far.sum (below-before turns xs ys k within long writes turn all) in
          omega (arith, more, before);
    }
