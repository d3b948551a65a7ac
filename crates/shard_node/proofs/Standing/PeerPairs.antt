-- Two lists, place by place.
use Rattle.std.proofs.Common.{◌≡◌, ◌≢◌, ℕ, zero, suc, ◌<◌, List, [], ◌∷◌, length, map, get_or, slice_get, slice_set, Some, inl, inr, arith, refl, sym, ap, subst, ◌∙◌}
use Rattle.std.proofs.lemmas.Bool.{cases_order}
use Rattle.std.proofs.lemmas.List.{length-map, length-set, get_or-set_same, get_or-set_other, get_or_default}
use Rattle.std.proofs.lemmas.Option.{get_or_from_slice_get, slice_get_within, slice_get-get_or}
use Rattle.shard_node.specs.inside.Moves.{Pairs}

pub pairs_join : {X : Type 0} (R S T : ℕ → X → X → Type 0) (xs ys zs : List X) → ((k : ℕ) (a b c : X) → R k a b → S k b c → T k a c)
    → Pairs R xs ys → Pairs S ys zs → Pairs T xs zs
pairs_join R S T xs ys zs joins first second = record {
  long = second.long ∙ first.long;
  each = λ k d below. joins k (get_or xs k d) (get_or ys k d) (get_or zs k d) (first.each k d below) (second.each k d (let e = first.long in omega (arith, e, below)));
}

pub pairs_same : {X : Type 0} (R : ℕ → X → X → Type 0) (xs : List X) → ((k : ℕ) (a : X) → R k a a) → Pairs R xs xs
pairs_same R xs same = record { long = refl; each = λ k d below. same k (get_or xs k d) }

pub pairs_back : {X : Type 0} (R S : ℕ → X → X → Type 0) (xs ys : List X) → ((k : ℕ) (a b : X) → R k a b → S k b a) → Pairs R xs ys → Pairs S ys xs
pairs_back R S xs ys back pairs = record {
  long = sym pairs.long;
  each = λ k d below. back k (get_or xs k d) (get_or ys k d) (pairs.each k d (let e = pairs.long in omega (arith, e, below)));
}

pub pairs_so : {X : Type 0} (R S : ℕ → X → X → Type 0) (xs ys : List X) → ((k : ℕ) (a b : X) → R k a b → S k a b) → Pairs R xs ys → Pairs S xs ys
pairs_so R S xs ys so pairs = record { long = pairs.long; each = λ k d below. so k (get_or xs k d) (get_or ys k d) (pairs.each k d below) }

seen_at : {X Y : Type 0} (f : X → Y) (R : ℕ → Y → Y → Type 0) (xs ys : List X) → length ys ≡ length xs
    → ((k : ℕ) (d : X) → k < length xs → R k (f (get_or xs k d)) (f (get_or ys k d)))
    → (k : ℕ) (d : Y) → k < length (map f xs) → R k (get_or (map f xs) k d) (get_or (map f ys) k d)
seen_at f R [] ys same each k d below = absurd (omega (arith, below))
seen_at f R (x ∷ xs) [] same each k d below = absurd (omega (arith, same))
seen_at f R (x ∷ xs) (y ∷ ys) same each zero d below = each 0 x (omega arith)
seen_at f R (x ∷ xs) (y ∷ ys) same each (suc k) d below =
    seen_at f (λ j. R (suc j)) xs ys (omega (arith, same)) (λ j e b. each (suc j) e (omega (arith, b))) k d (omega (arith, below))

-- what is seen of two lists
pub seen_pairs : {X Y : Type 0} (f : X → Y) (R : ℕ → Y → Y → Type 0) (xs ys : List X) → length ys ≡ length xs
    → ((k : ℕ) (d : X) → k < length xs → R k (f (get_or xs k d)) (f (get_or ys k d))) → Pairs R (map f xs) (map f ys)
seen_pairs f R xs ys same each = record { long = length-map ys f ∙ (same ∙ sym (length-map xs f)); each = seen_at f R xs ys same each }

-- one place changes
pub one_pair : {X Y : Type 0} (f : X → Y) (R : ℕ → Y → Y → Type 0) (xs : List X) (at : ℕ) (old new : X) → at < length xs → get_or xs at old ≡ old
    → ((k : ℕ) (a : X) → k ≢ at → R k (f a) (f a)) → R at (f old) (f new) → Pairs R (map f xs) (map f (slice_set xs at new))
one_pair {X} f R xs at old new within here same change =
    seen_pairs f R xs (slice_set xs at new) (length-set xs at new) (λ k d below. elim (cases_order k at) [
      | inl is ↦
          let now : get_or (slice_set xs at new) k d ≡ new = ap (λ i. get_or (slice_set xs at new) i d) is ∙ get_or-set_same xs at new d within in
          let was : get_or xs k d ≡ old = ap (λ i. get_or xs i d) is ∙ (get_or_default xs at d old within ∙ here) in
          subst (λ (b : X). R k (f (get_or xs k d)) (f b)) (sym now)
          (subst (λ (a : X). R k (f a) (f new)) (sym was) (subst (λ i. R i (f old) (f new)) (sym is) change))
      | inr (inl less) ↦
          subst (λ (b : X). R k (f (get_or xs k d)) (f b)) (sym (get_or-set_other xs at k new d (λ e. omega (arith, e, less)))) (same k (get_or xs k d) (λ e. omega (arith, e, less)))
      | inr (inr more) ↦
          subst (λ (b : X). R k (f (get_or xs k d)) (f b)) (sym (get_or-set_other xs at k new d (λ e. omega (arith, e, more)))) (same k (get_or xs k d) (λ e. omega (arith, e, more)))
    ])

-- so where what stands at the other places is known
pub one_pair_in : {X Y : Type 0} (f : X → Y) (R : ℕ → Y → Y → Type 0) (xs : List X) (at : ℕ) (old new : X) → at < length xs → get_or xs at old ≡ old
    → ((k : ℕ) (d : X) → k < length xs → k ≢ at → R k (f (get_or xs k d)) (f (get_or xs k d))) → R at (f old) (f new) → Pairs R (map f xs) (map f (slice_set xs at new))
one_pair_in {X} f R xs at old new within here same change =
    seen_pairs f R xs (slice_set xs at new) (length-set xs at new) (λ k d below. elim (cases_order k at) [
      | inl is ↦
          let now : get_or (slice_set xs at new) k d ≡ new = ap (λ i. get_or (slice_set xs at new) i d) is ∙ get_or-set_same xs at new d within in
          let was : get_or xs k d ≡ old = ap (λ i. get_or xs i d) is ∙ (get_or_default xs at d old within ∙ here) in
          subst (λ (b : X). R k (f (get_or xs k d)) (f b)) (sym now)
          (subst (λ (a : X). R k (f a) (f new)) (sym was) (subst (λ i. R i (f old) (f new)) (sym is) change))
      | inr (inl less) ↦
          subst (λ (b : X). R k (f (get_or xs k d)) (f b)) (sym (get_or-set_other xs at k new d (λ e. omega (arith, e, less)))) (same k d below (λ e. omega (arith, e, less)))
      | inr (inr more) ↦
          subst (λ (b : X). R k (f (get_or xs k d)) (f b)) (sym (get_or-set_other xs at k new d (λ e. omega (arith, e, more)))) (same k d below (λ e. omega (arith, e, more)))
    ])

pub pair_at : {X : Type 0} (R : ℕ → X → X → Type 0) (xs ys : List X) (k : ℕ) (a b : X) → Pairs R xs ys → slice_get xs k ≡ Some a → slice_get ys k ≡ Some b → R k a b
pair_at {X} R xs ys k a b pairs here there =
    subst (λ (y : X). R k a y) (get_or_from_slice_get ys k b a there)
    (subst (λ (x : X). R k x (get_or ys k a)) (get_or_from_slice_get xs k a a here) (pairs.each k a (slice_get_within xs k a here)))

-- the other list has an element there too
pub pair_there : {X : Type 0} (R : ℕ → X → X → Type 0) (xs ys : List X) (k : ℕ) (a : X) → Pairs R xs ys → slice_get xs k ≡ Some a → slice_get ys k ≡ Some (get_or ys k a)
pair_there R xs ys k a pairs here = slice_get-get_or ys k a (let long = pairs.long in let within = slice_get_within xs k a here in omega (arith, long, within))

pub get_set_there : {X : Type 0} (xs : List X) (k : ℕ) (x : X) → k < length xs → slice_get (slice_set xs k x) k ≡ Some x
get_set_there [] k x below = absurd (omega (arith, below))
get_set_there (y ∷ ys) zero x below = refl
get_set_there (y ∷ ys) (suc k) x below = get_set_there ys k x (omega (arith, below))

-- places of what is seen of a list
pub seen_there : {X Y : Type 0} (f : X → Y) (xs : List X) (k : ℕ) (x : X) → k < length xs → get_or xs k x ≡ x → slice_get (map f xs) k ≡ Some (f x)
seen_there f [] k x below here = absurd (omega (arith, below))
seen_there f (y ∷ ys) zero x below here = ap (λ z. Some (f z)) here
seen_there f (y ∷ ys) (suc k) x below here = seen_there f ys k x (omega (arith, below)) here

pub set_seen : {X Y : Type 0} (f : X → Y) (xs : List X) (k : ℕ) (x : X) → k < length xs → slice_get (map f (slice_set xs k x)) k ≡ Some (f x)
set_seen f [] k x below = absurd (omega (arith, below))
set_seen f (y ∷ ys) zero x below = refl
set_seen f (y ∷ ys) (suc k) x below = set_seen f ys k x (omega (arith, below))

pub set_elsewhere : {X Y : Type 0} (f : X → Y) (xs : List X) (at : ℕ) (x : X) (k : ℕ) → k ≢ at → slice_get (map f (slice_set xs at x)) k ≡ slice_get (map f xs) k
set_elsewhere f [] at x k apart = refl
set_elsewhere f (y ∷ ys) zero x zero apart = absurd (apart refl)
set_elsewhere f (y ∷ ys) zero x (suc k) apart = refl
set_elsewhere f (y ∷ ys) (suc at) x zero apart = refl
set_elsewhere f (y ∷ ys) (suc at) x (suc k) apart = set_elsewhere f ys at x k (λ e. apart (ap suc e))
