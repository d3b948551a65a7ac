-- The peers of a shard that is opened: one for each link, in rising order.
use Rattle.std.proofs.Common.{◌≡◌, ℕ, ◌+◌, ◌<◌, List, [], ◌∷◌, ◌++◌, length, map, take, Some, arith, refl, sym, ap, subst, ◌∙◌, append-nil, append_assoc}
use Rattle.std.specs.List.{All, range_with_len, slice_get, sum_by}
use Rattle.std.proofs.lemmas.List.{get_or-map, length-map, length_push, map_push, nil_from_length, take_all, take_more}
use Rattle.std.proofs.lemmas.List.Elements.{All-append, All-cons, All-nil}
use Rattle.std.proofs.lemmas.List.FromFn.{length-range_with_len}
use Rattle.std.proofs.lemmas.List.Sums.{sum_by-cons}
use Rattle.std.proofs.lemmas.Option.{get_or_from_slice_get, slice_get_within}
use Rattle.part_lemmas.specs.Exchange.{others}
use Rattle.part_lemmas.proofs.OwnParts.WorkLeft.{split-off}

-- one of a list more, whose number is the next one
pub one-more : {X : Type 0} (f : X → ℕ) (numbers : List ℕ) (xs : List X) (x : X) → map f xs ≡ take (length xs) numbers → slice_get numbers (length xs) ≡ Some (f x)
    → map f (xs ++ x ∷ []) ≡ take (length (xs ++ x ∷ [])) numbers
one-more f numbers xs x so_far next =
    map_push f xs x
    ∙ ap (λ front. front ++ f x ∷ []) so_far
    ∙ ap (λ last. take (length xs) numbers ++ last ∷ []) (sym (get_or_from_slice_get numbers (length xs) (f x) (f x) next))
    ∙ sym (take_more numbers (length xs) (f x) (slice_get_within numbers (length xs) (f x) next))
    ∙ ap (λ k. take k numbers) (sym (length_push xs x))

length-ones : (xs : List ℕ) → length xs ≡ sum_by (λ x. 1) xs
length-ones [] = refl
length-ones (x ∷ xs) =
    let first = sum_by-cons {X = ℕ} (λ y. 1) x xs in
    let rest = length-ones xs in
    omega (arith, first, rest)

-- how many others there are
pub so-many-others : (n s : ℕ) → s < n → length (others n s) + 1 ≡ n
so-many-others n s below =
    let split = split-off (λ q. 1) n s below in
    let all = length-ones (range_with_len 0 n) in
    let those = length-ones (others n s) in
    let many = length-range_with_len 0 n in
    omega (arith, split, all, those, many)

-- one link more is over
pub over-more : {X Y : Type 0} (g : X → Y) (xs : List X) (x : X) (before rest links : List Y) → map g xs ++ before ≡ links → before ≡ g x ∷ rest
    → map g (xs ++ x ∷ []) ++ rest ≡ links
over-more g xs x before rest links over next =
    ap (λ front. front ++ rest) (map_push g xs x) ∙ append_assoc (map g xs) (g x ∷ []) rest ∙ ap (λ b. map g xs ++ b) (sym next) ∙ over

-- all are over
pub over-all : {X Y : Type 0} (g : X → Y) (xs : List X) (rest links : List Y) → map g xs ++ rest ≡ links → length rest ≡ 0 → map g xs ≡ links
over-all g xs rest links over none = sym (append-nil (map g xs)) ∙ ap (λ r. map g xs ++ r) (sym (nil_from_length rest none)) ∙ over

-- one for each link is one for each of the others
pub all-others : {X Y : Type 0} (f : X → ℕ) (g : X → Y) (n s : ℕ) (xs : List X) (links : List Y) → s < n → length links + 1 ≡ n → map g xs ≡ links
    → map f xs ≡ take (length xs) (others n s) → map f xs ≡ others n s
all-others f g n s xs links below one_each over numbered =
    let many = so-many-others n s below in
    let so_many = sym (length-map xs g) ∙ ap length over in
    numbered ∙ take_all (length xs) (others n s) (omega (arith, many, so_many, one_each))

pub all-more : {X : Type 0} (P : X → Type 0) (xs : List X) (x : X) → All P xs → P x → All P (xs ++ x ∷ [])
all-more P xs x all here = All-append P xs (x ∷ []) all (All-cons P x [] here (All-nil P))

-- what holds of the links holds of the peers' links
pub all-of : {X Y : Type 0} (P : Y → Type 0) (f : X → Y) (xs : List X) (ys : List Y) → map f xs ≡ ys → All P ys → All (λ x. P (f x)) xs
all-of P f xs ys are all k d below =
    let long = length-map xs f in
    subst P (get_or-map f xs k d (f d) below) (subst (All P) (sym are) all k (f d) (omega (arith, long, below)))
