-- Links of which the first so many lead to places that follow one another, and the others are 0.
use Rattle.std.proofs.Common.{◌≡◌, ℕ, zero, suc, ◌+◌, ◌<◌, List, [], ◌∷◌, ◌++◌, map, length, take, set, replicate, sym, ap, ◌∙◌, arith, length-append, refl}
use Rattle.std.specs.List.{range_with_len}
use Rattle.std.proofs.lemmas.List.{append_assoc, length-replicate, map-append, map-id, set_at, take_at, drop_at}
use Rattle.std.proofs.lemmas.List.FromFn.{length-range_with_len, map-range_with_len_more}
use Rattle.index_lists.specs.inside.Links.{number_of, numbered}
use Rattle.index_lists.proofs.InMemory.{number_list}

abbrev pub begun : ℕ → ℕ → ℕ → List ℕ
begun from count rest = range_with_len from count ++ replicate rest 0

pub length-begun : (from count rest : ℕ) → length (begun from count rest) ≡ count + rest
length-begun from count rest =
    length-append (range_with_len from count) (replicate rest 0) ∙ omega (arith, length-range_with_len from count, length-replicate {A = ℕ} rest 0)

range_more : (from count : ℕ) → range_with_len from (count + 1) ≡ range_with_len from count ++ (from + count) ∷ []
range_more from count =
    sym (map-id _) ∙ map-range_with_len_more (λ k. k) from count (from + count) refl ∙ ap (λ l. l ++ (from + count) ∷ []) (map-id _)

pub one_more : (from count rest : ℕ) → set (begun from count (suc rest)) count (from + count) ≡ begun from (count + 1) rest
one_more from count rest =
    set_at (range_with_len from count) 0 (replicate rest 0) (from + count) count (length-range_with_len from count)
    ∙ sym (append_assoc (range_with_len from count) ((from + count) ∷ []) (replicate rest 0))
    ∙ ap (λ l. l ++ replicate rest 0) (sym (range_more from count))

shifted : (f : ℕ → ℕ) (a b count : ℕ) → ((i : ℕ) → i < count → f (a + i) ≡ b + i) → map f (range_with_len a count) ≡ range_with_len b count
shifted f a b zero at = refl
shifted f a b (suc count) at =
    let first : f a ≡ b = (let here : a ≡ a + 0 = omega arith in let there : b + 0 ≡ b = omega arith in ap f here ∙ at 0 (omega arith) ∙ there) in
    ap (λ x. x ∷ map f (range_with_len (a + 1) count)) first
    ∙ ap (λ l. b ∷ l) (shifted f (a + 1) (b + 1) count (λ i l. (let here : a + 1 + i ≡ a + (i + 1) = omega arith in let there : b + (i + 1) ≡ b + 1 + i = omega arith in ap f here ∙ at (i + 1) (omega arith) ∙ there)))

all_alike : (f : ℕ → ℕ) (count x : ℕ) → map f (replicate count x) ≡ replicate count (f x)
all_alike f zero x = refl
all_alike f (suc count) x = ap (λ l. f x ∷ l) (all_alike f count x)

pub all_begun : (count rest : ℕ) → numbered count rest (begun 0 count rest) ≡ replicate rest (number_of count rest 0) ++ range_with_len rest count
all_begun count rest =
    let long = length-range_with_len 0 count in
    ap (map (number_of count rest))
    (ap (λ l. l ++ take count (begun 0 count rest)) (drop_at (range_with_len 0 count) (replicate rest 0) count long)
    ∙ ap (λ l. replicate rest 0 ++ l) (take_at (range_with_len 0 count) (replicate rest 0) count long))
    ∙ map-append (number_of count rest) (replicate rest 0) (range_with_len 0 count)
    ∙ ap (λ l. l ++ map (number_of count rest) (range_with_len 0 count)) (all_alike (number_of count rest) rest 0)
    ∙ ap (λ l. replicate rest (number_of count rest 0) ++ l) (shifted (number_of count rest) 0 rest count (λ i low. (let here : 0 + i ≡ i = omega arith in ap (number_of count rest) here ∙ number_list count rest i low)))
