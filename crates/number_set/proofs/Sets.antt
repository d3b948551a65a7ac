-- A set of numbers as the bits of words.
use Rattle.std.proofs.Common.{◌≡◌, ◌≢◌, ℕ, suc, ◌+◌, ◌*◌, ◌/◌, ◌<◌, ◌≤◌, inl, inr, Bool, true, false, cond, List, [], ◌∷◌, length}
use Rattle.std.proofs.Common.{replicate, get_or, set, refl, sym, ap, ◌∙◌, subst, arith, ext_get_or, length-set, get_or-set_same, get_or-set_other, Option, Some, None, IsNone, ◌↔◌}
use Rattle.std.proofs.lemmas.Bool.{cases_eq, cases_lt}
use Rattle.std.proofs.lemmas.List.{get_or_past, set-get_or, get_or-replicate, length-replicate}
use Rattle.std.proofs.lemmas.List.FromFn.{length-map-range_with_len, get_or-map-range_with_len}
use Rattle.std.proofs.lemmas.List.Sums.{sum_by-set, sum_by-cons, count_by-le-length}
use Rattle.number_set.specs.Numbers.{has, size}
use Rattle.number_set.specs.inside.Words.{bit_of, bits_below, IsConsistent}
use Rattle.number_set.proofs.WordBits.{zero-word, bit-past}

pub length-bits : (bound : ℕ) (words : List ℕ) → length (bits_below bound words) ≡ bound
unfolding bits_below
length-bits bound words = length-map-range_with_len (bit_of words) 0 bound

get-bits : (bound : ℕ) (words : List ℕ) (k : ℕ) → k < bound → get_or (bits_below bound words) k false ≡ bit_of words k
unfolding bits_below
get-bits bound words k low = get_or-map-range_with_len (bit_of words) 0 bound k k false low (omega arith)

-- ---- how many are in a set

abbrev pub one-if : Bool → ℕ
one-if b = cond b 1 0

pub size-none : (xs : List Bool) → ((m : ℕ) → has xs m ≡ false) → size xs ≡ 0
size-none [] none = refl
size-none (x ∷ xs) none =
    let first : x ≡ false = none 0 in
    let rest = size-none xs (λ m. none (suc m)) in
    let more : size (x ∷ xs) ≡ one-if x + size xs = sum_by-cons one-if x xs in
    let here : one-if x ≡ 0 = ap one-if first in omega (arith, more, here, rest)

pub size-all : (xs : List Bool) → ((m : ℕ) → m < length xs → has xs m ≡ true) → size xs ≡ length xs
size-all [] all = refl
size-all (x ∷ xs) all =
    let first : x ≡ true = all 0 (omega arith) in
    let rest = size-all xs (λ m low. all (suc m) (omega (arith, low))) in
    let more : size (x ∷ xs) ≡ one-if x + size xs = sum_by-cons one-if x xs in
    let here : one-if x ≡ 1 = ap one-if first in omega (arith, more, here, rest)

has-within : (xs : List Bool) (n : ℕ) → has xs n ≡ true → n < length xs
has-within xs n e = elim (cases_lt n (length xs)) [ inl low ↦ low | inr past ↦ absurd (let clash : false ≡ true = sym (get_or_past xs n false past) ∙ e in cc) ]

-- the count with another flag at a number
pub size-set : (xs : List Bool) (n : ℕ) (b : Bool) → n < length xs → size (set xs n b) + one-if (has xs n) ≡ size xs + one-if b
size-set xs n b low = sum_by-set (λ (x : Bool). cond x 1 0) xs n b false low

pub size-some : (xs : List Bool) (n : ℕ) → has xs n ≡ true → 1 ≤ size xs
size-some xs n e =
    let sums = size-set xs n false (has-within xs n e) in
    let one : one-if (has xs n) ≡ 1 = ap one-if e in omega (arith, sums, one)

pub size-lacks : (xs : List Bool) (n : ℕ) → n < length xs → has xs n ≡ false → size xs < length xs
size-lacks xs n low e =
    let sums = size-set xs n true low in
    let none : one-if (has xs n) ≡ 0 = ap one-if e in
    let most = count_by-le-length (λ (b : Bool). b) (set xs n true) in
    let long = length-set xs n true in omega (arith, sums, none, most, long)

pub set-same : (xs : List Bool) (n : ℕ) (b : Bool) → has xs n ≡ b → xs ≡ set xs n b
set-same xs n b e = sym (set-get_or xs n false) ∙ ap (set xs n) e

module _ (bound count : ℕ) (words : List ℕ) (c : IsConsistent bound count words) where
  pub has-bits : (k : ℕ) → has (bits_below bound words) k ≡ bit_of words k
  has-bits k =
      elim (cases_lt k bound) [
        | inl low ↦ get-bits bound words k low
        | inr past ↦ get_or_past (bits_below bound words) k false (omega (arith, length-bits bound words, past)) ∙ sym (c.above k past)
      ]

  pub within-words : (n : ℕ) → n < bound → n < 64 * length words
  within-words n low = let l = c.long in omega (arith, low, l)

  -- what is in the set is below the bound
  pub bit-within : (n : ℕ) → bit_of words n ≡ true → n < bound
  bit-within n e = elim (cases_lt n bound) [ inl low ↦ low | inr past ↦ absurd (let clash : false ≡ true = sym (c.above n past) ∙ e in cc) ]

  module _ (words' : List ℕ) (n : ℕ) (b : Bool) (low : n < bound) (long : length words' ≡ length words) (here : bit_of words' n ≡ b)
      (others : (m : ℕ) → m ≢ n → bit_of words' m ≡ bit_of words m) where
    -- one bit more or less is one number more or less
    pub bits-set : bits_below bound words' ≡ set (bits_below bound words) n b
    bits-set =
        ext_get_or false (bits_below bound words') (set (bits_below bound words) n b)
        (length-bits bound words' ∙ sym (length-bits bound words) ∙ sym (length-set (bits_below bound words) n b))
        (λ k inside.
        let k-low : k < bound = omega (arith, inside, length-bits bound words') in
        get-bits bound words' k k-low
        ∙ elim (cases_eq k n) as (λ _. bit_of words' k ≡ get_or (set (bits_below bound words) n b) k false) [
          | inl same ↦
              subst (λ m. bit_of words' m ≡ get_or (set (bits_below bound words) n b) m false) (sym same)
              (here ∙ sym (get_or-set_same (bits_below bound words) n b false (omega (arith, low, length-bits bound words))))
          | inr far ↦ others k far ∙ sym (get_or-set_other (bits_below bound words) n k b false far ∙ get-bits bound words k k-low)
        ])

    pub count-set : size (bits_below bound words') + one-if (bit_of words n) ≡ count + one-if b
    count-set =
        let sums = size-set (bits_below bound words) n b (omega (arith, low, length-bits bound words)) in
        let same : size (bits_below bound words') ≡ size (set (bits_below bound words) n b) = ap size bits-set in
        let was : one-if (has (bits_below bound words) n) ≡ one-if (bit_of words n) = ap one-if (has-bits n) in
        let counted = c.counted in omega (arith, sums, same, was, counted)

    pub consistent : (count' : ℕ) → count' ≡ size (bits_below bound words') → IsConsistent bound count' words'
    consistent count' counted = record {
      long = long ∙ c.long;
      few = c.few;
      above = λ m past. others m (λ same. omega (arith, same, past, low)) ∙ c.above m past;
      counted = counted;
    }

-- what a set tells of its bits
module _ (bound count : ℕ) (words : List ℕ) (c : IsConsistent bound count words) (s : List Bool) (is : bits_below bound words ≡ s) where
  pub long : length s ≡ bound
  long = ap length (sym is) ∙ length-bits bound words

  pub has-is : (k : ℕ) → has s k ≡ bit_of words k
  has-is k = ap (λ x. has x k) (sym is) ∙ has-bits bound count words c k

  pub low-bit : (n : ℕ) → n < length s → n < 64 * length words
  low-bit n low = within-words bound count words c n (omega (arith, low, long))

  pub all-if : ((n : ℕ) → n < bound → bit_of words n ≡ true) → size s ≡ length s
  all-if all = size-all s (λ k low. has-is k ∙ all k (omega (arith, low, long)))

  pub lacks-if : (n : ℕ) → n < bound → bit_of words n ≡ false → size s < length s
  lacks-if n low e = size-lacks s n (omega (arith, low, long)) (has-is n ∙ e)

  pub has-some : (n : ℕ) → bit_of words n ≡ true → 1 ≤ size s
  has-some n e = size-some s n (has-is n ∙ e)

  -- what a look through the words finds, or does not
  module _ (now : List ℕ) (same : now ≡ words) where
    now-is : (k : ℕ) → has s k ≡ bit_of now k
    now-is k = has-is k ∙ ap (λ w. bit_of w k) (sym same)

    pub missed : (found : Option ℕ) → found ≡ None → ((n : ℕ) → bit_of now n ≡ false) → IsNone found ↔ size s ≡ 0
    missed found e none = (λ _. size-none s (λ k. now-is k ∙ none k), λ _. subst IsNone (sym e) refl)

    pub found : (n x : ℕ) → bit_of now n ≡ true → IsNone (Some x) ↔ size s ≡ 0
    found n x e = (λ clash. absurd (let c : true ≡ false = clash in cc), λ z. absurd (let some = size-some s n (now-is n ∙ e) in omega (arith, some, z)))

    -- the number is in the set, and none beyond it is
    pub at-end : (beyond : ℕ → Type 0) (n : ℕ) → bit_of now n ≡ true → ((m : ℕ) → beyond m → bit_of now m ≡ false) → (has s n ≡ true) × ((m : ℕ) → beyond m → has s m ≡ false)
    at-end beyond n e none = (now-is n ∙ e, λ m far. now-is m ∙ none m far)

pub zero-bits : (n m : ℕ) → bit_of (replicate n 0) m ≡ false
zero-bits n m =
    elim (cases_lt (m / 64) n) [
      | inl low ↦ zero-word (replicate n 0) (m / 64) m (get_or-replicate n (m / 64) 0 0 low) refl
      | inr past ↦ bit-past (replicate n 0) m (omega (arith, past, length-replicate {A = ℕ} n 0))
    ]

-- no bit is set
pub bits-none : (bound n : ℕ) → bits_below bound (replicate n 0) ≡ replicate bound false
bits-none bound n =
    ext_get_or false (bits_below bound (replicate n 0)) (replicate bound false) (length-bits bound (replicate n 0) ∙ sym (length-replicate {A = Bool} bound false))
    (λ k inside. let low : k < bound = omega (arith, inside, length-bits bound (replicate n 0)) in get-bits bound (replicate n 0) k low ∙ zero-bits n k ∙ sym (get_or-replicate bound k false false low))

has-none : (bound m : ℕ) → has (replicate bound false) m ≡ false
has-none bound m =
    elim (cases_lt m bound) [
      | inl low ↦ get_or-replicate bound m false false low
      | inr past ↦ get_or_past (replicate bound false) m false (omega (arith, past, length-replicate {A = Bool} bound false))
    ]

pub none-consistent : (bound n : ℕ) → bound ≤ 4294967295 → n ≡ (bound + 63) / 64 → IsConsistent bound 0 (replicate n 0)
none-consistent bound n few enough = record {
  long = length-replicate {A = ℕ} n 0 ∙ enough;
  few = few;
  above = λ k past. zero-bits n k;
  counted = sym (size-none (bits_below bound (replicate n 0)) (λ m. ap (λ s. has s m) (bits-none bound n) ∙ has-none bound m));
}

pub copied : (bound other count : ℕ) (words others : List ℕ) → IsConsistent other count others → bound ≡ other → words ≡ others → IsConsistent bound count words
copied bound other count words others c same are = subst (λ b. IsConsistent b count words) (sym same) (subst (IsConsistent other count) (sym are) c)
