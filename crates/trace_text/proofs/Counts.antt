-- The count of a scan: what its digits say is the one number that it can spell.
use Rattle.std.proofs.Common.{◌≡◌, ◌≢◌, ◌⊎◌, ℕ, zero, suc, ◌+◌, ◌/◌, ◌<◌, ◌≤◌, Bool, true, false, cond, ◌&&◌, ltb, leb, List, Option, Some, None, arith, refl, sym, ap, ◌∙◌, inl, inr}
use Rattle.std.specs.Prelude.{decimal}
use Rattle.std.specs.List.{range_with_len, find}
use Rattle.std.specs.Str.{bytes_eq}
use Rattle.std.proofs.lemmas.Bool.{cases_lt}
use Rattle.std.proofs.lemmas.Bool.Decides.{nat_tests}
use Rattle.std.proofs.lemmas.Fmt.{decimal_digit, decimal_step}
use Rattle.std.proofs.lemmas.Slice.Eq.{bytes_eq-Decides}
use Rattle.layout.specs.Sizes.{most_keys}
use Rattle.trace_text.specs.inside.Found.{digits_in}
use Rattle.trace_text.specs.Line.{count_of}

abbrev pub within : ℕ → ℕ → ℕ → Bool
within a k n = leb a n && ltb n (a + k)

range_none : (a n : ℕ) → within a 0 n ≡ false
range_none a n = grind (arith, nat_tests)

range_step : (a n k : ℕ) → n ≢ a → within (a + 1) k n ≡ within a (suc k) n
range_step a n k other = grind (arith, nat_tests)

range_first : (a k : ℕ) → within a (suc k) a ≡ true
range_first a k = grind (arith, nat_tests)

none_both : (b c : Bool) (n : ℕ) → cond {A = Option ℕ} (b && false) (Some n) None ≡ cond (c && false) (Some n) None
none_both true true n = refl
none_both true false n = refl
none_both false true n = refl
none_both false false n = refl

cases_eq : (n a : ℕ) → (n ≡ a) ⊎ (n ≢ a)
cases_eq n a = grind arith

range_where : (p : ℕ → Bool) (n a k : ℕ) (b : Bool) → p a ≡ b → (b ≡ true → a ≡ n)
    → find p (range_with_len (a + 1) k) ≡ cond (within (a + 1) k n && p n) (Some n) None
    → cond b (Some a) (find p (range_with_len (a + 1) k)) ≡ cond (within a (suc k) n && p n) (Some n) None
range_where p n a k true e only later = let here : a ≡ n = only refl in rw (← here, range_first a k, e) refl
range_where p n a k false e only later = later ∙ elim (cases_eq n a) [
  | inl here ↦ rw (here, e) (none_both (within (a + 1) k a) (within a (suc k) a) a)
  | inr other ↦ ap (λ b. cond (b && p n) (Some n) None) (range_step a n k other)
]

-- the first of a range that passes, where only n can
pub find_range : (p : ℕ → Bool) (n a k : ℕ) → ((m : ℕ) → a ≤ m → m < a + k → p m ≡ true → m ≡ n)
    → find p (range_with_len a k) ≡ cond (within a k n && p n) (Some n) None
find_range p n a zero only = rw (range_none a n) refl
find_range p n a (suc k) only =
    range_where p n a k (p a) refl (only a (omega arith) (omega arith)) (find_range p n (a + 1) k (λ m low high. only m (omega arith) (omega arith)))

-- the digits of a number below 100 say it
pub digits_of : (m : ℕ) → m < 100 → digits_in (decimal m) ≡ m
digits_of m small = elim (cases_lt m 10) [
  | inl one ↦ rw (decimal_digit m one) (omega arith)
  | inr two ↦ rw (decimal_step m two (omega arith), decimal_digit (m / 10) (omega arith)) (omega arith)
]

count_found : (field : List ℕ) → count_of field ≡ cond (within 1 most_keys (digits_in field) && bytes_eq (decimal (digits_in field)) field) (Some (digits_in field)) None
count_found field = find_range (λ n. bytes_eq (decimal n) field) (digits_in field) 1 most_keys
    (λ m low high e. sym (digits_of m (omega arith)) ∙ ap digits_in ((bytes_eq-Decides (decimal m) field).0 e))

at_most : (n : ℕ) → within 1 most_keys n ≡ (leb 1 n && leb n most_keys)
at_most n = grind (arith, nat_tests)

pub count_is : (field : List ℕ) (n : ℕ) (b : Bool) → n ≡ digits_in field → b ≡ (leb 1 n && leb n most_keys && bytes_eq (decimal n) field)
    → cond b (Some n) None ≡ count_of field
count_is field n b e tested = rw (tested, e, ← at_most (digits_in field)) (sym (count_found field))
