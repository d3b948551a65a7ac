-- What an option holds.
use Rattle.std.proofs.Common.{◌≡◌, ◌≢◌, ℕ, Option, Some, None, IsSome, refl, sym, ◌∙◌}

-- an option holds one thing
pub some_is : {a b : ℕ} {o : Option ℕ} → o ≡ Some a → o ≡ Some b → a ≡ b
some_is {a} {b} {o} p q = (let e : Some a ≡ Some b = sym p ∙ q in cc)

-- and not both something and nothing
pub some_or_none : {P : Type 0} {a : ℕ} {o : Option ℕ} → o ≡ Some a → o ≡ None → P
some_or_none {P} {a} {o} p q = absurd (let clash : Some a ≡ None = sym p ∙ q in cc)

pub is_some_of : (o : Option ℕ) (v : ℕ) → o ≡ Some v → IsSome o
is_some_of None v e = cc
is_some_of (Some x) v e = refl

-- it holds nothing where what it would hold clashes
pub none_of : (o : Option ℕ) → ((n : ℕ) → o ≢ Some n) → o ≡ None
none_of None h = refl
none_of (Some n) h = absurd (h n refl)

pub same_option : (o p : Option ℕ) → ((n : ℕ) → o ≡ Some n → p ≡ Some n) → ((n : ℕ) → p ≡ Some n → o ≡ Some n) → o ≡ p
same_option None None there back = refl
same_option None (Some n) there back = back n refl
same_option (Some n) p there back = sym (there n refl)
