-- Puts by how many older ones there are: their list, and the newest one of a key.
use Rattle.std.proofs.Common.{◌≡◌, ◌≢◌, ℕ, zero, suc, ◌<◌, ◌⊎◌, inl, inr, Bool, true, false, cond, List, [], ◌∷◌, ◌++◌, length, Some, None, refl, ap, ◌∙◌, arith}
use Rattle.std.specs.Bool.{Decides}
use Rattle.rows.specs.Key.{Key, in_table}
use Rattle.rows.specs.Row.{Row}
use Rattle.rows.specs.Apply.{is_of}
use Rattle.row_lemmas.proofs.Keys.{is_same_key-Decides}
use Rattle.dirty_region.specs.Queues.{newest, or_else}
use Rattle.dirty_region.specs.inside.Rings.{listed}

abbrev behind : (ℕ → Row) → ℕ → Row
behind put k = put (suc k)

pub listed_same : (f g : ℕ → Row) (n : ℕ) → ((k : ℕ) → k < n → f k ≡ g k) → listed f n ≡ listed g n
listed_same f g zero h = refl
listed_same f g (suc n) h =
    ap (λ (r : Row). r ∷ listed (behind f) n) (h 0 (omega arith))
    ∙ ap (λ (rs : List Row). g 0 ∷ rs) (listed_same (behind f) (behind g) n (λ k low. h (suc k) (omega (arith, low))))

pub listed_grown : (f : ℕ → Row) (n : ℕ) → listed f (suc n) ≡ listed f n ++ f n ∷ []
listed_grown f zero = refl
listed_grown f (suc n) = ap (λ (rs : List Row). f 0 ∷ rs) (listed_grown (behind f) n)

pub length-listed : (f : ℕ → Row) (n : ℕ) → length (listed f n) ≡ n
length-listed f zero = refl
length-listed f (suc n) = let rest = length-listed (behind f) n in omega (arith, rest)

-- ---- the newest put of a key

tells : (b : Bool) (P : Type 0) → Decides b P → ((b ≡ true) × P) ⊎ ((b ≡ false) × (¬ P))
tells true P d = inl (refl, d.0 refl)
tells false P d = inr (refl, λ p. (let e : false ≡ true = d.1 p in cc))

pub of_key : (key : Key) (r : Row) → ((is_of key r ≡ true) × (r.key ≡ key)) ⊎ ((is_of key r ≡ false) × (r.key ≢ key))
of_key key r = tells (is_of key r) (r.key ≡ key) (is_same_key-Decides r.key key)

pub none_newest : (f : ℕ → Row) (n : ℕ) (key : List ℕ) → ((k : ℕ) → k < n → (f k).key ≢ in_table 0 key) → newest key (listed f n) ≡ None
none_newest f zero key none = refl
none_newest f (suc n) key none =
    let tail = none_newest (behind f) n key (λ k low. none (suc k) (omega (arith, low))) in
    ap (λ o. or_else o (cond (is_of (in_table 0 key) (f 0)) (Some (f 0).value) None)) tail
    ∙ (elim (of_key (in_table 0 key) (f 0)) [ inl h ↦ absurd (none 0 (omega arith) h.1) | inr h ↦ ap (λ b. cond b (Some (f 0).value) None) h.0 ])

pub one_newest : (f : ℕ → Row) (n : ℕ) (key : List ℕ) (k : ℕ) → k < n → (f k).key ≡ in_table 0 key → ((j : ℕ) → k < j → j < n → (f j).key ≢ in_table 0 key) → newest key (listed f n) ≡ Some (f k).value
one_newest f zero key k low is last = absurd (omega (arith, low))
one_newest f (suc n) key zero low is last =
    let tail = none_newest (behind f) n key (λ k below. last (suc k) (omega arith) (omega (arith, below))) in
    ap (λ o. or_else o (cond (is_of (in_table 0 key) (f 0)) (Some (f 0).value) None)) tail
    ∙ (elim (of_key (in_table 0 key) (f 0)) [ inl h ↦ ap (λ b. cond b (Some (f 0).value) None) h.0 | inr h ↦ absurd (h.1 is) ])
one_newest f (suc n) key (suc k) low is last =
    ap (λ o. or_else o (cond (is_of (in_table 0 key) (f 0)) (Some (f 0).value) None))
    (one_newest (behind f) n key k (omega (arith, low)) is (λ j above below. last (suc j) (omega (arith, above)) (omega (arith, below))))
