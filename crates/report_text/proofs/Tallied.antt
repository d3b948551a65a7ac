-- One answer more in a tally.
use Rattle.std.proofs.Common.{◌≡◌, ℕ, ◌+◌, ◌≤◌, ◌<◌, Bool, true, false, List, length, take, get_or, refl, ap}
use Rattle.std.specs.List.{count_by}
use Rattle.std.proofs.lemmas.List.{take_all}
use Rattle.std.proofs.lemmas.List.Sums.{count_by_more_no, count_by_more_yes}
use Rattle.rows.specs.Apply.{Reply, Stored, Replaced, Value, Missing, Erased, Keys}
use Rattle.cache_model.specs.Summary.{Tally, is_erased, is_keys, is_missing, is_replaced, is_stored, is_value, tally}
use Rattle.report_text.specs.inside.Tallies.{with_answer}

abbrev make : ℕ → ℕ → ℕ → ℕ → ℕ → ℕ → Tally
make a b c d e f = record { stored = a; replaced = b; values = c; missing = d; erased = e; scans = f }

same : {a b c d e f a' b' c' d' e' f' : ℕ} → a ≡ a' → b ≡ b' → c ≡ c' → d ≡ d' → e ≡ e' → f ≡ f' → make a b c d e f ≡ make a' b' c' d' e' f'
same p q r s t u = cc

-- the test of the answer at an index
yes : (p : Reply → Bool) (answers : List (ℕ × Reply)) (i : ℕ) (d : ℕ × Reply) → i < length answers → p (get_or answers i d).1 ≡ true
    → count_by (λ answer. p answer.1) (take (i + 1) answers) ≡ count_by (λ answer. p answer.1) (take i answers) + 1
yes p answers i d below is = count_by_more_yes (λ (answer : ℕ × Reply). p answer.1) answers i d below is

no : (p : Reply → Bool) (answers : List (ℕ × Reply)) (i : ℕ) (d : ℕ × Reply) → i < length answers → p (get_or answers i d).1 ≡ false
    → count_by (λ answer. p answer.1) (take (i + 1) answers) ≡ count_by (λ answer. p answer.1) (take i answers)
no p answers i d below is = count_by_more_no (λ (answer : ℕ × Reply). p answer.1) answers i d below is

counted : (reply : Reply) (answers : List (ℕ × Reply)) (i : ℕ) (d : ℕ × Reply) → i < length answers → (get_or answers i d).1 ≡ reply
    → tally (take (i + 1) answers) ≡ with_answer reply (tally (take i answers))
counted Stored answers i d below is =
    same (yes is_stored answers i d below (ap is_stored is)) (no is_replaced answers i d below (ap is_replaced is)) (no is_value answers i d below (ap is_value is))
    (no is_missing answers i d below (ap is_missing is)) (no is_erased answers i d below (ap is_erased is)) (no is_keys answers i d below (ap is_keys is))
counted Replaced answers i d below is =
    same (no is_stored answers i d below (ap is_stored is)) (yes is_replaced answers i d below (ap is_replaced is)) (no is_value answers i d below (ap is_value is))
    (no is_missing answers i d below (ap is_missing is)) (no is_erased answers i d below (ap is_erased is)) (no is_keys answers i d below (ap is_keys is))
counted (Value value) answers i d below is =
    same (no is_stored answers i d below (ap is_stored is)) (no is_replaced answers i d below (ap is_replaced is)) (yes is_value answers i d below (ap is_value is))
    (no is_missing answers i d below (ap is_missing is)) (no is_erased answers i d below (ap is_erased is)) (no is_keys answers i d below (ap is_keys is))
counted Missing answers i d below is =
    same (no is_stored answers i d below (ap is_stored is)) (no is_replaced answers i d below (ap is_replaced is)) (no is_value answers i d below (ap is_value is))
    (yes is_missing answers i d below (ap is_missing is)) (no is_erased answers i d below (ap is_erased is)) (no is_keys answers i d below (ap is_keys is))
counted Erased answers i d below is =
    same (no is_stored answers i d below (ap is_stored is)) (no is_replaced answers i d below (ap is_replaced is)) (no is_value answers i d below (ap is_value is))
    (no is_missing answers i d below (ap is_missing is)) (yes is_erased answers i d below (ap is_erased is)) (no is_keys answers i d below (ap is_keys is))
counted (Keys keys) answers i d below is =
    same (no is_stored answers i d below (ap is_stored is)) (no is_replaced answers i d below (ap is_replaced is)) (no is_value answers i d below (ap is_value is))
    (no is_missing answers i d below (ap is_missing is)) (no is_erased answers i d below (ap is_erased is)) (yes is_keys answers i d below (ap is_keys is))

pub tally_next : (answers : List (ℕ × Reply)) (i : ℕ) (d : ℕ × Reply) → i < length answers → tally (take (i + 1) answers) ≡ with_answer (get_or answers i d).1 (tally (take i answers))
tally_next answers i d below = counted (get_or answers i d).1 answers i d below refl

pub tally_all : (answers : List (ℕ × Reply)) (i : ℕ) → length answers ≤ i → tally (take i answers) ≡ tally answers
tally_all answers i past = ap tally (take_all i answers past)
