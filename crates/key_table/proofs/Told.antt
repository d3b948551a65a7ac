-- What holds of slots, and of the rows that they hold.
use Rattle.std.proofs.Common.{◌≡◌, ◌≢◌, ℕ, zero, suc, ◌≤◌, inl, inr, false, List, [], ◌∷◌, cond, refl, sym, ap, subst, arith}
use Rattle.std.specs.Prelude.{All, Contains}
use Rattle.std.proofs.lemmas.Bool.{cases_eq}
use Rattle.std.proofs.lemmas.Bool.Decides.{nat_tests}
use Rattle.std.proofs.lemmas.List.Elements.{All-nil, All-cons, All-head, All-tail, All-contains, All-contains_itself}
use Rattle.common_lemmas.specs.Lists.{times}
use Rattle.common_lemmas.proofs.Counts.{all_numbered, times_there}
use Rattle.rows.specs.Key.{Key}
use Rattle.key_table.specs.declared.entries.RowAt.{RowAt}
use Rattle.key_table.specs.Hash.{tag_of}
use Rattle.key_table.specs.Table.{rows_of}
use Rattle.key_table.specs.inside.Slots.{slot_at, holds, held, IsHeld, AreTagged, Within}
use Rattle.key_table.proofs.Held.{holds_some}

holds_none : (slot : RowAt) → slot.row ≡ 4294967295 → holds slot ≡ false
holds_none slot h = grind (arith, nat_tests)

held_some : (slot : RowAt) (slots : List RowAt) → slot.row ≢ 4294967295 → held (slot ∷ slots) ≡ slot ∷ held slots
held_some slot slots h = ap (λ b. cond b (slot ∷ held slots) (held slots)) (holds_some slot h)

held_none : (slot : RowAt) (slots : List RowAt) → slot.row ≡ 4294967295 → held (slot ∷ slots) ≡ held slots
held_none slot slots h = ap (λ b. cond b (slot ∷ held slots) (held slots)) (holds_none slot h)

pub all_held : (P : RowAt → Type 0) (slots : List RowAt) → ((k : ℕ) → IsHeld slots k → P (slot_at slots k)) → All P (held slots)
all_held P [] is = All-nil P
all_held P (slot ∷ slots) is =
    let rest = all_held P slots (λ k. is (suc k)) in
    elim (cases_eq slot.row 4294967295) [
      | inl e ↦ subst (All P) (sym (held_none slot slots e)) rest
      | inr n ↦ subst (All P) (sym (held_some slot slots n)) (All-cons P slot (held slots) (is zero n) rest)
    ]

pub held_all : (P : RowAt → Type 0) (slots : List RowAt) → All P (held slots) → (k : ℕ) → IsHeld slots k → P (slot_at slots k)
held_all P [] all zero is = absurd (is refl)
held_all P [] all (suc k) is = absurd (is refl)
held_all P (slot ∷ slots) all zero is = All-head P slot (held slots) (subst (All P) (held_some slot slots is) all)
held_all P (slot ∷ slots) all (suc k) is =
    elim (cases_eq slot.row 4294967295) [
      | inl e ↦ held_all P slots (subst (All P) (held_none slot slots e) all) k is
      | inr n ↦ held_all P slots (All-tail P slot (held slots) (subst (All P) (held_some slot slots n) all)) k is
    ]

pub contains_held : (slots : List RowAt) (k : ℕ) → IsHeld slots k → Contains (held slots) (slot_at slots k)
contains_held slots = held_all (Contains (held slots)) slots (All-contains_itself (held slots))

pub tagged_within : (key_of : ℕ → Key) (xs ys : List RowAt) → Within xs ys → AreTagged key_of xs → AreTagged key_of ys
tagged_within key_of xs ys within is k h =
    let from = within k h in
    subst (λ (s : RowAt). s.tag ≡ tag_of (key_of s.row)) from.1 (is from.0 (subst (λ (s : RowAt). s.row ≢ 4294967295) (sym from.1) h))

pub tagged_more : (key_of : ℕ → Key) (slot : RowAt) (slots : List RowAt) → slot.tag ≡ tag_of (key_of slot.row) → AreTagged key_of slots → AreTagged key_of (slot ∷ slots)
tagged_more key_of slot slots here is zero h = here
tagged_more key_of slot slots here is (suc k) h = is k h

-- what holds of the rows, by how often each is there
pub all_listed : (P : ℕ → Type 0) (kept : List RowAt) → ((n : ℕ) → 1 ≤ times n (rows_of kept) → P n) → All (λ (s : RowAt). P s.row) kept
all_listed P kept is = all_numbered (λ (s : RowAt). s.row) P kept is

pub listed_all : (P : ℕ → Type 0) (kept : List RowAt) → All (λ (s : RowAt). P s.row) kept → (n : ℕ) → 1 ≤ times n (rows_of kept) → P n
listed_all P [] all n h = absurd (omega arith)
listed_all P (slot ∷ kept) all n h =
    elim (cases_eq slot.row n) [
      | inl e ↦ subst P e (All-head (λ (s : RowAt). P s.row) slot kept all)
      | inr far ↦ listed_all P kept (All-tail (λ (s : RowAt). P s.row) slot kept all) n (subst (λ k. 1 ≤ k) (times_there n slot.row (rows_of kept) far) h)
    ]

pub contains_listed : (kept : List RowAt) (found : RowAt) → Contains kept found → 1 ≤ times found.row (rows_of kept)
contains_listed kept found there = All-contains (λ (s : RowAt). 1 ≤ times s.row (rows_of kept)) kept found (all_listed (λ n. 1 ≤ times n (rows_of kept)) kept (λ n h. h)) there

pub absent_listed : (kept : List RowAt) (n : ℕ) → All (λ (s : RowAt). s.row ≢ n) kept → times n (rows_of kept) ≡ 0
absent_listed kept n none =
    elim (cases_eq (times n (rows_of kept)) 0) [
      | inl e ↦ e
      | inr some ↦ absurd (listed_all (λ m. m ≢ n) kept none n (omega (arith, some)) refl)
    ]
