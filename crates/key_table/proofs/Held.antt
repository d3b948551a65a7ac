-- What slots hold, after one is written.
use Rattle.std.proofs.Common.{◌≡◌, ◌≢◌, ℕ, zero, suc, ◌+◌, ◌<◌, inl, inr, Bool, true, false, cond, List, [], ◌∷◌, length, set, refl, sym, ap, subst, ◌∙◌, arith}
use Rattle.std.specs.Prelude.{◌==◌, if◌then◌else◌}
use Rattle.std.specs.List.{sum_by}
use Rattle.std.proofs.lemmas.Bool.{cases_eq}
use Rattle.std.proofs.lemmas.Bool.Decides.{nat_tests}
use Rattle.std.proofs.lemmas.List.{get_or-set_same, get_or-set_other}
use Rattle.std.proofs.lemmas.List.Sums.{sum_by-cons, sum_by-set}
use Rattle.common_lemmas.specs.Lists.{times}
use Rattle.key_table.specs.declared.entries.RowAt.{RowAt}
use Rattle.key_table.specs.Table.{rows_of, AreSame}
use Rattle.key_table.specs.inside.Slots.{nothing, slot_at, holds, held, IsHeld, Within}

abbrev pub weight : ℕ → RowAt → ℕ
weight n slot = cond (holds slot) (if slot.row == n then 1 else 0) 0

pub weight_none : (n : ℕ) (slot : RowAt) → slot.row ≡ 4294967295 → weight n slot ≡ 0
weight_none n slot h = grind (arith, nat_tests)

pub holds_some : (slot : RowAt) → slot.row ≢ 4294967295 → holds slot ≡ true
holds_some slot h = grind (arith, nat_tests)

pub weight_some : (n : ℕ) (slot : RowAt) → slot.row ≢ 4294967295 → weight n slot ≡ (if slot.row == n then 1 else 0)
weight_some n slot h = ap (λ b. cond b (if slot.row == n then 1 else 0) 0) (holds_some slot h)

pub times_held : (n : ℕ) (slots : List RowAt) → times n (rows_of (held slots)) ≡ sum_by (weight n) slots
times_held n [] = refl
times_held n (slot ∷ slots) = go (holds slot) ∙ ap (λ k. weight n slot + k) (times_held n slots) ∙ sym (sum_by-cons (weight n) slot slots)
  where
    go : (b : Bool) → times n (rows_of (cond b (slot ∷ held slots) (held slots))) ≡ cond b (if slot.row == n then 1 else 0) 0 + times n (rows_of (held slots))
    go true = refl
    go false = omega arith

pub times_set : (n : ℕ) (slots : List RowAt) (i : ℕ) (slot : RowAt) → i < length slots → times n (rows_of (held (set slots i slot))) + weight n (slot_at slots i) ≡ times n (rows_of (held slots)) + weight n slot
times_set n slots i slot h =
    let before = times_held n slots in
    let after = times_held n (set slots i slot) in
    let sums = sum_by-set (weight n) slots i slot nothing h in
    omega (arith, before, after, sums)

pub rows_put : (slots : List RowAt) (i : ℕ) (slot : RowAt) → i < length slots → (slot_at slots i).row ≡ 4294967295 → slot.row ≢ 4294967295 → AreSame (slot.row ∷ rows_of (held slots)) (rows_of (held (set slots i slot)))
rows_put slots i slot inside vacant some n =
    let sets = times_set n slots i slot inside in
    let none = weight_none n (slot_at slots i) vacant in
    let one = weight_some n slot some in
    omega (arith, sets, none, one)

pub within_set : (slots : List RowAt) (i : ℕ) (slot : RowAt) → i < length slots → Within (slot ∷ slots) (set slots i slot)
within_set slots i slot inside k is =
    elim (cases_eq k i) [
      | inl e ↦ (zero, sym (ap (slot_at (set slots i slot)) e ∙ get_or-set_same slots i slot nothing inside))
      | inr n ↦ (suc k, sym (get_or-set_other slots i k slot nothing n))
    ]

pub held_inside : (slots : List RowAt) (k : ℕ) → IsHeld slots k → k < length slots
held_inside [] zero is = absurd (is refl)
held_inside [] (suc k) is = absurd (is refl)
held_inside (slot ∷ slots) zero is = omega arith
held_inside (slot ∷ slots) (suc k) is = let more = held_inside slots k is in omega (arith, more)

-- a row is held twice, the one that is to go is not counted, and the hole moves on
pub rows_move : (slots old : List RowAt) (hole next n gone : ℕ) (slot : RowAt) → hole < next → slot ≡ slot_at slots next → IsHeld slots hole → IsHeld slots next
    → times n ((slot_at slots hole).row ∷ rows_of (held old)) ≡ times n (gone ∷ rows_of (held slots))
    → times n ((slot_at (set slots hole slot) next).row ∷ rows_of (held old)) ≡ times n (gone ∷ rows_of (held (set slots hole slot)))
rows_move slots old hole next n gone slot apart is here there before =
    let sets = times_set n slots hole slot (held_inside slots hole here) in
    let first = weight_some n (slot_at slots hole) here in
    let second = weight_some n (slot_at slots next) there in
    let same : weight n slot ≡ weight n (slot_at slots next) = ap (weight n) is in
    let stays : slot_at (set slots hole slot) next ≡ slot_at slots next = get_or-set_other slots hole next slot nothing (λ e. omega (arith, e, apart)) in
    subst (λ (s : RowAt). times n (s.row ∷ rows_of (held old)) ≡ times n (gone ∷ rows_of (held (set slots hole slot)))) (sym stays) (omega (arith, sets, first, second, same, before))

-- the hole is emptied
pub rows_end : (slots old : List RowAt) (hole n gone : ℕ) → hole < length slots → IsHeld slots hole
    → times n ((slot_at slots hole).row ∷ rows_of (held old)) ≡ times n (gone ∷ rows_of (held slots))
    → times n (rows_of (held old)) ≡ times n (gone ∷ rows_of (held (set slots hole nothing)))
rows_end slots old hole n gone inside here before =
    let sets = times_set n slots hole nothing inside in
    let first = weight_some n (slot_at slots hole) here in
    let none = weight_none n nothing refl in
    omega (arith, sets, first, none, before)

pub within_move : (slots old : List RowAt) (hole next : ℕ) → hole < length slots → IsHeld slots next → Within old slots → Within old (set slots hole (slot_at slots next))
within_move slots old hole next inside there is k held' =
    elim (cases_eq k hole) [
      | inl e ↦ (let from = is next there in (from.0, from.1 ∙ sym (ap (slot_at (set slots hole (slot_at slots next))) e ∙ get_or-set_same slots hole (slot_at slots next) nothing inside)))
      | inr n ↦
          (let same = get_or-set_other slots hole k (slot_at slots next) nothing n in
          let from = is k (subst (λ (s : RowAt). s.row ≢ 4294967295) same held') in
          (from.0, from.1 ∙ sym same))
    ]
