-- Whether slots have gaps once one more holds a row.
use Rattle.std.proofs.Common.{◌≡◌, ◌≢◌, ℕ, zero, suc, ◌+◌, ◌-◌, ◌<◌, ◌≤◌, inl, inr, Bool, true, false, ◌&&◌, cond, List, [], ◌∷◌, length, take, refl, sym, ap, subst, ◌∙◌, arith}
use Rattle.std.specs.List.{count_by}
use Rattle.std.proofs.lemmas.Bool.{cases_eq, cases_lt}
use Rattle.std.proofs.lemmas.Bool.Decides.{nat_tests}
use Rattle.std.proofs.lemmas.List.Sums.{sum_by-cons, sum_by-take-le, count_by_more_yes, count_by_more_no}
use Rattle.key_table.specs.declared.entries.RowAt.{RowAt}
use Rattle.key_table.specs.declared.entries.Spot.{Spot}
use Rattle.key_table.specs.Table.{home_of, is_near, mask_of, reach, IsCrowdedAt}
use Rattle.key_table.specs.inside.Slots.{nothing, slot_at, holds, held, AreProbed, IsHeld, IsFirstVacant, IsRunStart, IsGapIn, HaveGaps, IsLoose, IsTight}

-- a gap before the run that would be, and one behind it
pub loose_between : (slots : List RowAt) (home at low : ℕ) → HaveGaps slots → IsFirstVacant slots home at → IsRunStart slots home low → IsGapIn slots (at + 1) (low + reach) → IsLoose slots at
loose_between slots home at low gaps first run gap k =
    let old = gaps k in
    elim (cases_eq old.at at) [
      | inr n ↦ (old, n)
      | inl e ↦
          elim (cases_lt k low) [
            | inl before ↦ (
              record { at = low - 1; behind = omega (arith, before); before = omega (arith, run.before, first.behind, e, old.before); vacant = run.start (omega (arith, before)) },
              λ same. omega (arith, same, before, run.before, first.behind),
            )
            | inr behind ↦ (
              record { at = gap.at; behind = omega (arith, gap.behind, e, old.behind); before = omega (arith, gap.before, behind); vacant = gap.vacant },
              λ same. omega (arith, same, gap.behind),
            )
          ]
    ]

-- how many of the held slots pass a test
count_held : (test : RowAt → Bool) (slots : List RowAt) → count_by test (held slots) ≡ count_by (λ slot. holds slot && test slot) slots
count_held test [] = refl
count_held test (slot ∷ slots) =
    go (holds slot) ∙ ap (λ n. cond (holds slot && test slot) 1 0 + n) (count_held test slots)
    ∙ sym (sum_by-cons (λ s. cond (holds s && test s) 1 0) slot slots)
  where
    go : (b : Bool) → count_by test (cond b (slot ∷ held slots) (held slots)) ≡ cond (b && test slot) 1 0 + count_by test (held slots)
    go true = sum_by-cons (λ s. cond (test s) 1 0) slot (held slots)
    go false = omega arith

-- slots in a row that pass a test are counted
counted : (test : RowAt → Bool) (slots : List RowAt) (start n base : ℕ) → start + n ≤ length slots → base ≤ count_by test (take start slots)
    → ((k : ℕ) → start ≤ k → k < start + n → test (slot_at slots k) ≡ true) → base + n ≤ count_by test (take (start + n) slots)
counted test slots start zero base inside before pass =
    let e : start ≡ start + 0 = omega arith in
    subst (λ m. base + 0 ≤ count_by test (take m slots)) e (omega (arith, before))
counted test slots start (suc n) base inside before pass =
    let fewer = counted test slots start n base (omega arith) before (λ k a b. pass k a (omega arith)) in
    let more = count_by_more_yes test slots (start + n) nothing (omega arith) (pass (start + n) (omega arith) (omega arith)) in
    let e : start + n + 1 ≡ start + suc n = omega arith in
    subst (λ m. base + suc n ≤ count_by test (take m slots)) e (omega (arith, fewer, more))

passes : (mask low : ℕ) (slot : RowAt) → slot.row ≢ 4294967295 → low ≤ home_of mask slot.tag → home_of mask slot.tag < low + reach
    → (holds slot && is_near mask low slot) ≡ true
passes mask low slot some from upto = grind (arith, nat_tests)

fails : (mask low : ℕ) (slot : RowAt) → slot.row ≡ 4294967295 → (holds slot && is_near mask low slot) ≡ false
fails mask low slot none = grind (arith, nat_tests)

-- so many slots in a row would hold rows of theirs
pub tight_between : (mask : ℕ) (slots : List RowAt) (home at low : ℕ) → AreProbed mask slots → home + reach ≤ length slots → IsFirstVacant slots home at → IsRunStart slots home low
    → ((k : ℕ) → at + 1 ≤ k → k < low + reach → IsHeld slots k) → IsTight mask slots home
tight_between mask slots home at low probed room first run behind =
    let test : RowAt → Bool = λ slot. holds slot && is_near mask low slot in
    let before : (k : ℕ) → low ≤ k → k < at → IsHeld slots k = λ k a b. elim (cases_lt k home) [
      | inl c ↦ run.between k a c
      | inr c ↦ first.between k c b
    ] in
    let near : at < low + reach = elim (cases_lt at (low + reach)) [
      | inl c ↦ c
      | inr past ↦ (let gap = probed.gaps low in absurd (before gap.at gap.behind (omega (arith, gap.before, past)) gap.vacant))
    ] in
    let pass : (k : ℕ) → low ≤ k → k < low + reach → IsHeld slots k → test (slot_at slots k) ≡ true = λ k a b is.
    let own : low ≤ home_of mask (slot_at slots k).tag = elim (cases_lt (home_of mask (slot_at slots k).tag) low) [
      | inl c ↦ absurd (probed.between k (low - 1) is (omega (arith, c)) (omega (arith, a, c)) (run.start (omega (arith, c))))
      | inr c ↦ c
    ] in
    let upto = probed.behind k is in
    passes mask low (slot_at slots k) is own (omega (arith, upto, b)) in
    let e : low + (at - low) ≡ at = omega (arith, run.before, first.behind) in
    let first_run : 0 + (at - low) ≤ count_by test (take at slots) =
    subst (λ m. 0 + (at - low) ≤ count_by test (take m slots)) e
    (counted test slots low (at - low) 0 (omega (arith, first.inside, e)) (omega arith)
    (λ k a b. pass k a (omega (arith, b, e, near)) (before k a (omega (arith, b, e))))) in
    let front : at - low ≤ count_by test (take at slots) = omega (arith, first_run) in
    let none = count_by_more_no test slots at nothing first.inside (fails mask low (slot_at slots at) first.vacant) in
    let f : at + 1 + (low + reach - (at + 1)) ≡ low + reach = omega (arith, near) in
    let back = counted test slots (at + 1) (low + reach - (at + 1)) (at - low) (omega (arith, f, room, run.before)) (omega (arith, front, none))
    (λ k a b. let h : k < low + reach = omega (arith, b, f) in pass k (omega (arith, a, run.before, first.behind)) h (behind k a h)) in
    let part = sum_by-take-le (λ s. cond (test s) 1 0) slots (at + 1 + (low + reach - (at + 1))) in
    let all = count_held (is_near mask low) slots in
    record {
      low = low;
      before = run.before;
      near = omega (arith, near, first.behind);
      many = omega (arith, back, part, all, near, run.before, first.behind);
    }

-- where the table would have the row
pub crowded_at : (mask times tag room : ℕ) (slots : List RowAt) (spot : Spot) → mask ≡ mask_of times → tag ≡ spot.tag → IsTight mask slots (home_of mask tag)
    → IsCrowdedAt (record { room = room; kept = held slots }) spot
crowded_at mask times tag room slots spot is same tight =
    let at = subst (λ m. IsTight m slots (home_of m spot.tag)) is (subst (λ t. IsTight mask slots (home_of mask t)) same tight) in
    record { doubled = times; from = at.low; before = at.before; near = at.near; many = at.many }

pub mask_low : (times : ℕ) → 1023 ≤ mask_of times
mask_low zero = omega arith
mask_low (suc times) = let low = mask_low times in omega (arith, low)
