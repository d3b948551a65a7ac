-- Slots stay probed.
use Rattle.std.proofs.Common.{◌≡◌, ◌≢◌, ℕ, ◌+◌, ◌-◌, ◌<◌, ◌≤◌, inl, inr, List, length, set, sym, ap, subst, ◌∙◌, arith}
use Rattle.std.proofs.lemmas.Bool.{cases_eq, cases_lt}
use Rattle.std.proofs.lemmas.Nat.{and_le_r}
use Rattle.std.proofs.lemmas.List.{length-set, get_or-set_same, get_or-set_other}
use Rattle.key_table.specs.declared.entries.RowAt.{RowAt}
use Rattle.key_table.specs.inside.Slots.{nothing, home_of, slot_at, IsHeld, AreProbed, IsFirstVacant, IsGapIn, IsLoose, CanMove, NoneMoves}
use Rattle.key_table.specs.Table.{reach}

-- a slot that is written, and the others
pub set_here : (slots : List RowAt) (i : ℕ) (slot : RowAt) → i < length slots → slot_at (set slots i slot) i ≡ slot
set_here slots i slot inside = get_or-set_same slots i slot nothing inside

pub set_there : (slots : List RowAt) (i k : ℕ) (slot : RowAt) → k ≢ i → slot_at (set slots i slot) k ≡ slot_at slots k
set_there slots i k slot other = get_or-set_other slots i k slot nothing other

-- an empty slot stays one where another is written
pub gap_kept : (slots : List RowAt) (i from to : ℕ) (slot : RowAt) (gap : IsGapIn slots from to) → gap.at ≢ i → IsGapIn (set slots i slot) from to
gap_kept slots i from to slot gap other = record {
  at = gap.at;
  behind = gap.behind;
  before = gap.before;
  vacant = ap (λ (s : RowAt). s.row) (set_there slots i gap.at slot other) ∙ gap.vacant;
}

-- the first empty slot is in reach
pub near_first : (slots : List RowAt) (home at : ℕ) → IsFirstVacant slots home at → IsGapIn slots home (home + reach) → at < home + reach
near_first slots home at first gap =
    elim (cases_lt gap.at at) [
      | inl low ↦ absurd (first.between gap.at gap.behind low gap.vacant)
      | inr high ↦ (let b = gap.before in omega (arith, b, high))
    ]

-- a row is put into an empty slot
pub probed_put : (mask : ℕ) (slots : List RowAt) (at : ℕ) (slot : RowAt) → AreProbed mask slots → IsFirstVacant slots (home_of mask slot.tag) at → IsLoose slots at → slot.row ≢ 4294967295 → AreProbed mask (set slots at slot)
probed_put mask slots at slot is first loose some =
    let xs = set slots at slot in
    let long = length-set slots at slot in
    let here = set_here slots at slot first.inside in
    let near = near_first slots (home_of mask slot.tag) at first (is.gaps (home_of mask slot.tag)) in
    let low = and_le_r slot.tag mask in
    let held_still : (k : ℕ) → IsHeld slots k → IsHeld xs k =
    λ k h. elim (cases_eq k at) [
      | inl e ↦ absurd (h (ap (λ j. (slot_at slots j).row) e ∙ first.vacant))
      | inr n ↦ subst (λ (s : RowAt). s.row ≢ 4294967295) (sym (set_there slots at k slot n)) h
    ] in
    record {
      some = omega (arith, is.some, long);
      gaps = λ k. gap_kept slots at k (k + reach) slot (loose k).0 (loose k).1;
      last = ap (λ n. (slot_at xs (n - 1)).row) long ∙ (ap (λ (s : RowAt). s.row) (set_there slots at (length slots - 1) slot (λ e. omega (arith, e, near, low, is.some))) ∙ is.last);
      behind = λ j h. elim (cases_eq j at) [
        | inl e ↦ subst (λ m. home_of mask (slot_at xs m).tag ≤ m) (sym e) (subst (λ (s : RowAt). home_of mask s.tag ≤ at) (sym here) first.behind)
        | inr n ↦
            (let there = set_there slots at j slot n in
            subst (λ (s : RowAt). home_of mask s.tag ≤ j) (sym there) (is.behind j (subst (λ (s : RowAt). s.row ≢ 4294967295) there h)))
      ];
      between = λ j k h low below. elim (cases_eq j at) [
        | inl e ↦
            (let low' : home_of mask slot.tag ≤ k = subst (λ (s : RowAt). home_of mask s.tag ≤ k) (ap (slot_at xs) e ∙ here) low in
            held_still k (first.between k low' (omega arith)))
        | inr n ↦
            (let there = set_there slots at j slot n in
            held_still k (is.between j k (subst (λ (s : RowAt). s.row ≢ 4294967295) there h) (subst (λ (s : RowAt). home_of mask s.tag ≤ k) there low) below))
      ];
    }

-- a row moves into the slot before it, and is held twice
pub probed_move : (mask : ℕ) (slots : List RowAt) (hole next : ℕ) → AreProbed mask slots → IsHeld slots hole → CanMove mask slots hole next → AreProbed mask (set slots hole (slot_at slots next))
probed_move mask slots hole next is here move =
    let slot = slot_at slots next in
    let xs = set slots hole slot in
    let long = length-set slots hole slot in
    let at_hole = set_here slots hole slot (omega (arith, move.behind, move.inside)) in
    let held_still : (k : ℕ) → IsHeld slots k → IsHeld xs k =
    λ k h. elim (cases_eq k hole) [
      | inl e ↦ subst (λ m. IsHeld xs m) (sym e) (subst (λ (s : RowAt). s.row ≢ 4294967295) (sym at_hole) move.held)
      | inr n ↦ subst (λ (s : RowAt). s.row ≢ 4294967295) (sym (set_there slots hole k slot n)) h
    ] in
    record {
      some = omega (arith, is.some, long);
      gaps = λ k. (let gap = is.gaps k in gap_kept slots hole k (k + reach) slot gap (λ e. here (subst (λ m. (slot_at slots m).row ≡ 4294967295) e gap.vacant)));
      last = ap (λ n. (slot_at xs (n - 1)).row) long ∙ (ap (λ (s : RowAt). s.row) (set_there slots hole (length slots - 1) slot (λ e. omega (arith, e, move.behind, move.inside))) ∙ is.last);
      behind = λ j h. elim (cases_eq j hole) [
        | inl e ↦ subst (λ m. home_of mask (slot_at xs m).tag ≤ m) (sym e) (subst (λ (s : RowAt). home_of mask s.tag ≤ hole) (sym at_hole) move.home)
        | inr n ↦
            (let there = set_there slots hole j slot n in
            subst (λ (s : RowAt). home_of mask s.tag ≤ j) (sym there) (is.behind j (subst (λ (s : RowAt). s.row ≢ 4294967295) there h)))
      ];
      between = λ j k h low below. elim (cases_eq j hole) [
        | inl e ↦
            (let low' : home_of mask slot.tag ≤ k = subst (λ (s : RowAt). home_of mask s.tag ≤ k) (ap (slot_at xs) e ∙ at_hole) low in
            held_still k (is.between next k move.held low' (omega (arith, move.behind, e, below))))
        | inr n ↦
            (let there = set_there slots hole j slot n in
            held_still k (is.between j k (subst (λ (s : RowAt). s.row ≢ 4294967295) there h) (subst (λ (s : RowAt). home_of mask s.tag ≤ k) there low) below))
      ];
    }

-- no row needs the slot that is emptied
pub probed_end : (mask : ℕ) (slots : List RowAt) (hole : ℕ) → AreProbed mask slots → hole < length slots → NoneMoves mask slots hole → AreProbed mask (set slots hole nothing)
probed_end mask slots hole is inside none =
    let xs = set slots hole nothing in
    let long = length-set slots hole nothing in
    let at_hole = set_here slots hole nothing inside in
    let other : (j : ℕ) → IsHeld xs j → j ≢ hole = λ j h e. h (ap (λ m. (slot_at xs m).row) e ∙ ap (λ (s : RowAt). s.row) at_hole) in
    let was : (j : ℕ) → IsHeld xs j → IsHeld slots j = λ j h. subst (λ (s : RowAt). s.row ≢ 4294967295) (set_there slots hole j nothing (other j h)) h in
    let home : (j : ℕ) → IsHeld xs j → home_of mask (slot_at xs j).tag ≡ home_of mask (slot_at slots j).tag = λ j h. ap (λ (s : RowAt). home_of mask s.tag) (set_there slots hole j nothing (other j h)) in
    record {
      some = omega (arith, is.some, long);
      gaps = λ k. (let gap = is.gaps k in
          elim (cases_eq gap.at hole) [
            | inl e ↦ record { at = gap.at; behind = gap.behind; before = gap.before; vacant = ap (λ m. (slot_at xs m).row) e ∙ ap (λ (s : RowAt). s.row) at_hole }
            | inr n ↦ gap_kept slots hole k (k + reach) nothing gap n
          ]);
      last = ap (λ n. (slot_at xs (n - 1)).row) long ∙ elim (cases_eq (length slots - 1) hole) [
        | inl e ↦ ap (λ n. (slot_at xs n).row) e ∙ ap (λ (s : RowAt). s.row) at_hole
        | inr n ↦ ap (λ (s : RowAt). s.row) (set_there slots hole (length slots - 1) nothing n) ∙ is.last
      ];
      behind = λ j h. (let e = home j h in let b = is.behind j (was j h) in omega (arith, e, b));
      between = λ j k h low below.
          (let e = home j h in
          elim (cases_eq k hole) [
            | inl same ↦ absurd (let b = none j (omega (arith, same, below)) (was j h) in omega (arith, e, b, same, low))
            | inr n ↦ subst (λ (s : RowAt). s.row ≢ 4294967295) (sym (set_there slots hole k nothing n)) (is.between j k (was j h) (omega (arith, e, low)) below)
          ]);
    }
