-- What one event does to one ticket, and to the list and the walk.
use Rattle.std.proofs.Common.{◌≡◌, ℕ, true, nat_eq, List, [], ◌∷◌, length, Option, Some, None, slice_get, length-set, IfSome, unwrap_or, refl, sym, ◌∙◌, ap, arith, inl, inr}
use Rattle.std.specs.Option.{option_map, option_eq}
use Rattle.std.proofs.lemmas.Bool.{cases_eq, eqb-true, eq-eqb, cond_both}
use Rattle.std.proofs.lemmas.List.{length-map}
use Rattle.std.proofs.lemmas.Option.{slice_get-map, slice_get_within, same_Some}
use Rattle.foreign_core.specs.Tickets.{Tickets, state_of, head_of, next_back, becomes, listed_first, taken, lend, look, link, swing, take_whole, back, step}
use Rattle.foreign_core.specs.Places.{InOnePlace, InOneState, IsOff, times_on, listed_times, walked_times}
use Rattle.foreign_core.specs.declared.event.Event.{Event}
use Rattle.foreign_core.specs.declared.event.Event.TheVariants.{Lend, Look, Link, Swing, TakeWhole, Back}
use Rattle.foreign_core.specs.declared.ticket_state.TicketState.{TicketState}
use Rattle.foreign_core.specs.declared.ticket_state.TicketState.TheVariants.{Idle, Carried, Looked, Linked, Listed, Walked}
use Rattle.foreign_core.proofs.PlaceLemmas.{slice_get-set_same, slice_get-set_other, becomes_place, listed_place, take_place, back_place, first_walked}

-- Each event keeps the number of the tickets, and each in one place.

off_here : (s : Tickets) (t : ℕ) (x : TicketState) → state_of s t ≡ Some x → IsOff (Some x) → IsOff (state_of s t)
off_here s t x here off = rw here off

becomes_state : (n : ℕ) (s : Tickets) (t : ℕ) (x y : TicketState) → InOneState n s → state_of s t ≡ Some x → IsOff (Some x) → IsOff (Some y) → InOneState n (becomes s t y)
becomes_state n s t x y p here from to = record {
  number = length-set s.states t y ∙ p.number;
  place = becomes_place s t y p.place (off_here s t x here from) to;
}

lend_keeps : (n : ℕ) (s : Tickets) (t : ℕ) (o : Option TicketState) → state_of s t ≡ o → InOneState n s → IfSome (lend s t o) (InOneState n)
lend_keeps n s t (Some Idle) here p = becomes_state n s t Idle Carried p here tt tt
lend_keeps n s t _ here p = tt

look_keeps : (n : ℕ) (s : Tickets) (t : ℕ) (o : Option TicketState) → state_of s t ≡ o → InOneState n s → IfSome (look s t o) (InOneState n)
look_keeps n s t (Some Carried) here p = becomes_state n s t Carried (Looked (head_of s)) p here tt tt
look_keeps n s t _ here p = tt

link_keeps : (n : ℕ) (s : Tickets) (t : ℕ) (o : Option TicketState) → state_of s t ≡ o → InOneState n s → IfSome (link s t o) (InOneState n)
link_keeps n s t (Some (Looked e)) here p = becomes_state n s t (Looked e) (Linked e) p here tt tt
link_keeps n s t _ here p = tt

swing_keeps : (n : ℕ) (s : Tickets) (t : ℕ) (o : Option TicketState) → state_of s t ≡ o → InOneState n s → IfSome (swing s t o) (InOneState n)
swing_keeps n s t (Some (Linked e)) here p =
    cond_both (option_eq nat_eq (head_of s) e) (listed_first s t) (becomes s t Carried) (InOneState n)
    (λ won. record { number = length-set s.states t Listed ∙ p.number; place = listed_place s t p.place (off_here s t (Linked e) here tt) })
    (λ lost. becomes_state n s t (Linked e) Carried p here tt tt)
swing_keeps n s t _ here p = tt

take_keeps : (n : ℕ) (s : Tickets) (walk : List ℕ) → s.walk ≡ walk → InOneState n s → IfSome (take_whole s walk) (InOneState n)
take_keeps n s [] here p = record { number = length-map s.states taken ∙ p.number; place = take_place s p.place here }
take_keeps n s (t ∷ rest) here p = tt

back_keeps : (n : ℕ) (s : Tickets) (walk : List ℕ) → s.walk ≡ walk → InOneState n s → IfSome (back s walk) (InOneState n)
back_keeps n s [] here p = tt
back_keeps n s (t ∷ rest) here p = record { number = length-set s.states t Idle ∙ p.number; place = back_place s t rest p.place here }

pub step_keeps : (n : ℕ) (s : Tickets) (event : Event) → InOneState n s → IfSome (step s event) (InOneState n)
step_keeps n s (Lend t) p = lend_keeps n s t (state_of s t) refl p
step_keeps n s (Look t) p = look_keeps n s t (state_of s t) refl p
step_keeps n s (Link t) p = link_keeps n s t (state_of s t) refl p
step_keeps n s (Swing t) p = swing_keeps n s t (state_of s t) refl p
step_keeps n s TakeWhole p = take_keeps n s s.walk refl p
step_keeps n s Back p = back_keeps n s s.walk refl p

-- an event keeps the number of the tickets
lend_number : (s : Tickets) (t : ℕ) (o : Option TicketState) → length (unwrap_or (lend s t o) s).states ≡ length s.states
lend_number s t (Some Idle) = length-set s.states t Carried
lend_number s t _ = refl

look_number : (s : Tickets) (t : ℕ) (o : Option TicketState) → length (unwrap_or (look s t o) s).states ≡ length s.states
look_number s t (Some Carried) = length-set s.states t (Looked (head_of s))
look_number s t _ = refl

link_number : (s : Tickets) (t : ℕ) (o : Option TicketState) → length (unwrap_or (link s t o) s).states ≡ length s.states
link_number s t (Some (Looked e)) = length-set s.states t (Linked e)
link_number s t _ = refl

swing_number : (s : Tickets) (t : ℕ) (o : Option TicketState) → length (unwrap_or (swing s t o) s).states ≡ length s.states
swing_number s t (Some (Linked e)) =
    cond_both (option_eq nat_eq (head_of s) e) (listed_first s t) (becomes s t Carried) (λ new. length new.states ≡ length s.states)
    (λ won. length-set s.states t Listed) (λ lost. length-set s.states t Carried)
swing_number s t _ = refl

take_number : (s : Tickets) (walk : List ℕ) → length (unwrap_or (take_whole s walk) s).states ≡ length s.states
take_number s [] = length-map s.states taken
take_number s (t ∷ rest) = refl

back_number : (s : Tickets) (walk : List ℕ) → length (unwrap_or (back s walk) s).states ≡ length s.states
back_number s [] = refl
back_number s (t ∷ rest) = length-set s.states t Idle

pub step_number : (s : Tickets) (event : Event) → length (unwrap_or (step s event) s).states ≡ length s.states
step_number s (Lend t) = lend_number s t (state_of s t)
step_number s (Look t) = look_number s t (state_of s t)
step_number s (Link t) = link_number s t (state_of s t)
step_number s (Swing t) = swing_number s t (state_of s t)
step_number s TakeWhole = take_number s s.walk
step_number s Back = back_number s s.walk

-- How far a ticket has come: with the owner, with a block, on the list, on the walk.
abbrev pub phase : Option TicketState → ℕ
phase (Some Idle) = 0
phase (Some Carried) = 1
phase (Some (Looked expected)) = 1
phase (Some (Linked expected)) = 1
phase (Some Listed) = 2
phase (Some Walked) = 3
phase None = 4

abbrev pub phase_of : Tickets → ℕ → ℕ
phase_of s t = phase (state_of s t)

-- an event moves a ticket one phase on, in one way for each phase, or leaves it
pub data Moves (s : Tickets) (event : Event) (t old new : ℕ) : Type 0 where
  stays : new ≡ old → Moves s event t old new
  lends : event ≡ Lend t → old ≡ 0 → new ≡ 1 → Moves s event t old new
  wins : event ≡ Swing t → state_of s t ≡ Some (Linked (head_of s)) → old ≡ 1 → new ≡ 2 → Moves s event t old new
  takes : event ≡ TakeWhole → old ≡ 2 → new ≡ 3 → Moves s event t old new
  returns : event ≡ Back → next_back s ≡ Some t → old ≡ 3 → new ≡ 0 → Moves s event t old new

-- a ticket that goes from one state to another of the same phase
same_phase : (s : Tickets) (event : Event) (u t : ℕ) (x y : TicketState) → state_of s u ≡ Some x → phase (Some x) ≡ phase (Some y)
    → Moves s event t (phase_of s t) (phase_of (becomes s u y) t)
same_phase s event u t x y here same = elim (cases_eq t u) [
  | inl e ↦ stays (rw (e, slice_get-set_same s.states u y (slice_get_within s.states u x here), here) (sym same))
  | inr ne ↦ stays (rw (slice_get-set_other s.states u t y ne) refl)
]

lend_moves : (s : Tickets) (u t : ℕ) (o : Option TicketState) → state_of s u ≡ o → IfSome (lend s u o) (λ new. Moves s (Lend u) t (phase_of s t) (phase_of new t))
lend_moves s u t (Some Idle) here = elim (cases_eq t u) [
  | inl e ↦ lends (ap Lend (sym e)) (rw (e, here) refl) (rw (e, slice_get-set_same s.states u Carried (slice_get_within s.states u Idle here)) refl)
  | inr ne ↦ stays (rw (slice_get-set_other s.states u t Carried ne) refl)
]
lend_moves s u t _ here = tt

look_moves : (s : Tickets) (u t : ℕ) (o : Option TicketState) → state_of s u ≡ o → IfSome (look s u o) (λ new. Moves s (Look u) t (phase_of s t) (phase_of new t))
look_moves s u t (Some Carried) here = same_phase s (Look u) u t Carried (Looked (head_of s)) here refl
look_moves s u t _ here = tt

link_moves : (s : Tickets) (u t : ℕ) (o : Option TicketState) → state_of s u ≡ o → IfSome (link s u o) (λ new. Moves s (Link u) t (phase_of s t) (phase_of new t))
link_moves s u t (Some (Looked e)) here = same_phase s (Link u) u t (Looked e) (Linked e) here refl
link_moves s u t _ here = tt

same_head : (a b : Option ℕ) → option_eq nat_eq a b ≡ true → a ≡ b
same_head None None e = refl
same_head None (Some y) e = absurd cc
same_head (Some x) None e = absurd cc
same_head (Some x) (Some y) e = ap Some (eqb-true x y e)

head_same : (a : Option ℕ) → option_eq nat_eq a a ≡ true
head_same None = refl
head_same (Some x) = eq-eqb x x refl

swing_moves : (s : Tickets) (u t : ℕ) (o : Option TicketState) → state_of s u ≡ o → IfSome (swing s u o) (λ new. Moves s (Swing u) t (phase_of s t) (phase_of new t))
swing_moves s u t (Some (Linked expected)) here =
    cond_both (option_eq nat_eq (head_of s) expected) (listed_first s u) (becomes s u Carried) (λ new. Moves s (Swing u) t (phase_of s t) (phase_of new t))
    (λ won. elim (cases_eq t u) [
      | inl e ↦ wins (ap Swing (sym e)) (rw e here ∙ ap (λ h. Some (Linked h)) (sym (same_head (head_of s) expected won))) (rw (e, here) refl)
          (rw (e, slice_get-set_same s.states u Listed (slice_get_within s.states u (Linked expected) here)) refl)
      | inr ne ↦ stays (rw (slice_get-set_other s.states u t Listed ne) refl)
    ])
    (λ lost. same_phase s (Swing u) u t (Linked expected) Carried here refl)
swing_moves s u t _ here = tt

taken_moves : (s : Tickets) (t : ℕ) (o : Option TicketState) → Moves s TakeWhole t (phase o) (phase (option_map taken o))
taken_moves s t (Some Listed) = takes refl refl refl
taken_moves s t _ = stays refl

take_moves : (s : Tickets) (t : ℕ) (walk : List ℕ) → IfSome (take_whole s walk) (λ new. Moves s TakeWhole t (phase_of s t) (phase_of new t))
take_moves s t [] = rw (slice_get-map taken s.states t) (taken_moves s t (state_of s t))
take_moves s t (u ∷ rest) = tt

back_moves : (s : Tickets) (t : ℕ) (walk : List ℕ) → s.walk ≡ walk → InOnePlace s → IfSome (back s walk) (λ new. Moves s Back t (phase_of s t) (phase_of new t))
back_moves s t [] here p = tt
back_moves s t (u ∷ rest) here p =
    let walked = first_walked s u rest p here in
    elim (cases_eq t u) [
      | inl e ↦ returns refl (rw here (ap Some (sym e))) (rw (e, walked) refl) (rw (e, slice_get-set_same s.states u Idle (slice_get_within s.states u Walked walked)) refl)
      | inr ne ↦ stays (rw (slice_get-set_other s.states u t Idle ne) refl)
    ]

pub step_moves : (s : Tickets) (event : Event) (t : ℕ) → InOnePlace s → IfSome (step s event) (λ new. Moves s event t (phase_of s t) (phase_of new t))
step_moves s (Lend u) t p = lend_moves s u t (state_of s u) refl
step_moves s (Look u) t p = look_moves s u t (state_of s u) refl
step_moves s (Link u) t p = link_moves s u t (state_of s u) refl
step_moves s (Swing u) t p = swing_moves s u t (state_of s u) refl
step_moves s TakeWhole t p = take_moves s t s.walk
step_moves s Back t p = back_moves s t s.walk refl p

-- What the four events that move a ticket do.

lend_does : (s : Tickets) (t : ℕ) (o : Option TicketState) → state_of s t ≡ o → IfSome (lend s t o) (λ new. (phase_of s t ≡ 0) × (phase_of new t ≡ 1))
lend_does s t (Some Idle) here = (rw here refl, rw (slice_get-set_same s.states t Carried (slice_get_within s.states t Idle here)) refl)
lend_does s t _ here = tt

pub step_lends : (s : Tickets) (t : ℕ) → IfSome (step s (Lend t)) (λ new. (phase_of s t ≡ 0) × (phase_of new t ≡ 1))
step_lends s t = lend_does s t (state_of s t) refl

-- a won swing, with the list that it leaves
pub step_wins : (s : Tickets) (t : ℕ) → state_of s t ≡ Some (Linked (head_of s)) → step s (Swing t) ≡ Some (listed_first s t)
step_wins s t here = rw (here, head_same (head_of s)) refl

pub won_phases : (s : Tickets) (t : ℕ) → state_of s t ≡ Some (Linked (head_of s)) → (phase_of s t ≡ 1) × (phase_of (listed_first s t) t ≡ 2)
won_phases s t here = (rw here refl, rw (slice_get-set_same s.states t Listed (slice_get_within s.states t (Linked (head_of s)) here)) refl)

-- a list by its first
pub first_is : (walk : List ℕ) (t : ℕ) → slice_get walk 0 ≡ Some t → (rest : List ℕ) × (walk ≡ t ∷ rest)
first_is [] t e = absurd cc
first_is (u ∷ rest) t e = (rest, ap (λ x. x ∷ rest) (same_Some u t e))

pub step_returns : (s : Tickets) (t : ℕ) → InOnePlace s → next_back s ≡ Some t → IfSome (step s Back) (λ new. (phase_of s t ≡ 3) × (phase_of new t ≡ 0))
step_returns s t p next =
    let first = first_is s.walk t next in
    let walked = first_walked s t first.0 p first.1 in
    rw (first.1) (rw walked refl, rw (slice_get-set_same s.states t Idle (slice_get_within s.states t Walked walked)) refl)

-- a take-whole finds no ticket walked, and takes each that is listed
walked_phase : (o : Option TicketState) → phase o ≡ 3 → walked_times o ≡ 1
walked_phase (Some Walked) e = refl
walked_phase _ e = absurd (omega arith)

pub listed_phase : (o : Option TicketState) → phase o ≡ 2 → listed_times o ≡ 1
listed_phase (Some Listed) e = refl
listed_phase _ e = absurd (omega arith)

taken_phase : (o : Option TicketState) → phase o ≡ 2 → phase (option_map taken o) ≡ 3
taken_phase (Some Listed) e = refl
taken_phase _ e = absurd (omega arith)

take_does : (s : Tickets) (t : ℕ) (walk : List ℕ) → s.walk ≡ walk → InOnePlace s
    → IfSome (take_whole s walk) (λ new. (phase_of s t ≡ 3 → ⊥) × (phase_of s t ≡ 2 → phase_of new t ≡ 3))
take_does s t [] here p =
    let none : times_on s.walk t ≡ 0 = rw here refl in
    (λ e. omega (arith, p.on_walk t, none, walked_phase (state_of s t) e), λ e. rw (slice_get-map taken s.states t) (taken_phase (state_of s t) e))
take_does s t (u ∷ rest) here p = tt

pub step_takes : (s : Tickets) (t : ℕ) → InOnePlace s → IfSome (step s TakeWhole) (λ new. (phase_of s t ≡ 3 → ⊥) × (phase_of s t ≡ 2 → phase_of new t ≡ 3))
step_takes s t p = take_does s t s.walk refl p

take_walk : (s : Tickets) (walk : List ℕ) → IfSome (take_whole s walk) (λ new. new.walk ≡ s.listed)
take_walk s [] = refl
take_walk s (t ∷ rest) = tt

-- the list becomes the walk
pub step_takes_list : (s : Tickets) → IfSome (step s TakeWhole) (λ new. new.walk ≡ s.listed)
step_takes_list s = take_walk s s.walk

-- What an event does to the list and the walk.
pub data Shifts (s : Tickets) (event : Event) (new : Tickets) : Type 0 where
  keeps : new.listed ≡ s.listed → new.walk ≡ s.walk → Shifts s event new
  lists : (t : ℕ) → new.listed ≡ t ∷ s.listed → new.walk ≡ s.walk → Shifts s event new
  takes_all : event ≡ TakeWhole → new.walk ≡ s.listed → Shifts s event new
  gives : (t : ℕ) → event ≡ Back → s.walk ≡ t ∷ new.walk → new.listed ≡ s.listed → Shifts s event new

lend_shifts : (s : Tickets) (t : ℕ) (o : Option TicketState) → IfSome (lend s t o) (Shifts s (Lend t))
lend_shifts s t (Some Idle) = keeps refl refl
lend_shifts s t _ = tt

look_shifts : (s : Tickets) (t : ℕ) (o : Option TicketState) → IfSome (look s t o) (Shifts s (Look t))
look_shifts s t (Some Carried) = keeps refl refl
look_shifts s t _ = tt

link_shifts : (s : Tickets) (t : ℕ) (o : Option TicketState) → IfSome (link s t o) (Shifts s (Link t))
link_shifts s t (Some (Looked e)) = keeps refl refl
link_shifts s t _ = tt

swing_shifts : (s : Tickets) (t : ℕ) (o : Option TicketState) → IfSome (swing s t o) (Shifts s (Swing t))
swing_shifts s t (Some (Linked e)) =
    cond_both (option_eq nat_eq (head_of s) e) (listed_first s t) (becomes s t Carried) (Shifts s (Swing t)) (λ won. lists t refl refl) (λ lost. keeps refl refl)
swing_shifts s t _ = tt

take_shifts : (s : Tickets) (walk : List ℕ) → IfSome (take_whole s walk) (Shifts s TakeWhole)
take_shifts s [] = takes_all refl refl
take_shifts s (t ∷ rest) = tt

back_shifts : (s : Tickets) (walk : List ℕ) → s.walk ≡ walk → IfSome (back s walk) (Shifts s Back)
back_shifts s [] here = tt
back_shifts s (t ∷ rest) here = gives t refl here refl

pub step_shifts : (s : Tickets) (event : Event) → IfSome (step s event) (Shifts s event)
step_shifts s (Lend t) = lend_shifts s t (state_of s t)
step_shifts s (Look t) = look_shifts s t (state_of s t)
step_shifts s (Link t) = link_shifts s t (state_of s t)
step_shifts s (Swing t) = swing_shifts s t (state_of s t)
step_shifts s TakeWhole = take_shifts s s.walk
step_shifts s Back = back_shifts s s.walk refl
