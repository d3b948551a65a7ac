-- What a take-whole took comes back before the next, newest first.
use Rattle.std.proofs.Common.{◌≡◌, ℕ, suc, ◌-◌, ◌<◌, ◌≤◌, ◌⊎◌, List, [], ◌∷◌, length, Some, slice_get, refl, sym, ◌∙◌, ap, subst, arith, inl, inr}
use Rattle.std.proofs.lemmas.Bool.{cases_eq, cases_lt}
use Rattle.std.proofs.lemmas.Option.{slice_get_within}
use Rattle.foreign_core.specs.Tickets.{Tickets, state_of, next_back}
use Rattle.foreign_core.specs.Places.{times_on}
use Rattle.foreign_core.specs.Histories.{IsPossible, before, Wins, TakesWhole, ComesBack, Takes, IsBetween, IsOnlyBetween, ExactlyOneBetween, AreSuccessive, IsNextAfter}
use Rattle.foreign_core.specs.declared.event.Event.{Event}
use Rattle.foreign_core.specs.declared.event.Event.TheVariants.{TakeWhole, Back}
use Rattle.foreign_core.proofs.PlaceLemmas.{first_not_again}
use Rattle.foreign_core.proofs.StepLemmas.{stays, lends, wins, takes, returns, Shifts, keeps, lists, takes_all, gives, step_shifts, step_takes_list, listed_phase, first_is}
use Rattle.foreign_core.proofs.RunLemmas.{at_position, before_is, state_at, next_at, event_at, IfSome_at, IsSomeAnd_from}
use Rattle.foreign_core.proofs.Courses.{Change, first_change, along, phase_at, moves_at, win_next, win_phases, back_phases, back_first, take_phases, leaves_list, leaves_walk}

-- new stands before old on a list
abbrev IsBefore : ℕ → ℕ → List ℕ → Type 0
IsBefore new old [] = ⊥
IsBefore new old (first ∷ rest) = ((first ≡ new) × (0 < times_on rest old)) ⊎ IsBefore new old rest

before_counts : (new old : ℕ) (xs : List ℕ) → IsBefore new old xs → 0 < times_on xs old
before_counts new old [] b = absurd b
before_counts new old (x ∷ xs) b = elim b [
  | inl first ↦ omega (arith, first.1)
  | inr later ↦ omega (arith, before_counts new old xs later)
]

shifts_at : (n : ℕ) (events : List Event) (k : ℕ) (event : Event) → IsPossible n events → slice_get events k ≡ Some event
    → Shifts (at_position n events k) event (at_position n events (suc k))
shifts_at n events k event possible here =
    IfSome_at _ (at_position n events (suc k)) (Shifts (at_position n events k) event) (next_at n events k event possible here) (step_shifts (at_position n events k) event)

-- a ticket on the list stays there until a take-whole
stays_listed : (n : ℕ) (events : List Event) (t k : ℕ) → IsPossible n events → k < length events
    → phase_at n events t k ≡ 2 → (TakesWhole events k → ⊥) → phase_at n events t (suc k) ≡ 2
stays_listed n events t k possible within here none =
    elim (cases_eq (phase_at n events t (suc k)) 2) [
      | inl e ↦ e
      | inr ne ↦ absurd (none (leaves_list n events t k possible within here ne).0)
    ]

-- a ticket on the walk stays there until it comes back
stays_walked : (n : ℕ) (events : List Event) (t k : ℕ) → IsPossible n events → k < length events
    → phase_at n events t k ≡ 3 → (ComesBack n events t k → ⊥) → phase_at n events t (suc k) ≡ 3
stays_walked n events t k possible within here none =
    elim (cases_eq (phase_at n events t (suc k)) 3) [
      | inl e ↦ e
      | inr ne ↦ absurd (none (leaves_walk n events t k possible within here ne).0)
    ]

-- without a take-whole no ticket comes on the walk
stays_untaken : (n : ℕ) (events : List Event) (t k : ℕ) → IsPossible n events → k < length events
    → (TakesWhole events k → ⊥) → (phase_at n events t k ≡ 3 → ⊥) → phase_at n events t (suc k) ≡ 3 → ⊥
stays_untaken n events t k possible within none off there =
    let event = event_at events k within in
    elim (moves_at n events t k event.0 possible event.1) [
      | stays same ↦ off (sym same ∙ there)
      | lends e a b ↦ omega arith
      | wins e s a b ↦ omega arith
      | takes e a b ↦ none (event.1 ∙ ap Some e)
      | returns e s a b ↦ omega arith
    ]

-- while one ticket is on the walk, no other comes there
stays_off : (n : ℕ) (events : List Event) (t u k : ℕ) → IsPossible n events → k < length events
    → phase_at n events u k ≡ 3 → (phase_at n events t k ≡ 3 → ⊥) → phase_at n events t (suc k) ≡ 3 → ⊥
stays_off n events t u k possible within other off there =
    stays_untaken n events t k possible within (λ take. (take_phases n events u k possible take).0 other) off there

-- a ticket that is walked up to its return and not after it comes back once
only_return : (n : ℕ) (events : List Event) (t low high place : ℕ) → IsPossible n events → IsBetween low high place → ComesBack n events t place
    → ((l : ℕ) → low < l → l ≤ place → phase_at n events t l ≡ 3) → ((l : ℕ) → place < l → l ≤ high → phase_at n events t l ≡ 3 → ⊥)
    → IsOnlyBetween low high (ComesBack n events t) place
only_return n events t low high place possible between back walked off = record {
  between = between;
  holds = back;
  only = λ other inside comes.
      let phases = back_phases n events t other possible comes in
      let above : low < other = inside.0 in
      let below : other < high = inside.1 in
      elim (cases_lt place other) [
        | inl late ↦ absurd (off other late (omega arith) phases.0)
        | inr early ↦ elim (cases_eq other place) [
          | inl same ↦ same
          | inr ne ↦ absurd (omega (arith, walked (suc other) (omega arith) (omega arith), phases.1))
        ]
      ];
}

-- the order on the list stays until a take-whole
list_order : (n : ℕ) (events : List Event) (new old k : ℕ) → IsPossible n events → k < length events → (TakesWhole events k → ⊥)
    → IsBefore new old (at_position n events k).listed → IsBefore new old (at_position n events (suc k)).listed
list_order n events new old k possible within none b =
    let event = event_at events k within in
    elim (shifts_at n events k event.0 possible event.1) [
      | keeps l w ↦ rw l b
      | lists t l w ↦ rw l (inr b)
      | takes_all e w ↦ absurd (none (event.1 ∙ ap Some e))
      | gives t e w l ↦ rw l b
    ]

-- the order on the walk stays until the newer ticket has come back
walk_order : (n : ℕ) (events : List Event) (new old k : ℕ) → IsPossible n events → k < length events → phase_at n events old k ≡ 3
    → IsBefore new old (at_position n events k).walk → IsBefore new old (at_position n events (suc k)).walk ⊎ (phase_at n events new (suc k) ≡ 3 → ⊥)
walk_order n events new old k possible within walked b =
    let event = event_at events k within in
    elim (shifts_at n events k event.0 possible event.1) [
      | keeps l w ↦ inl (rw w b)
      | lists t l w ↦ inl (rw w b)
      | takes_all e w ↦ absurd ((take_phases n events old k possible (event.1 ∙ ap Some e)).0 walked)
      | gives t e w l ↦
          let comes : ComesBack n events t k =
          (event.1 ∙ ap Some e, IsSomeAnd_from (before n events k) (at_position n events k) (λ s. next_back s ≡ Some t) (before_is n events k possible) (rw w refl)) in
          let parts : IsBefore new old (t ∷ (at_position n events (suc k)).walk) = rw w at b in
          elim (cases_eq t new) [
            | inl same ↦ inr (λ there. omega (arith, (back_phases n events new k possible (rw same at comes)).1))
            | inr ne ↦ elim parts [ inl first ↦ absurd (ne first.0) | inr later ↦ inl later ]
          ]
    ]

-- a ticket that comes back isn't behind another on the walk
not_behind : (n : ℕ) (events : List Event) (new old k : ℕ) → IsPossible n events → ComesBack n events old k
    → IsBefore new old (at_position n events k).walk → ⊥
not_behind n events new old k possible back b =
    let first = first_is (at_position n events k).walk old (back_first n events old k possible back) in
    let none : times_on first.0 old ≡ 0 = first_not_again (at_position n events k) old first.0 (state_at n events k possible).place first.1 in
    let parts : IsBefore new old (old ∷ first.0) = rw (first.1) at b in
    elim parts [
      | inl front ↦ omega (arith, front.1)
      | inr later ↦ omega (arith, before_counts new old first.0 later)
    ]

-- while one of two tickets is on the list, a won swing puts the other before it
win_order : (n : ℕ) (events : List Event) (new old k : ℕ) → IsPossible n events → Wins n events new k → phase_at n events old k ≡ 2
    → IsBefore new old (at_position n events (suc k)).listed
win_order n events new old k possible win listed =
    let s : Tickets = at_position n events k in
    let once : times_on s.listed old ≡ 1 = (state_at n events k possible).place.on_list old ∙ listed_phase (state_of s old) listed in
    let P : Tickets → Type 0 = λ x. IsBefore new old x.listed in
    subst P (sym (win_next n events new k possible win)) (inl (refl, omega arith))

pub newest_returns_first : (n : ℕ) (events : List Event) → IsPossible n events
    → (old new won_old won_new taken came_back : ℕ) → won_old < won_new
    → Takes n events old won_old taken → Takes n events new won_new taken
    → IsNextAfter taken (ComesBack n events old) came_back
    → ExactlyOneBetween taken came_back (ComesBack n events new)
newest_returns_first n events possible old new won_old won_new taken came_back newer took_old took_new back =
    let f : ℕ → ℕ = phase_at n events old in
    let g : ℕ → ℕ = phase_at n events new in
    let end : came_back < length events = slice_get_within events came_back Back back.holds.0 in
    let taken_back : taken < came_back = back.later in
    let won_taken : won_new < taken = took_new.next.later in
    let old_listed : (l : ℕ) → won_old < l → l ≤ taken → f l ≡ 2 =
    λ l low high. along (λ k. f k ≡ 2) (suc won_old) (taken - suc won_old) (win_phases n events old won_old possible took_old.win).1
    (λ k a b here. stays_listed n events old k possible (omega arith) here (took_old.next.none_between k (omega arith, omega arith)))
    l (omega arith) (omega arith) in
    let new_listed : (l : ℕ) → won_new < l → l ≤ taken → g l ≡ 2 =
    λ l low high. along (λ k. g k ≡ 2) (suc won_new) (taken - suc won_new) (win_phases n events new won_new possible took_new.win).1
    (λ k a b here. stays_listed n events new k possible (omega arith) here (took_new.next.none_between k (omega arith, omega arith)))
    l (omega arith) (omega arith) in
    let ordered : IsBefore new old (at_position n events taken).listed =
    along (λ k. IsBefore new old (at_position n events k).listed) (suc won_new) (taken - suc won_new)
    (win_order n events new old won_new possible took_new.win (old_listed won_new newer (omega arith)))
    (λ k a b here. list_order n events new old k possible (omega arith) (took_new.next.none_between k (omega arith, omega arith)) here)
    taken (omega arith) (omega arith) in
    let take : TakesWhole events taken = took_new.next.holds in
    let walk_is : (at_position n events (suc taken)).walk ≡ (at_position n events taken).listed =
    IfSome_at _ (at_position n events (suc taken)) (λ s. s.walk ≡ (at_position n events taken).listed) (next_at n events taken TakeWhole possible take) (step_takes_list (at_position n events taken)) in
    let old_walked : (l : ℕ) → taken < l → l ≤ came_back → f l ≡ 3 =
    λ l low high. along (λ k. f k ≡ 3) (suc taken) (came_back - suc taken)
    ((take_phases n events old taken possible take).1 (old_listed taken (omega arith) (omega arith)))
    (λ k a b here. stays_walked n events old k possible (omega arith) here (back.none_between k (omega arith, omega arith)))
    l (omega arith) (omega arith) in
    let P : ℕ → Type 0 = λ k. IsBefore new old (at_position n events k).walk ⊎ (g k ≡ 3 → ⊥) in
    let behind : P came_back =
    along P (suc taken) (came_back - suc taken) (inl (rw walk_is ordered))
    (λ k a b here. elim here [
      | inl before_ ↦ walk_order n events new old k possible (omega arith) (old_walked k (omega arith) (omega arith)) before_
      | inr off ↦ inr (stays_off n events new old k possible (omega arith) (old_walked k (omega arith) (omega arith)) off)
    ])
    came_back (omega arith) (omega arith) in
    let off : g came_back ≡ 3 → ⊥ = elim behind [ inl before_ ↦ absurd (not_behind n events new old came_back possible back.holds before_) | inr off ↦ off ] in
    let change : Change g 3 (suc taken) came_back =
    first_change g 3 (came_back - suc taken) (suc taken) came_back (omega arith)
    ((take_phases n events new taken possible take).1 (new_listed taken (omega arith) (omega arith))) off in
    let low : suc taken ≤ change.position = change.from_low in
    let high : change.position < came_back = change.to_high in
    let return = leaves_walk n events new change.position possible (omega arith) (change.same change.position low (omega arith)) change.changed in
    let after : (l : ℕ) → change.position < l → l ≤ came_back → g l ≡ 3 → ⊥ =
    λ l a b. along (λ k. g k ≡ 3 → ⊥) (suc change.position) (came_back - suc change.position) (λ e. omega (arith, return.1))
    (λ k c d here. stays_off n events new old k possible (omega arith) (old_walked k (omega arith) (omega arith)) here)
    l (omega arith) (omega arith) in
    (change.position, only_return n events new taken came_back change.position possible (omega arith, high) return.0 (λ l a b. change.same l (omega arith) b) after)

pub each_taken_returns : (n : ℕ) (events : List Event) → IsPossible n events → (t won taken next : ℕ)
    → Takes n events t won taken → AreSuccessive (TakesWhole events) taken next
    → ExactlyOneBetween taken next (ComesBack n events t)
each_taken_returns n events possible t won taken next took takings =
    let f : ℕ → ℕ = phase_at n events t in
    let end : next < length events = slice_get_within events next TakeWhole takings.at_second in
    let order : taken < next = takings.order in
    let won_taken : won < taken = took.next.later in
    let listed : f taken ≡ 2 =
    along (λ k. f k ≡ 2) (suc won) (taken - suc won) (win_phases n events t won possible took.win).1
    (λ k a b here. stays_listed n events t k possible (omega arith) here (took.next.none_between k (omega arith, omega arith)))
    taken (omega arith) (omega arith) in
    let change : Change f 3 (suc taken) next =
    first_change f 3 (next - suc taken) (suc taken) next (omega arith)
    ((take_phases n events t taken possible takings.at_first).1 listed) (take_phases n events t next possible takings.at_second).0 in
    let low : suc taken ≤ change.position = change.from_low in
    let high : change.position < next = change.to_high in
    let return = leaves_walk n events t change.position possible (omega arith) (change.same change.position low (omega arith)) change.changed in
    let after : (l : ℕ) → change.position < l → l ≤ next → f l ≡ 3 → ⊥ =
    λ l a b. along (λ k. f k ≡ 3 → ⊥) (suc change.position) (next - suc change.position) (λ e. omega (arith, return.1))
    (λ k c d here. stays_untaken n events t k possible (omega arith) (takings.none_between k (omega arith, omega arith)) here)
    l (omega arith) (omega arith) in
    (change.position, only_return n events t taken next change.position possible (omega arith, high) return.0 (λ l a b. change.same l (omega arith) b) after)
