-- The course of one ticket from a lend of it to the next.
use Rattle.std.proofs.Common.{◌≡◌, ℕ, zero, suc, ◌+◌, ◌-◌, ◌<◌, ◌≤◌, List, length, Some, slice_get, ◌∙◌, ap, subst, arith, inl, inr}
use Rattle.std.proofs.lemmas.Bool.{cases_eq, cases_lt}
use Rattle.std.proofs.lemmas.Option.{slice_get_within}
use Rattle.foreign_core.specs.Tickets.{state_of, head_of, next_back, listed_first, step}
use Rattle.foreign_core.specs.Histories.{IsPossible, before, Lends, Wins, TakesWhole, ComesBack, AreSuccessive, ReturnsOnce}
use Rattle.foreign_core.specs.declared.event.Event.{Event}
use Rattle.foreign_core.specs.declared.event.Event.TheVariants.{Lend, Swing, TakeWhole, Back}
use Rattle.foreign_core.specs.declared.ticket_state.TicketState.TheVariants.{Linked}
use Rattle.foreign_core.proofs.StepLemmas.{phase_of, Moves, stays, lends, wins, takes, returns, step_moves, step_lends, step_wins, won_phases, step_returns, step_takes}
use Rattle.foreign_core.proofs.RunLemmas.{at_position, before_is, state_at, next_at, event_at, IfSome_at, IsSomeAnd_at, IsSomeAnd_from}

-- where a function of the position stops having a value
pub record Change (f : ℕ → ℕ) (v low high : ℕ) : Type 0 where
  pub position : ℕ
  pub from_low : low ≤ position
  pub to_high : position < high
  pub same : (l : ℕ) → low ≤ l → l ≤ position → f l ≡ v
  pub changed : f (suc position) ≡ v → ⊥

pub first_change : (f : ℕ → ℕ) (v n low high : ℕ) → low + n ≡ high → f low ≡ v → (f high ≡ v → ⊥) → Change f v low high
first_change f v zero low high e here there = absurd (there (let same : low ≡ high = omega arith in rw (← same) here))
first_change f v (suc n) low high e here there =
    elim (cases_eq (f (suc low)) v) [
      | inl still ↦
          let later : Change f v (suc low) high = first_change f v n (suc low) high (omega arith) still there in
          record {
            position = later.position;
            from_low = omega (arith, later.from_low);
            to_high = later.to_high;
            same = λ l a b. elim (cases_eq l low) [
              | inl same ↦ rw same here
              | inr ne ↦ later.same l (omega arith) b
            ];
            changed = later.changed;
          }
      | inr ne ↦
          let below : low < high = omega arith in
          record {
            position = low;
            from_low = omega arith;
            to_high = below;
            same = λ l a b. let same : l ≡ low = omega arith in rw same here;
            changed = ne;
          }
    ]

-- what each event keeps from a position on is so up to a later one
pub along : (P : ℕ → Type 0) (low n : ℕ) → P low → ((l : ℕ) → low ≤ l → l < low + n → P l → P (suc l)) → (l : ℕ) → low ≤ l → l ≤ low + n → P l
along P low zero here keeps l a b = let same : low ≡ l = omega arith in subst P same here
along P low (suc n) here keeps l a b =
    elim (cases_eq l (low + suc n)) [
      | inl same ↦
          let last : P (low + n) = along P low n here (λ k c d p. keeps k c (omega arith) p) (low + n) (omega arith) (omega arith) in
          let next : P (suc (low + n)) = keeps (low + n) (omega arith) (omega arith) last in
          let e : suc (low + n) ≡ l = omega arith in
          subst P e next
      | inr ne ↦ along P low n here (λ k c d p. keeps k c (omega arith) p) l a (omega arith)
    ]

-- the phase of the ticket before a position
abbrev pub phase_at : ℕ → List Event → ℕ → ℕ → ℕ
phase_at n events t k = phase_of (at_position n events k) t

pub moves_at : (n : ℕ) (events : List Event) (t k : ℕ) (event : Event) → IsPossible n events → slice_get events k ≡ Some event
    → Moves (at_position n events k) event t (phase_at n events t k) (phase_at n events t (suc k))
moves_at n events t k event possible here =
    IfSome_at (step (at_position n events k) event) (at_position n events (suc k)) (λ new. Moves (at_position n events k) event t (phase_at n events t k) (phase_of new t))
    (next_at n events k event possible here) (step_moves (at_position n events k) event t (state_at n events k possible).place)

pub lend_phases : (n : ℕ) (events : List Event) (t k : ℕ) → IsPossible n events → Lends events t k → (phase_at n events t k ≡ 0) × (phase_at n events t (suc k) ≡ 1)
lend_phases n events t k possible here =
    IfSome_at (step (at_position n events k) (Lend t)) (at_position n events (suc k)) (λ new. (phase_at n events t k ≡ 0) × (phase_of new t ≡ 1))
    (next_at n events k (Lend t) possible here) (step_lends (at_position n events k) t)

pub win_state : (n : ℕ) (events : List Event) (t k : ℕ) → IsPossible n events → Wins n events t k → state_of (at_position n events k) t ≡ Some (Linked (head_of (at_position n events k)))
win_state n events t k possible win = IsSomeAnd_at (before n events k) (at_position n events k) (λ s. state_of s t ≡ Some (Linked (head_of s))) (before_is n events k possible) win.1

-- a won swing puts its ticket in front of the list
pub win_next : (n : ℕ) (events : List Event) (t k : ℕ) → IsPossible n events → Wins n events t k → at_position n events (suc k) ≡ listed_first (at_position n events k) t
win_next n events t k possible win =
    let e = next_at n events k (Swing t) possible win.0 in
    let w = step_wins (at_position n events k) t (win_state n events t k possible win) in
    cc (e, w)

pub win_phases : (n : ℕ) (events : List Event) (t k : ℕ) → IsPossible n events → Wins n events t k → (phase_at n events t k ≡ 1) × (phase_at n events t (suc k) ≡ 2)
win_phases n events t k possible win =
    let phases = won_phases (at_position n events k) t (win_state n events t k possible win) in
    (phases.0, ap (λ s. phase_of s t) (win_next n events t k possible win) ∙ phases.1)

pub back_first : (n : ℕ) (events : List Event) (t k : ℕ) → IsPossible n events → ComesBack n events t k → next_back (at_position n events k) ≡ Some t
back_first n events t k possible back = IsSomeAnd_at (before n events k) (at_position n events k) (λ s. next_back s ≡ Some t) (before_is n events k possible) back.1

pub back_phases : (n : ℕ) (events : List Event) (t k : ℕ) → IsPossible n events → ComesBack n events t k → (phase_at n events t k ≡ 3) × (phase_at n events t (suc k) ≡ 0)
back_phases n events t k possible back =
    IfSome_at (step (at_position n events k) Back) (at_position n events (suc k)) (λ new. (phase_at n events t k ≡ 3) × (phase_of new t ≡ 0))
    (next_at n events k Back possible back.0) (step_returns (at_position n events k) t (state_at n events k possible).place (back_first n events t k possible back))

pub take_phases : (n : ℕ) (events : List Event) (t k : ℕ) → IsPossible n events → TakesWhole events k
    → (phase_at n events t k ≡ 3 → ⊥) × (phase_at n events t k ≡ 2 → phase_at n events t (suc k) ≡ 3)
take_phases n events t k possible take =
    IfSome_at (step (at_position n events k) TakeWhole) (at_position n events (suc k)) (λ new. (phase_at n events t k ≡ 3 → ⊥) × (phase_at n events t k ≡ 2 → phase_of new t ≡ 3))
    (next_at n events k TakeWhole possible take) (step_takes (at_position n events k) t (state_at n events k possible).place)

-- The one way out of each phase.

pub leaves_carried : (n : ℕ) (events : List Event) (t k : ℕ) → IsPossible n events → k < length events
    → phase_at n events t k ≡ 1 → (phase_at n events t (suc k) ≡ 1 → ⊥) → Wins n events t k × (phase_at n events t (suc k) ≡ 2)
leaves_carried n events t k possible within here there =
    let event = event_at events k within in
    elim (moves_at n events t k event.0 possible event.1) [
      | stays same ↦ absurd (there (same ∙ here))
      | lends e a b ↦ absurd (omega arith)
      | wins e s a b ↦ ((event.1 ∙ ap Some e, IsSomeAnd_from (before n events k) (at_position n events k) (λ s. state_of s t ≡ Some (Linked (head_of s))) (before_is n events k possible) s), b)
      | takes e a b ↦ absurd (omega arith)
      | returns e s a b ↦ absurd (omega arith)
    ]

pub leaves_list : (n : ℕ) (events : List Event) (t k : ℕ) → IsPossible n events → k < length events
    → phase_at n events t k ≡ 2 → (phase_at n events t (suc k) ≡ 2 → ⊥) → TakesWhole events k × (phase_at n events t (suc k) ≡ 3)
leaves_list n events t k possible within here there =
    let event = event_at events k within in
    elim (moves_at n events t k event.0 possible event.1) [
      | stays same ↦ absurd (there (same ∙ here))
      | lends e a b ↦ absurd (omega arith)
      | wins e s a b ↦ absurd (omega arith)
      | takes e a b ↦ (event.1 ∙ ap Some e, b)
      | returns e s a b ↦ absurd (omega arith)
    ]

pub leaves_walk : (n : ℕ) (events : List Event) (t k : ℕ) → IsPossible n events → k < length events
    → phase_at n events t k ≡ 3 → (phase_at n events t (suc k) ≡ 3 → ⊥) → ComesBack n events t k × (phase_at n events t (suc k) ≡ 0)
leaves_walk n events t k possible within here there =
    let event = event_at events k within in
    elim (moves_at n events t k event.0 possible event.1) [
      | stays same ↦ absurd (there (same ∙ here))
      | lends e a b ↦ absurd (omega arith)
      | wins e s a b ↦ absurd (omega arith)
      | takes e a b ↦ absurd (omega arith)
      | returns e s a b ↦ ((event.1 ∙ ap Some e, IsSomeAnd_from (before n events k) (at_position n events k) (λ s. next_back s ≡ Some t) (before_is n events k possible) s), b)
    ]

pub leaves_idle : (n : ℕ) (events : List Event) (t k : ℕ) → IsPossible n events → k < length events
    → phase_at n events t k ≡ 0 → (phase_at n events t (suc k) ≡ 0 → ⊥) → Lends events t k
leaves_idle n events t k possible within here there =
    let event = event_at events k within in
    elim (moves_at n events t k event.0 possible event.1) [
      | stays same ↦ absurd (there (same ∙ here))
      | lends e a b ↦ event.1 ∙ ap Some e
      | wins e s a b ↦ absurd (omega arith)
      | takes e a b ↦ absurd (omega arith)
      | returns e s a b ↦ absurd (omega arith)
    ]

-- The course: carried up to the won swing, listed up to the take-whole, walked until it comes back, idle until lent again.
record Course (n : ℕ) (events : List Event) (t lent again : ℕ) : Type 0 where
  won : ℕ
  taken : ℕ
  came_back : ℕ
  lent_won : lent < won
  won_taken : won < taken
  taken_back : taken < came_back
  back_again : came_back < again
  carried : (l : ℕ) → lent < l → l ≤ won → phase_at n events t l ≡ 1
  listed : (l : ℕ) → won < l → l ≤ taken → phase_at n events t l ≡ 2
  walked : (l : ℕ) → taken < l → l ≤ came_back → phase_at n events t l ≡ 3
  idle : (l : ℕ) → came_back < l → l ≤ again → phase_at n events t l ≡ 0
  win : Wins n events t won
  take : TakesWhole events taken
  return : ComesBack n events t came_back

course : (n : ℕ) (events : List Event) → IsPossible n events → (t lent again : ℕ) → AreSuccessive (Lends events t) lent again → Course n events t lent again
course n events possible t lent again two_lends =
    let f : ℕ → ℕ = phase_at n events t in
    let end : again < length events = slice_get_within events again (Lend t) two_lends.at_second in
    let order : lent < again = two_lends.order in
    let at_end : f again ≡ 0 = (lend_phases n events t again possible two_lends.at_second).0 in
    let a : Change f 1 (suc lent) again =
    first_change f 1 (again - suc lent) (suc lent) again (omega arith) (lend_phases n events t lent possible two_lends.at_first).1 (λ e. omega arith) in
    let a_to : a.position < again = a.to_high in
    let win = leaves_carried n events t a.position possible (omega arith) (a.same a.position a.from_low (omega arith)) a.changed in
    let b : Change f 2 (suc a.position) again = first_change f 2 (again - suc a.position) (suc a.position) again (omega arith) win.1 (λ e. omega arith) in
    let b_to : b.position < again = b.to_high in
    let take = leaves_list n events t b.position possible (omega arith) (b.same b.position b.from_low (omega arith)) b.changed in
    let c : Change f 3 (suc b.position) again = first_change f 3 (again - suc b.position) (suc b.position) again (omega arith) take.1 (λ e. omega arith) in
    let c_to : c.position < again = c.to_high in
    let return = leaves_walk n events t c.position possible (omega arith) (c.same c.position c.from_low (omega arith)) c.changed in
    let a_from : suc lent ≤ a.position = a.from_low in
    let b_from : suc a.position ≤ b.position = b.from_low in
    let c_from : suc b.position ≤ c.position = c.from_low in
    let stay : (l : ℕ) → suc c.position ≤ l → l < suc c.position + (again - suc c.position) → f l ≡ 0 → f (suc l) ≡ 0 =
    λ l low high here. elim (cases_eq (f (suc l)) 0) [
      | inl e ↦ e
      | inr ne ↦ absurd (two_lends.none_between l (omega arith, omega arith) (leaves_idle n events t l possible (omega arith) here ne))
    ] in
    record {
      won = a.position;
      taken = b.position;
      came_back = c.position;
      lent_won = omega arith;
      won_taken = omega arith;
      taken_back = omega arith;
      back_again = c_to;
      carried = λ l low high. a.same l (omega arith) high;
      listed = λ l low high. b.same l (omega arith) high;
      walked = λ l low high. c.same l (omega arith) high;
      idle = λ l low high. along (λ k. f k ≡ 0) (suc c.position) (again - suc c.position) return.1 stay l (omega arith) (omega arith);
      win = win.0;
      take = take.0;
      return = return.0;
    }

-- Where a phase stands in the course.
at_carried : (n : ℕ) (events : List Event) (t lent again : ℕ) (c : Course n events t lent again) (l : ℕ) → lent < l → l ≤ again → phase_at n events t l ≡ 1 → l ≤ c.won
at_carried n events t lent again c l low high here =
    elim (cases_lt c.won l) [
      | inr before_win ↦ before_win
      | inl after_win ↦ elim (cases_lt c.taken l) [
        | inr before_take ↦ absurd (omega (arith, c.listed l after_win before_take))
        | inl after_take ↦ elim (cases_lt c.came_back l) [
          | inr before_back ↦ absurd (omega (arith, c.walked l after_take before_back))
          | inl after_back ↦ absurd (omega (arith, c.idle l after_back high))
        ]
      ]
    ]

at_listed : (n : ℕ) (events : List Event) (t lent again : ℕ) (c : Course n events t lent again) (l : ℕ) → lent < l → l ≤ again → phase_at n events t l ≡ 2 → (c.won < l) × (l ≤ c.taken)
at_listed n events t lent again c l low high here =
    elim (cases_lt c.won l) [
      | inr before_win ↦ absurd (omega (arith, c.carried l low before_win))
      | inl after_win ↦ elim (cases_lt c.taken l) [
        | inr before_take ↦ (after_win, before_take)
        | inl after_take ↦ elim (cases_lt c.came_back l) [
          | inr before_back ↦ absurd (omega (arith, c.walked l after_take before_back))
          | inl after_back ↦ absurd (omega (arith, c.idle l after_back high))
        ]
      ]
    ]

at_walked : (n : ℕ) (events : List Event) (t lent again : ℕ) (c : Course n events t lent again) (l : ℕ) → lent < l → l ≤ again → phase_at n events t l ≡ 3 → (c.taken < l) × (l ≤ c.came_back)
at_walked n events t lent again c l low high here =
    elim (cases_lt c.won l) [
      | inr before_win ↦ absurd (omega (arith, c.carried l low before_win))
      | inl after_win ↦ elim (cases_lt c.taken l) [
        | inr before_take ↦ absurd (omega (arith, c.listed l after_win before_take))
        | inl after_take ↦ elim (cases_lt c.came_back l) [
          | inr before_back ↦ (after_take, before_back)
          | inl after_back ↦ absurd (omega (arith, c.idle l after_back high))
        ]
      ]
    ]

at_idle : (n : ℕ) (events : List Event) (t lent again : ℕ) (c : Course n events t lent again) (l : ℕ) → lent < l → l ≤ again → phase_at n events t l ≡ 0 → c.came_back < l
at_idle n events t lent again c l low high here =
    elim (cases_lt c.won l) [
      | inr before_win ↦ absurd (omega (arith, c.carried l low before_win))
      | inl after_win ↦ elim (cases_lt c.taken l) [
        | inr before_take ↦ absurd (omega (arith, c.listed l after_win before_take))
        | inl after_take ↦ elim (cases_lt c.came_back l) [
          | inr before_back ↦ absurd (omega (arith, c.walked l after_take before_back))
          | inl after_back ↦ after_back
        ]
      ]
    ]

pub each_returns_once : (n : ℕ) (events : List Event) → IsPossible n events → (t lent again : ℕ) → AreSuccessive (Lends events t) lent again → ReturnsOnce n events t lent again
each_returns_once n events possible t lent again two_lends =
    let c : Course n events t lent again = course n events possible t lent again two_lends in
    let lent_won : lent < c.won = c.lent_won in
    let won_taken : c.won < c.taken = c.won_taken in
    let taken_back : c.taken < c.came_back = c.taken_back in
    let back_again : c.came_back < again = c.back_again in
    record {
      won = c.won;
      came_back = c.came_back;
      one_win = record {
        between = (lent_won, omega arith);
        holds = c.win;
        only = λ other between win.
            let phases = win_phases n events t other possible win in
            let low : lent < other = between.0 in
            let high : other < again = between.1 in
            omega (arith, at_carried n events t lent again c other low (omega arith) phases.0, (at_listed n events t lent again c (suc other) (omega arith) high phases.1).0);
      };
      one_return = record {
        between = (omega arith, back_again);
        holds = c.return;
        only = λ other between back.
            let phases = back_phases n events t other possible back in
            let low : lent < other = between.0 in
            let high : other < again = between.1 in
            omega (arith, (at_walked n events t lent again c other low (omega arith) phases.0).1, at_idle n events t lent again c (suc other) (omega arith) high phases.1);
      };
      win_first = omega arith;
      one_taking = (
        c.taken,
        record {
          between = (won_taken, taken_back);
          holds = c.take;
          only = λ other between take.
              let low : c.won < other = between.0 in
              let high : other < c.came_back = between.1 in
              let phases = take_phases n events t other possible take in
              elim (cases_lt c.taken other) [
                | inl late ↦ absurd (phases.0 (c.walked other late (omega arith)))
                | inr early ↦
                    let next : phase_at n events t (suc other) ≡ 3 = phases.1 (c.listed other low early) in
                    omega (arith, (at_walked n events t lent again c (suc other) (omega arith) (omega arith) next).0)
              ];
        },
      );
    }
