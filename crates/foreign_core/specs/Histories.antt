-- Histories: events one after another, begun with all tickets idle.
--
-- A position in a history counts the events before it, so the first event has position 0.
use Rattle.std.specs.Prelude.{◌≡◌, ℕ, ◌<◌, List, [], ◌∷◌, take, Option, Some, IsSome, IsSomeAnd, slice_get}
use Rattle.std.specs.Option.{option_and_then}
use Rattle.foreign_core.specs.Places.{InOneState}
use Rattle.foreign_core.specs.Tickets.{Tickets, start, state_of, head_of, next_back, step}
use Rattle.foreign_core.specs.declared.event.Event.{Event}
use Rattle.foreign_core.specs.declared.event.Event.TheVariants.{Lend, Swing, TakeWhole, Back}
use Rattle.foreign_core.specs.declared.ticket_state.TicketState.TheVariants.{Linked}

-- the tickets after these events, and none where one of them is not possible
abbrev pub run : Tickets → List Event → Option Tickets
run s [] = Some s
run s (event ∷ events) = option_and_then (λ next. run next events) (step s event)

-- each event of the history of so many tickets is possible when its turn comes
abbrev pub IsPossible : ℕ → List Event → Type 0
IsPossible tickets events = IsSome (run (start tickets) events)

-- the tickets just before the event at a position
abbrev pub before : ℕ → List Event → ℕ → Option Tickets
before tickets events position = run (start tickets) (take position events)

-- What happens at a position.

abbrev pub Lends : List Event → ℕ → ℕ → Type 0
Lends events t position = slice_get events position ≡ Some (Lend t)

-- a swing that finds the head that its ticket expects
abbrev pub Wins : ℕ → List Event → ℕ → ℕ → Type 0
Wins tickets events t position =
    (slice_get events position ≡ Some (Swing t))
    × IsSomeAnd (before tickets events position) (λ s. state_of s t ≡ Some (Linked (head_of s)))

abbrev pub TakesWhole : List Event → ℕ → Type 0
TakesWhole events position = slice_get events position ≡ Some TakeWhole

-- the ticket is the first of the walk, and comes back
abbrev pub ComesBack : ℕ → List Event → ℕ → ℕ → Type 0
ComesBack tickets events t position =
    (slice_get events position ≡ Some Back)
    × IsSomeAnd (before tickets events position) (λ s. next_back s ≡ Some t)

-- Positions.

abbrev pub IsBetween : ℕ → ℕ → ℕ → Type 0
IsBetween low high position = (low < position) × (position < high)

-- it is so at this position, and at no other between the two
pub record IsOnlyBetween (low high : ℕ) (P : ℕ → Type 0) (position : ℕ) : Type 0 where
  pub between : IsBetween low high position
  pub holds : P position
  pub only : (other : ℕ) → IsBetween low high other → P other → other ≡ position

abbrev pub ExactlyOneBetween : ℕ → ℕ → (ℕ → Type 0) → Type 0
ExactlyOneBetween low high P = (position : ℕ) × IsOnlyBetween low high P position

abbrev pub NoneBetween : ℕ → ℕ → (ℕ → Type 0) → Type 0
NoneBetween low high P = (other : ℕ) → IsBetween low high other → P other → ⊥

-- it is so at both positions and nowhere between them
pub record AreSuccessive (P : ℕ → Type 0) (first second : ℕ) : Type 0 where
  pub order : first < second
  pub at_first : P first
  pub at_second : P second
  pub none_between : NoneBetween first second P

-- the first position after another at which it is so
pub record IsNextAfter (earlier : ℕ) (P : ℕ → Type 0) (position : ℕ) : Type 0 where
  pub later : earlier < position
  pub holds : P position
  pub none_between : NoneBetween earlier position P

-- The laws.

-- after every possible history each ticket is in one state, and stands where its state says
abbrev pub EachInOneState : Type 0
EachInOneState =
    (tickets : ℕ) (events : List Event) (s : Tickets) → run (start tickets) events ≡ Some s → InOneState tickets s

-- between the two positions one swing of the ticket wins, and after it the ticket comes back, once, with one take-whole
-- between the two
pub record ReturnsOnce (tickets : ℕ) (events : List Event) (t lent again : ℕ) : Type 0 where
  pub won : ℕ
  pub came_back : ℕ
  pub one_win : IsOnlyBetween lent again (Wins tickets events t) won
  pub one_return : IsOnlyBetween lent again (ComesBack tickets events t) came_back
  pub win_first : won < came_back
  pub one_taking : ExactlyOneBetween won came_back (TakesWhole events)

-- so it is between two successive lends of a ticket
abbrev pub EachReturnsOnce : Type 0
EachReturnsOnce =
    (tickets : ℕ) (events : List Event) → IsPossible tickets events → (t lent again : ℕ)
    → AreSuccessive (Lends events t) lent again → ReturnsOnce tickets events t lent again

-- the take-whole at the second position takes the ticket whose swing won at the first: no other comes between
pub record Takes (tickets : ℕ) (events : List Event) (t won taken : ℕ) : Type 0 where
  pub win : Wins tickets events t won
  pub next : IsNextAfter won (TakesWhole events) taken

-- of two tickets that one take-whole took, that which won later comes back earlier
abbrev pub NewestReturnsFirst : Type 0
NewestReturnsFirst =
    (tickets : ℕ) (events : List Event) → IsPossible tickets events
    → (old new won_old won_new taken came_back : ℕ) → won_old < won_new
    → Takes tickets events old won_old taken → Takes tickets events new won_new taken
    → IsNextAfter taken (ComesBack tickets events old) came_back
    → ExactlyOneBetween taken came_back (ComesBack tickets events new)

-- between a take-whole and the next, each ticket that the first took comes back, once
abbrev pub EachTakenReturns : Type 0
EachTakenReturns =
    (tickets : ℕ) (events : List Event) → IsPossible tickets events → (t won taken next : ℕ)
    → Takes tickets events t won taken → AreSuccessive (TakesWhole events) taken next
    → ExactlyOneBetween taken next (ComesBack tickets events t)
