-- Where tickets stand: on the list, on the walk, or on neither.
use Rattle.std.specs.Prelude.{◌≡◌, ℕ, ◌+◌, cond, nat_eq, List, [], ◌∷◌, length, Option, Some, None}
use Rattle.foreign_core.specs.Tickets.{Tickets, state_of}
use Rattle.foreign_core.specs.declared.ticket_state.TicketState.{TicketState}
use Rattle.foreign_core.specs.declared.ticket_state.TicketState.TheVariants.{Idle, Carried, Looked, Linked, Listed, Walked}

-- how often a ticket stands on a list of tickets
abbrev pub times_on : List ℕ → ℕ → ℕ
times_on [] t = 0
times_on (first ∷ rest) t = cond (nat_eq t first) 1 0 + times_on rest t

-- how often a ticket of this state stands on the list, and on the walk
abbrev pub listed_times : Option TicketState → ℕ
listed_times (Some Listed) = 1
listed_times _ = 0

abbrev pub walked_times : Option TicketState → ℕ
walked_times (Some Walked) = 1
walked_times _ = 0

-- a ticket of this state is there, and stands neither on the list nor on the walk
abbrev pub IsOff : Option TicketState → Type 0
IsOff (Some Idle) = Unit {0}
IsOff (Some Carried) = Unit {0}
IsOff (Some (Looked expected)) = Unit {0}
IsOff (Some (Linked expected)) = Unit {0}
IsOff (Some Listed) = ⊥
IsOff (Some Walked) = ⊥
IsOff None = ⊥

-- each ticket stands where its state says: on the list once if it is listed, on the walk once if it is walked, and
-- nowhere else
pub record InOnePlace (s : Tickets) : Type 0 where
  pub on_list : (t : ℕ) → times_on s.listed t ≡ listed_times (state_of s t)
  pub on_walk : (t : ℕ) → times_on s.walk t ≡ walked_times (state_of s t)

-- each of so many tickets is in one state, and stands there
pub record InOneState (tickets : ℕ) (s : Tickets) : Type 0 where
  pub number : length s.states ≡ tickets
  pub place : InOnePlace s
