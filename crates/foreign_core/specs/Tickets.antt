-- The foreign free list at one moment, and what each event makes of it.
use Rattle.std.specs.Prelude.{ℕ, cond, nat_eq, List, [], ◌∷◌, map, replicate, Option, Some, None, slice_get, slice_set}
use Rattle.std.specs.Option.{option_eq}
use Rattle.foreign_core.specs.declared.event.Event.{Event}
use Rattle.foreign_core.specs.declared.event.Event.TheVariants.{Lend, Look, Link, Swing, TakeWhole, Back}
use Rattle.foreign_core.specs.declared.ticket_state.TicketState.{TicketState}
use Rattle.foreign_core.specs.declared.ticket_state.TicketState.TheVariants.{Idle, Carried, Looked, Linked, Listed, Walked}

-- the tickets of one owner: the state of each by its number, those on the list, newest first, and the walk, which
-- is what was taken and is not yet back, the next to come back first
pub record Tickets : Type 0 where
  pub states : List TicketState
  pub listed : List ℕ
  pub walk : List ℕ

-- this many tickets, all of them idle
abbrev pub start : ℕ → Tickets
start n = record { states = replicate n Idle; listed = []; walk = [] }

-- the state of a ticket, and none where there is no such ticket
abbrev pub state_of : Tickets → ℕ → Option TicketState
state_of s t = slice_get s.states t

-- the ticket at the head of the list, and the next to come back, if there is one
abbrev pub head_of : Tickets → Option ℕ
head_of s = slice_get s.listed 0

abbrev pub next_back : Tickets → Option ℕ
next_back s = slice_get s.walk 0

-- one ticket changes its state, and nothing else changes
abbrev pub becomes : Tickets → ℕ → TicketState → Tickets
becomes s t state = record { states = slice_set s.states t state; listed = s.listed; walk = s.walk }

-- a ticket comes on the list, as its head
abbrev pub listed_first : Tickets → ℕ → Tickets
listed_first s t = record { states = slice_set s.states t Listed; listed = t ∷ s.listed; walk = s.walk }

-- what a take-whole makes of a ticket's state
abbrev pub taken : TicketState → TicketState
taken Idle = Idle
taken Carried = Carried
taken (Looked expected) = Looked expected
taken (Linked expected) = Linked expected
taken Listed = Walked
taken Walked = Walked

-- Each event, by the state of the ticket that it names. None: it is not possible.
abbrev pub lend : Tickets → ℕ → Option TicketState → Option Tickets
lend s t (Some Idle) = Some (becomes s t Carried)
lend s t (Some Carried) = None
lend s t (Some (Looked expected)) = None
lend s t (Some (Linked expected)) = None
lend s t (Some Listed) = None
lend s t (Some Walked) = None
lend s t None = None

abbrev pub look : Tickets → ℕ → Option TicketState → Option Tickets
look s t (Some Idle) = None
look s t (Some Carried) = Some (becomes s t (Looked (head_of s)))
look s t (Some (Looked expected)) = None
look s t (Some (Linked expected)) = None
look s t (Some Listed) = None
look s t (Some Walked) = None
look s t None = None

abbrev pub link : Tickets → ℕ → Option TicketState → Option Tickets
link s t (Some Idle) = None
link s t (Some Carried) = None
link s t (Some (Looked expected)) = Some (becomes s t (Linked expected))
link s t (Some (Linked expected)) = None
link s t (Some Listed) = None
link s t (Some Walked) = None
link s t None = None

-- won where the head is still the expected one, and lost otherwise
abbrev pub swing : Tickets → ℕ → Option TicketState → Option Tickets
swing s t (Some Idle) = None
swing s t (Some Carried) = None
swing s t (Some (Looked expected)) = None
swing s t (Some (Linked expected)) = Some (cond (option_eq nat_eq (head_of s) expected) (listed_first s t) (becomes s t Carried))
swing s t (Some Listed) = None
swing s t (Some Walked) = None
swing s t None = None

-- The list becomes the walk, by the walk that there is; and the first of the walk is idle.
abbrev pub take_whole : Tickets → List ℕ → Option Tickets
take_whole s [] = Some (record { states = map taken s.states; listed = []; walk = s.listed })
take_whole s (t ∷ rest) = None

abbrev pub back : Tickets → List ℕ → Option Tickets
back s [] = None
back s (t ∷ rest) = Some (record { states = slice_set s.states t Idle; listed = s.listed; walk = rest })

-- the tickets after an event, and none where the event is not possible
abbrev pub step : Tickets → Event → Option Tickets
step s (Lend t) = lend s t (state_of s t)
step s (Look t) = look s t (state_of s t)
step s (Link t) = link s t (state_of s t)
step s (Swing t) = swing s t (state_of s t)
step s TakeWhole = take_whole s s.walk
step s Back = back s s.walk
