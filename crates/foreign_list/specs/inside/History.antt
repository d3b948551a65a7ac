-- The core state that the list shows, and the events that led to it.
use Rattle.std.specs.Prelude.{◌≡◌, ℕ, ◌+◌, ◌<◌, List, [], ◌∷◌, ◌++◌, length, Option, Some, None, slice_get, sum_by}
use mathlib.Core.Option.{some}
use lib.ListN.{get_elem?}
use Rattle.layout.specs.Sizes as sizes
use Rattle.foreign_core.specs.Tickets.{Tickets, start, state_of, step}
use Rattle.foreign_core.specs.Histories.{run}
use Rattle.foreign_core.specs.declared.event.Event.{Event}
use Rattle.foreign_core.specs.declared.event.Event.TheVariants as event
use Rattle.foreign_core.specs.declared.ticket_state.TicketState.{TicketState}
use Rattle.foreign_core.specs.declared.ticket_state.TicketState.TheVariants as core
use Rattle.foreign_list.specs.declared.views.Holder.{Holder}
use Rattle.foreign_list.specs.declared.views.Ledger.{Ledger}
use Rattle.foreign_list.specs.declared.views.View.{View}
use Rattle.foreign_list.specs.declared.views.View.TheVariants.{Pass}
use Rattle.foreign_list.specs.declared.views.Stage.{Stage}
use Rattle.foreign_list.specs.declared.views.Stage.TheVariants.{Carry, Looked, Linked}
use Rattle.foreign_list.specs.inside.Words.{times, ticket_of}
use Rattle.foreign_list.specs.inside.Views.{spent_in}

abbrev pub shown : Stage → TicketState
shown Carry = core.Carried
shown (Looked expected) = core.Looked (ticket_of expected)
shown (Linked expected) = core.Linked (ticket_of expected)

abbrev pub in_hand : Option ℕ → List ℕ
in_hand None = []
in_hand (Some t) = t ∷ []

-- the state of each ticket is that of the place where it is
pub record Shows (ledger : Ledger) (listed : List ℕ) (views : List View) (c : Tickets) : Type 0 where
  pub number : length c.states ≡ sizes.tickets
  pub listed_are : c.listed ≡ listed
  pub walk_is : c.walk ≡ in_hand ledger.hand ++ ledger.walk
  pub idle : (t : ℕ) → slice_get ledger.lent t ≡ Some None → state_of c t ≡ Some core.Idle
  pub passes : (j : ℕ) (e : Holder) → get_elem? views j ≡ some (Pass e) → state_of c e.ticket ≡ Some (shown e.stage)
  pub on_list : (t : ℕ) → 0 < times t listed → state_of c t ≡ Some core.Listed
  pub on_walk : (t : ℕ) → 0 < times t c.walk → state_of c t ≡ Some core.Walked

-- 1 where the event is of this kind
abbrev pub lend_in : Event → ℕ
lend_in (event.Lend t) = 1
lend_in _ = 0

abbrev pub take_whole_in : Event → ℕ
take_whole_in event.TakeWhole = 1
take_whole_in _ = 0

abbrev pub back_in : Event → ℕ
back_in event.Back = 1
back_in _ = 0

-- The owner counts the lends and the take-wholes of the history. As many passes are spent as tickets are on the list, are walked
-- or came back: a pass is spent only where its ticket came on the list.
pub record Counted (ledger : Ledger) (views : List View) (c : Tickets) (events : List Event) : Type 0 where
  pub lends : ledger.lends ≡ sum_by lend_in events
  pub take_wholes : ledger.take_wholes ≡ sum_by take_whole_in events
  pub spent : sum_by spent_in views ≡ length c.listed + length c.walk + sum_by back_in events

-- possible events led to what the list shows
pub record History (ledger : Ledger) (listed : List ℕ) (views : List View) : Type 0 where
  pub tickets : Tickets
  pub shows : Shows ledger listed views tickets
  pub events : List Event
  pub ran : run (start sizes.tickets) events ≡ Some tickets
  pub counted : Counted ledger views tickets events

-- the event leads on
pub record NextHistory (before : Tickets) (event : Event) (ledger : Ledger) (listed : List ℕ) (views : List View) : Type 0 where
  pub history : History ledger listed views
  pub step_is : step before event ≡ Some history.tickets

-- no event
pub record SameHistory (before : Tickets) (ledger : Ledger) (listed : List ℕ) (views : List View) : Type 0 where
  pub history : History ledger listed views
  pub step_is : history.tickets ≡ before
