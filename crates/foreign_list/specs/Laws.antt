-- What the rule says of every table, in the words of the core.
use Rattle.std.specs.Prelude.{◌≡◌, ◌≢◌, ℕ, suc, true, false, List, [], ◌∷◌, ◌++◌, Option, Some, None, slice_get, slice_set}
use mathlib.Core.Option.{some}
use lib.ListN.{get_elem?}
use Rattle.layout.specs.Sizes as sizes
use Rattle.foreign_core.specs.Tickets.{Tickets, start, step}
use Rattle.foreign_core.specs.Places.{InOneState}
use Rattle.foreign_core.specs.Histories.{run}
use Rattle.foreign_core.specs.declared.event.Event.{Event}
use Rattle.foreign_core.specs.declared.event.Event.TheVariants as event
use Rattle.raw_range.specs.Memory.{Lent}
use Rattle.atomic_table.specs.Table.{stepped, keeps, takes, gives}
use Rattle.foreign_list.specs.declared.piece_id.PieceId.{PieceId}
use Rattle.foreign_list.specs.declared.views.Holder.{Holder}
use Rattle.foreign_list.specs.declared.views.Ledger.{Ledger}
use Rattle.foreign_list.specs.declared.views.View.{View}
use Rattle.foreign_list.specs.declared.views.View.TheVariants.{Owner, Pass, Spent}
use Rattle.foreign_list.specs.declared.views.Stage.TheVariants.{Carry, Looked, Linked}
use Rattle.foreign_list.specs.Blocks.{piece_id_of}
use Rattle.foreign_list.specs.inside.Words.{Table, word_at, link_to, chain}
use Rattle.foreign_list.specs.inside.Views.{carry, at_stage, sent_back, lent_out, took_whole, walked, put_home}
use Rattle.foreign_list.specs.inside.History.{Shows, Counted}
use Rattle.foreign_list.specs.inside.Rule.{IsConsistent}

-- the seat has this view
abbrev pub Has : Table → ℕ → View → Type 0
Has s id view = get_elem? s.views id ≡ some view

abbrev pub head : Table → ℕ
head s = word_at s.words 0

-- the tickets on the list: the chain from the head, read no further than there are tickets
abbrev pub listed_in : Table → List ℕ
listed_in s = chain sizes.tickets s.words (head s)

-- The table shows tickets. Those on the list are the chain from the head, those walked are the one in the owner's hand and the
-- chain from the walk's first, and each ticket's state is that of its place. Possible events led to them from all idle, the
-- counts are those of these events, and each ticket is in one state. A pass is the only one with its ticket, and has the piece that
-- was lent with it.
pub record ShowsCore (s : Table) (tickets : Tickets) : Type 0 where
  pub ledger : Ledger
  pub is_ledger : Has s 0 (Owner ledger)
  pub walk_is : chain sizes.tickets s.words (link_to ledger.walk) ≡ ledger.walk
  pub shows : Shows ledger (listed_in s) s.views tickets
  pub events : List Event
  pub ran : run (start sizes.tickets) events ≡ Some tickets
  pub counted : Counted ledger s.views tickets events
  pub one_state : InOneState sizes.tickets tickets
  pub one_pass : (i j : ℕ) (e f : Holder) → Has s i (Pass e) → Has s j (Pass f) → e.ticket ≡ f.ticket → i ≡ j
  pub is_lent : (id : ℕ) (e : Holder) → Has s id (Pass e) → slice_get ledger.lent e.ticket ≡ Some (Some e.piece_id)

-- so it is at every moment
abbrev pub EachShowsCore : Type 0
EachShowsCore = (s : Table) → IsConsistent s → (tickets : Tickets) × ShowsCore s tickets

-- Each step is one event of the core; the owner's walk is none, nor is its look at a list on which there is a ticket.

-- from a table that keeps the rule, the step leads to one that does, and its tickets are those that the event makes
abbrev pub Leads : Table → Event → Table → Type 0
Leads s event s' = (k : IsConsistent s) → (k' : IsConsistent s') × (step k.history.tickets event ≡ Some k'.history.tickets)

-- the same of a step that is no event
abbrev pub Stays : Table → Table → Type 0
Stays s s' = (k : IsConsistent s) → (k' : IsConsistent s') × (k'.history.tickets ≡ k.history.tickets)

abbrev pub Slots : Type 0
Slots = List (ℕ × Option Lent)

-- the owner lends a ticket: a seat more
abbrev pub split_off : Table → ℕ → PieceId → Ledger → Table
split_off s t piece_id d =
    record { words = s.words; homes = s.homes; views = slice_set s.views 0 (Owner (lent_out t piece_id d)) ++ Pass (carry t piece_id) ∷ [] }

-- the head is read, and the pass expects what it was
abbrev pub looked : Table → Holder → View
looked s e = Pass (at_stage e (Looked (head s)))

pub record EachStepIsOneEvent : Type 0 where
  pub lend : (s : Table) (d : Ledger) (t : ℕ) (piece_id : PieceId) → Has s 0 (Owner d) → slice_get d.lent t ≡ Some None
      → Leads s (event.Lend t) (split_off s t piece_id d)
  pub look_first : (s : Table) (id : ℕ) (c : Slots) (e : Holder) → Has s id (Pass e) → e.stage ≡ Carry → e.has_slot ≡ false
      → Leads s (event.Look e.ticket) (stepped s 0 (head s) id c (looked s e) (takes e.ticket None))
  pub look_again : (s : Table) (id : ℕ) (c : Slots) (e : Holder) → Has s id (Pass e) → e.stage ≡ Carry → e.has_slot ≡ true
      → Leads s (event.Look e.ticket) (stepped s 0 (head s) id c (looked s e) keeps)
  pub link : (s : Table) (id : ℕ) (c : Slots) (e : Holder) (x : ℕ) → Has s id (Pass e) → e.stage ≡ Looked x
      → Leads s (event.Link e.ticket) (stepped s (suc e.ticket) x id c (Pass (at_stage e (Linked x))) keeps)
  pub win : (s : Table) (id : ℕ) (more : Slots) (e : Holder) (x : ℕ) (piece : Lent) → Has s id (Pass e) → e.stage ≡ Linked x
      → head s ≡ x → piece_id_of piece ≡ e.piece_id
      → Leads s (event.Swing e.ticket) (stepped s 0 (suc e.ticket) id ((e.ticket, Some piece) ∷ more) Spent gives)
  pub lose : (s : Table) (id : ℕ) (c : Slots) (e : Holder) (x : ℕ) → Has s id (Pass e) → e.stage ≡ Linked x → head s ≢ x
      → Leads s (event.Swing e.ticket) (stepped s 0 (head s) id c (Pass (sent_back e (head s))) keeps)
  pub take : (s : Table) (c : Slots) (d : Ledger) → Has s 0 (Owner d) → d.walk ≡ [] → d.hand ≡ None
      → Leads s event.TakeWhole (stepped s 0 0 0 c (Owner (took_whole (listed_in s) d)) keeps)
  pub take_none : (s : Table) (c : Slots) (d : Ledger) → Has s 0 (Owner d) → d.walk ≡ [] → d.hand ≡ None → head s ≡ 0
      → Leads s event.TakeWhole (stepped s 0 (head s) 0 c (Owner (took_whole (listed_in s) d)) keeps)
  pub see : (s : Table) (c : Slots) (d : Ledger) → Has s 0 (Owner d) → head s ≢ 0
      → Stays s (stepped s 0 (head s) 0 c (Owner d) keeps)
  pub walk : (s : Table) (c : Slots) (d : Ledger) (t : ℕ) (left : List ℕ) (piece : Lent) → Has s 0 (Owner d)
      → d.walk ≡ t ∷ left → d.hand ≡ None
      → Stays s (stepped s (suc t) (word_at s.words (suc t)) 0 c (Owner (walked t left d)) (takes t (Some piece)))
  pub back : (s : Table) (more : Slots) (d : Ledger) (t : ℕ) → Has s 0 (Owner d) → d.hand ≡ Some t
      → Leads s event.Back (stepped s (suc t) (word_at s.words (suc t)) 0 ((t, None) ∷ more) (Owner (put_home t d)) gives)
