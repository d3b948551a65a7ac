-- What each step at the table tells the seat that makes it.
use Rattle.std.specs.Prelude.{◌≡◌, ◌≢◌, ◌≤◌, ℕ, List, [], ◌∷◌, Option, Some, None, slice_get}
use Rattle.layout.specs.Sizes as sizes
use Rattle.raw_range.specs.Memory.{Lent}
use Rattle.atomic_table.specs.Table.{Me, rest}
use Rattle.foreign_list.specs.declared.views.Holder.{Holder}
use Rattle.foreign_list.specs.declared.views.Ledger.{Ledger}
use Rattle.foreign_list.specs.declared.views.View.{View}
use Rattle.foreign_list.specs.declared.views.View.TheVariants.{Owner, Pass, Spent}
use Rattle.foreign_list.specs.declared.views.Stage.TheVariants.{Looked, Linked}
use Rattle.foreign_list.specs.Blocks.{piece_id_of}
use Rattle.foreign_list.specs.inside.Words.{link_to}
use Rattle.foreign_list.specs.inside.Views.{at_stage, sent_back, took_whole, walked, put_home}

-- a seat's view and the slots that it has taken
abbrev pub SeatState : Type 0
SeatState = Me (Option Lent) View

-- Of a step by a pass: the holder before, the seat before, the number found or stored, and the seat after.

abbrev pub of_pass : (Holder → SeatState → ℕ → SeatState → Type 0) → View → SeatState → ℕ → SeatState → Type 0
of_pass then (Owner ledger) m found n = Unit {0}
of_pass then (Pass e) m found n = then e m found n
of_pass then Spent m found n = Unit {0}

-- the first look takes the slot, which is empty
abbrev pub first_look : Holder → SeatState → ℕ → SeatState → Type 0
first_look e m found n = (n.0 ≡ Pass (at_stage e (Looked found))) × (n.1 ≡ (e.ticket, None) ∷ m.1) × (found ≤ sizes.tickets)

abbrev pub look_again : Holder → SeatState → ℕ → SeatState → Type 0
look_again e m found n = (n.0 ≡ Pass (at_stage e (Looked found))) × (n.1 ≡ m.1) × (found ≤ sizes.tickets)

abbrev pub link : Holder → SeatState → ℕ → SeatState → Type 0
link e m stored n = (n.0 ≡ Pass (at_stage e (Linked stored))) × (n.1 ≡ m.1)

-- won where the head is as expected: the pass is spent and its slot is back. Else it carries again
pub record Swung (expected : ℕ) (e : Holder) (m : SeatState) (found : ℕ) (n : SeatState) : Type 0 where
  pub low : found ≤ sizes.tickets
  pub won : found ≡ expected → (n.0 ≡ Spent) × (n.1 ≡ rest m.1)
  pub lost : found ≢ expected → (n.0 ≡ Pass (sent_back e found)) × (n.1 ≡ m.1)

-- Of a step by the owner: the ledger before, and the rest as above.

abbrev pub of_owner : (Ledger → SeatState → ℕ → SeatState → Type 0) → View → SeatState → ℕ → SeatState → Type 0
of_owner then (Owner d) m found n = then d m found n
of_owner then (Pass e) m found n = Unit {0}
of_owner then Spent m found n = Unit {0}

-- these tickets were on the list, and are the walk now
pub record TookWhole (d : Ledger) (m : SeatState) (found : ℕ) (n : SeatState) : Type 0 where
  pub low : found ≤ sizes.tickets
  pub listed : List ℕ
  pub first : found ≡ link_to listed
  pub after : n.0 ≡ Owner (took_whole listed d)
  pub slots : n.1 ≡ m.1

-- where none was on the list, it is taken as it is; else nothing has changed
pub record SawList (d : Ledger) (m : SeatState) (found : ℕ) (n : SeatState) : Type 0 where
  pub none : found ≡ 0 → TookWhole d m found n
  pub some : found ≢ 0 → n ≡ m

-- the ticket t comes in hand with its piece, and these tickets are left of the walk
pub record WalkedOn (t : ℕ) (d : Ledger) (m : SeatState) (found : ℕ) (n : SeatState) : Type 0 where
  pub low : found ≤ sizes.tickets
  pub left : List ℕ
  pub walk : d.walk ≡ t ∷ left
  pub first : found ≡ link_to left
  pub after : n.0 ≡ Owner (walked t left d)
  pub piece : Lent
  pub slots : n.1 ≡ (t, Some piece) ∷ m.1
  pub is_lent : slice_get d.lent t ≡ Some (Some (piece_id_of piece))

-- the same, and then the ticket is idle and its piece is the caller's
pub record BroughtHome (t : ℕ) (d : Ledger) (found : ℕ) (piece : Lent) (n : SeatState) : Type 0 where
  pub low : found ≤ sizes.tickets
  pub left : List ℕ
  pub walk : d.walk ≡ t ∷ left
  pub first : found ≡ link_to left
  pub after : n ≡ (Owner (put_home t (walked t left d)), [])
  pub is_lent : slice_get d.lent t ≡ Some (Some (piece_id_of piece))

abbrev pub go_home : Option ℕ → Ledger → SeatState → ℕ → SeatState → Type 0
go_home None d m found n = Unit {0}
go_home (Some t) d m found n = (n.0 ≡ Owner (put_home t d)) × (n.1 ≡ rest m.1)
