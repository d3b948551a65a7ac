-- What a block, a linked block and the owner's seat keep of their seats at the table.
use Rattle.std.specs.Prelude.{◌≡◌, ◌≤◌, ◌<◌, ◌↔◌, ℕ, Bool, true, false, List, [], ◌∷◌, length, Option, Some, None, slice_get}
use Rattle.std.specs.Int.{bit_at}
use Rattle.layout.specs.Sizes as sizes
use Rattle.raw_range.specs.Memory.{Lent, PieceSite}
use Rattle.atomic_table.specs.declared.shared.Seat.{Seat}
use Rattle.atomic_table.specs.Seated.{TableId}
use Rattle.foreign_list.specs.declared.piece_id.PieceId.{PieceId}
use Rattle.foreign_list.specs.declared.list_table.ListTable.{ListTable}
use Rattle.foreign_list.specs.declared.views.View.{View}
use Rattle.foreign_list.specs.declared.views.Stage.{Stage}
use Rattle.foreign_list.specs.Blocks.{Block, piece_id_of}
use Rattle.foreign_list.specs.OwnerSeats.{OwnerState}
use Rattle.foreign_list.specs.inside.Words.{link_to, ticket_of}
use Rattle.foreign_list.specs.inside.Views.{holder_of, ledger_of, IsPass, IsOwner}

abbrev pub TableSeat : Type 0
TableSeat = Seat (Option Lent) View

abbrev pub id_of : ListTable → TableId
id_of home = home.table.shared.table_id

abbrev pub IsAt : ListTable → TableSeat → Type 0
IsAt home seat = seat.table_id ≡ id_of home

abbrev pub SameSeat : TableSeat → TableSeat → Type 0
SameSeat old new = (new.table_id ≡ old.table_id) × (new.id ≡ old.id)

-- the slots that a pass has, empty
abbrev pub slots_held : Bool → ℕ → List (ℕ × Option Lent)
slots_held true t = (t, None) ∷ []
slots_held false t = []

-- the pass is at this stage, with this ticket and this piece
pub record IsConsistentPass (id : TableId) (pass : TableSeat) (piece : Lent) (ticket : ℕ) (has_slot : Bool) (stage : Stage) : Type 0 where
  pub seat : pass.table_id ≡ id
  pub is_pass : IsPass pass.me.0
  pub stage_is : (holder_of pass.me.0).stage ≡ stage
  pub ticket_is : ticket ≡ (holder_of pass.me.0).ticket
  pub low : ticket < sizes.tickets
  pub has_slot_is : (holder_of pass.me.0).has_slot ≡ has_slot
  pub piece_is : piece_id_of piece ≡ (holder_of pass.me.0).piece_id
  pub slots : pass.me.1 ≡ slots_held has_slot ticket

-- the block that a pass stands for
abbrev pub block_of : TableId → TableSeat → Lent → ℕ → Block
block_of id pass piece ticket =
    record { list = id; pass = pass.id; ticket = ticket; piece = piece; seen = (holder_of pass.me.0).seen; found = ticket_of (holder_of pass.me.0).met }

-- the bit of each ticket's number is set in the word where the ticket is idle
abbrev pub AreIdle : ℕ → List (Option PieceId) → Type 0
AreIdle idle lent = (t : ℕ) → t < sizes.tickets → bit_at idle t ≡ 1 ↔ slice_get lent t ≡ Some None

-- where the piece lies that was lent
abbrev pub site_in : PieceId → PieceSite
site_in piece_id = record { home = piece_id.range; owner = piece_id.owner; at = piece_id.at; len = piece_id.len }

-- each piece that is lent lies at the site of its ticket
abbrev pub AreSites : List (Option PieceSite) → List (Option PieceId) → Type 0
AreSites sites lent = (t : ℕ) (piece_id : PieceId) → slice_get lent t ≡ Some (Some piece_id) → slice_get sites t ≡ Some (Some (site_in piece_id))

-- the owner's seat, between its calls, with the tickets that are idle, the word that leads to the walk, and the sites
pub record IsConsistentSeat (seat : TableSeat) (idle first : ℕ) (sites : List (Option PieceSite)) : Type 0 where
  pub is_owner : IsOwner seat.me.0
  pub slots : seat.me.1 ≡ []
  pub hand : (ledger_of seat.me.0).hand ≡ None
  pub first_is : first ≡ link_to (ledger_of seat.me.0).walk
  pub low : first ≤ sizes.tickets
  pub count : length (ledger_of seat.me.0).lent ≡ sizes.tickets
  pub idle_are : AreIdle idle (ledger_of seat.me.0).lent
  pub site_count : length sites ≡ sizes.tickets
  pub sites_are : AreSites sites (ledger_of seat.me.0).lent

-- what the owner knows
abbrev pub state_of : TableSeat → OwnerState
state_of seat = record {
  list = seat.table_id;
  lent = (ledger_of seat.me.0).lent;
  walk = (ledger_of seat.me.0).walk;
  lends = (ledger_of seat.me.0).lends;
  take_wholes = (ledger_of seat.me.0).take_wholes;
}
