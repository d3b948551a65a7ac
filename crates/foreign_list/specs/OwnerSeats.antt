-- What the owner of a list knows of it.
use Rattle.std.specs.Prelude.{◌≡◌, ℕ, suc, List, [], ◌∷◌, Option, Some, None, slice_get, slice_set, replicate, All, IsNone}
use Rattle.layout.specs.Sizes as sizes
use Rattle.foreign_list.specs.declared.piece_id.PieceId.{PieceId}
use Rattle.raw_range.specs.Memory.{Lent}
use Rattle.foreign_list.specs.Lists.{ListId, OwnedList}
use Rattle.foreign_list.specs.Blocks.{piece_id_of}

-- The piece lent with each ticket, by its number, and none where the ticket is idle; the walk, which are the tickets that were taken
-- and have not come back, the next to come back first; how many lends there were, and how many take-wholes.
pub record OwnerState : Type 0 where
  pub list : ListId
  pub lent : List (Option PieceId)
  pub walk : List ℕ
  pub lends : ℕ
  pub take_wholes : ℕ

-- the seat is that of the list's owner
abbrev pub IsSeatOf : OwnedList → OwnerState → Type 0
IsSeatOf home seat = seat.list ≡ home.id

-- besides, all its tickets are idle, and nothing is left of its walk
pub record IsAtRest (home : OwnedList) (seat : OwnerState) : Type 0 where
  pub seat_of : IsSeatOf home seat
  pub idle : All IsNone seat.lent
  pub walk : seat.walk ≡ []

abbrev pub IsIdle : OwnerState → ℕ → Type 0
IsIdle seat t = slice_get seat.lent t ≡ Some None

-- this piece is lent with the ticket
abbrev pub IsLent : OwnerState → ℕ → PieceId → Type 0
IsLent seat t piece_id = slice_get seat.lent t ≡ Some (Some piece_id)

-- all tickets are idle
abbrev pub all_idle : ListId → OwnerState
all_idle list = record { list = list; lent = replicate sizes.tickets None; walk = []; lends = 0; take_wholes = 0 }

abbrev pub after_lend : OwnerState → ℕ → PieceId → OwnerState
after_lend seat t piece_id = record seat { lent = slice_set seat.lent t (Some piece_id); lends = suc seat.lends }

abbrev pub after_take_whole : OwnerState → List ℕ → OwnerState
after_take_whole seat taken = record seat { walk = taken; take_wholes = suc seat.take_wholes }

-- the ticket came back, and these are left of the walk
abbrev pub after_back : OwnerState → ℕ → List ℕ → OwnerState
after_back seat t rest = record seat { lent = slice_set seat.lent t None; walk = rest }

-- the walk's first came back with the piece that was lent with it, and its ticket is idle
pub record ComesBack (old : OwnerState) (t : ℕ) (piece : Lent) (new : OwnerState) : Type 0 where
  pub left : List ℕ
  pub first : old.walk ≡ t ∷ left
  pub is_lent : IsLent old t (piece_id_of piece)
  pub after : new ≡ after_back old t left
