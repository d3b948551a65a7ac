-- The tickets with which blocks are lent, and their shares.
use Rattle.std.specs.Prelude.{◌≡◌, ℕ, ◌<◌, ◌≤◌, ◌⊎◌, List, Option, Some, None, is_some, count_by, slice_get}
use Rattle.layout.specs.Sizes.{request_tickets, tickets}
use Rattle.foreign_list.specs.declared.piece_id.PieceId.{PieceId}
use Rattle.shard_memory.specs.declared.share.Share.{Share}
use Rattle.shard_memory.specs.declared.share.Share.TheVariants.{Request, Reply}

-- the first tickets are for requests, and the others for replies
abbrev pub first_ticket : Share → ℕ
first_ticket Request = 0
first_ticket Reply = request_tickets

abbrev pub end_ticket : Share → ℕ
end_ticket Request = request_tickets
end_ticket Reply = tickets

abbrev pub IsOfShare : Share → ℕ → Type 0
IsOfShare share ticket = (first_ticket share ≤ ticket) × (ticket < end_ticket share)

-- The tickets of a shard are a list: the piece that is lent with each, and none where the ticket is idle.
abbrev pub Tickets : Type 0
Tickets = List (Option PieceId)

abbrev pub IsIdle : Tickets → ℕ → Type 0
IsIdle lent ticket = slice_get lent ticket ≡ Some None

abbrev pub IsLentWith : Tickets → ℕ → PieceId → Type 0
IsLentWith lent ticket piece_id = slice_get lent ticket ≡ Some (Some piece_id)

-- a ticket of the share is idle
abbrev pub HasIdle : Tickets → Share → Type 0
HasIdle lent share = (ticket : ℕ) × IsOfShare share ticket × IsIdle lent ticket

-- it is the least idle ticket of the share
pub record IsLeastIdle (lent : Tickets) (share : Share) (ticket : ℕ) : Type 0 where
  pub of_share : IsOfShare share ticket
  pub idle : IsIdle lent ticket
  pub least : (other : ℕ) → IsOfShare share other → other < ticket → ¬ IsIdle lent other

-- how many tickets are not idle
abbrev pub tickets_out : Tickets → ℕ
tickets_out lent = count_by is_some lent

-- some tickets are idle that were not, and no other one has changed
abbrev pub BecomeIdle : Tickets → Tickets → Type 0
BecomeIdle old new = (ticket : ℕ) → (slice_get new ticket ≡ slice_get old ticket) ⊎ IsIdle new ticket
