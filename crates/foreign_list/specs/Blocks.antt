-- A block that was lent, as contracts see it.
use Rattle.std.specs.Prelude.{◌≡◌, ℕ, suc, Option, length, refl}
use Rattle.std.specs.Coded.{Coded, code_by, coded×, coded_ℕ}
use denote.RawPtr.{Ptr, coded_ptr}
use Rattle.raw_range.specs.Memory.{Lent}
use Rattle.foreign_list.specs.declared.piece_id.PieceId.{PieceId}
use Rattle.foreign_list.specs.Lists.{ListId}

-- which piece it is, whatever its bytes are
abbrev pub piece_id_of : Lent → PieceId
piece_id_of piece = record { range = piece.home; owner = piece.owner; at = piece.at; len = length piece.bytes }

-- it is stored as the tuple of its fields
abbrev pub piece_id_code : Coded PieceId
piece_id_code =
    code_by (Ptr × (ℕ × (ℕ × ℕ))) (coded× coded_ptr (coded× coded_ℕ (coded× coded_ℕ coded_ℕ))) (λ p. (p.range, (p.owner, (p.at, p.len))))
    (λ t. record { range = t.0; owner = t.1.0; at = t.1.1.0; len = t.1.1.1 }) (λ _. refl)

-- The ticket and the piece that it was lent with; the number of its pass, which is another for each lend; how many changes of the
-- list's head its lost tries have seen; and the head that the last of them found.
pub record Block : Type 0 where
  pub list : ListId
  pub pass : ℕ
  pub ticket : ℕ
  pub piece : Lent
  pub seen : ℕ
  pub found : Option ℕ

-- it was just lent, and has made no try
pub record IsFresh (list : ListId) (ticket : ℕ) (piece : Lent) (block : Block) : Type 0 where
  pub list_is : block.list ≡ list
  pub ticket_is : block.ticket ≡ ticket
  pub piece_is : block.piece ≡ piece
  pub none_seen : block.seen ≡ 0

-- a block that is linked to the head that it saw
pub record Linked : Type 0 where
  pub block : Block
  pub expected : Option ℕ

-- the pass of a block that came on the list
pub record SpentPass : Type 0 where
  pub list : ListId
  pub pass : ℕ

-- a try of this block found another head than it expected: one change more is seen, and nothing else changes
abbrev pub raced : Block → Option ℕ → Block
raced block found = record block { seen = suc block.seen; found = found }

abbrev pub spent : Block → SpentPass
spent block = record { list = block.list; pass = block.pass }
