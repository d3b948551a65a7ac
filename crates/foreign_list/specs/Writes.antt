-- What a block ends as, once a `&mut` to its bytes has ended.
use Rattle.std.specs.Prelude.{ℕ, List, length}
use Rattle.std.specs.List.{refill}
use Rattle.std.specs.Borrow.{Lends, MutBor, Fml, u8, Array}
use mir.Syntax.{named}
use mathlib.Core.List.{[]}
use Rattle.foreign_list.specs.Blocks.{Block}
use Rattle.foreign_list.specs.contracts.block.ForeignBlock.{the_row}

-- only the bytes of its piece change: they are those last written through r
abbrev pub LendsBytes : MutBor Block → MutBor (List ℕ) → Fml
LendsBytes b r = Lends (the_row (record { mir = named 1; lft = [] })) (Array u8 0) b r
    (λ ws. record b.now { piece = record b.now.piece { bytes = refill (length b.now.piece.bytes) b.now.piece.bytes ws } })
