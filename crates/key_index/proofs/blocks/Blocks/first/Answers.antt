use Rattle.std.proofs.Common.{length, ap, arith}
use Rattle.key_index.proofs.InBlocks.{first_read}
use Rattle.key_index.proofs.blocks.Blocks.first.Goals as goal

pub bounds-entries-0 : goal.bounds-entries-0
bounds-entries-0 c = let l = ap length c.entries.ensures.is in omega (arith, l, c.requires.some)

pub returns : goal.returns
returns c = first_read c.entries.result.now _ _ c.entries.ensures.is c.requires.some
