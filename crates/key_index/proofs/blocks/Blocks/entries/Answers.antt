use Rattle.std.proofs.Common.{refl, ap}
use Rattle.key_index.specs.inside.Stock.{Stock}
use Rattle.key_index.proofs.Stocked.{slot_of}
use Rattle.key_index.proofs.blocks.Blocks.entries.Goals as goal

pub returns-clause-is : goal.returns-clause-is
returns-clause-is c = (slot_of c.self.invariant.stocked (ap (λ (s : Stock). s.contents) c.self.view_is) c.requires c.index-slot.ensures refl c.index.ensures).block
