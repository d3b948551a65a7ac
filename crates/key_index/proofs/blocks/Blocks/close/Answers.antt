use Rattle.std.proofs.Common.{ap, arith}
use Rattle.key_index.specs.inside.Stock.{Stock}
use Rattle.key_index.proofs.Stocked.{held_close, block_close}
use Rattle.key_index.proofs.blocks.Blocks.close.Goals as goal

pub invariant_of-self : goal.invariant_of-self
invariant_of-self c =
    held_close c.self.invariant (ap (λ (s : Stock). s.contents) c.self.view_is) c.requires c.remove-slot.ensures.value c.remove-slot.ensures.items c.give_back.ensures.places
    (omega (arith, c.remove-slot.ensures.capacity)) c.give_back.ensures.capacity

pub returns-clause-contents : goal.returns-clause-contents
returns-clause-contents c = block_close c.self.inside.store.items c.self.inside.order.items c.args.at (ap (λ (s : Stock). s.contents) c.self.view_is) c.remove-slot.ensures.items
