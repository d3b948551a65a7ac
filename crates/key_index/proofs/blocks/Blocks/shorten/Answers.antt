use Rattle.std.proofs.Common.{ap, arith}
use Rattle.key_index.specs.inside.Stock.{Stock}
use Rattle.key_index.proofs.Stocked.{slot_here, shortened}
use Rattle.key_index.proofs.blocks.Blocks.shorten.Goals as goal

pub overflow_cast-len : goal.overflow_cast-len
overflow_cast-len c =
    let is = slot_here c.self.invariant.stocked (ap (λ (s : Stock). s.contents) c.self.view_is) c.requires.at c.index-slot.ensures in
    omega (arith, is.len, is.short, c.requires.len)

pub invariant_of-self : goal.invariant_of-self
invariant_of-self c = (shortened c.args.len c.self.invariant (ap (λ (s : Stock). s.contents) c.self.view_is) c.requires.at c.index-slot.ensures c.requires.len).0

pub returns-clause-contents : goal.returns-clause-contents
returns-clause-contents c = (shortened c.args.len c.self.invariant (ap (λ (s : Stock). s.contents) c.self.view_is) c.requires.at c.index-slot.ensures c.requires.len).1
