use Rattle.std.proofs.Common.{◌≡◌, length}
use Rattle.key_index.proofs.blocks.Blocks.clear.Given as goal

abbrev pub invariant-loop-self : goal.invariant-loop-self
invariant-loop-self l = l.self.most ≡ l.fn.self.most

abbrev pub decreases-loop-self : goal.decreases-loop-self
decreases-loop-self l = length l.self.contents
