use Rattle.std.proofs.Common.{sym, true≢false, ◌∙◌}
use Rattle.shard_node.proofs.shard.Shard.passes_gate.Goals as goal

pub returns-then-not-is_first-clause-let_through : goal.returns-then-not-is_first-clause-let_through
returns-then-not-is_first-clause-let_through g c is part next first = absurd (true≢false (sym ((c.is_first.ensures part next).1 first) ∙ c.if-not-is_first.true))

pub returns-clause-left_alone : goal.returns-clause-left_alone
returns-clause-left_alone g c part next other = absurd (other ((c.is_first.ensures part next).0 c.if-not-is_first.false))
