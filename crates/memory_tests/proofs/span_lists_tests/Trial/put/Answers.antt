use Rattle.std.proofs.Common.{◌≡◌, Some, None, sym, ◌∙◌, arith}
use Rattle.std.proofs.lemmas.List.{get_or_read}
use Rattle.std.proofs.lemmas.Grind.{common_steps}
use Rattle.memory_tests.proofs.Taken.{crossed_out}
use Rattle.memory_tests.proofs.span_lists_tests.Trial.put.Goals as goal

pub put-requires : goal.put-requires
put-requires c =
    let below = c.if-at-len.false in
    let read = get_or_read c.self.inside.taken.items c.args.first c.index.result.now (omega arith) c.index.ensures None in
    let same : c.index.result.now ≡ Some c.args.order = grind (arith, common_steps) in
    c.self.invariant c.args.first c.args.order (sym read ∙ same)

pub invariant_of-self : goal.invariant_of-self
invariant_of-self c =
    let below = c.if-at-len.false in
    crossed_out c.self.inside.spans c.put.new.self c.self.inside.taken.items c.args.first (omega arith) c.put.ensures.allocated c.self.invariant
