use Rattle.std.proofs.Common.{◌-◌, replicate, ap, ◌∙◌, arith}
use Rattle.object_log.specs.Contents.{padded}
use Rattle.object_log.proofs.log.append.Goals as goal

pub append_with-requires-clause-content : goal.append_with-requires-clause-content
append_with-requires-clause-content c = let none = c.zeros.ensures.length in omega (arith, none, c.requires.size.0)

pub returns-clause-content : goal.returns-clause-content
returns-clause-content c = c.append_with.ensures.content ∙ ap (padded (c.args.size - 8)) c.zeros.ensures.bytes ∙ ap (λ n. replicate n 0) (omega arith)
