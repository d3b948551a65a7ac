-- The text of a refusal.
use Rattle.std.proofs.Common.{subst}
use Rattle.shardcache.specs.declared.status.Status.TheVariants as status
use Rattle.shardcache.specs.TraceFor.{refused_line}
use Rattle.shardcache.specs.inside.Ending.{EndsWith}
use Rattle.shardcache.proofs.printing.refuse_unfit.Goals as goal

pub returns-clause-written : goal.returns-clause-written
returns-clause-written g c =
    subst (λ name. EndsWith c.refuse_line.result status.Refused (g.K.Sink.written c.args.sink.now) (g.K.Sink.written c.refuse_line.new.sink) (refused_line 1 name))
    c.name.ensures c.refuse_line.ensures.written
