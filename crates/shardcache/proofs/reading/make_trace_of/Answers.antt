-- A trace is made, or there is none.
use Rattle.std.proofs.Common.{arith, refl}
use Rattle.std.proofs.lemmas.Result.{IfErr-weaker, IfOk-weaker}
use Rattle.shardcache.specs.Meanings.{trace_made}
use Rattle.shardcache.proofs.TableRows.{stops_long_made, stops_made, stops_memory, takes_made, takes_none}
use Rattle.shardcache.proofs.reading.make_trace_of.Goals as goal

pub returns-clause-taken : goal.returns-clause-taken
returns-clause-taken g c =
    IfOk-weaker c.parse_trace.result _ _ (λ trace is source. takes_made _ source _ _ c.in-Ok.ensures is) c.parse_trace.ensures.read

pub returns-clause-stopped : goal.returns-clause-stopped
returns-clause-stopped g c =
    IfErr-weaker c.parse_trace.result _ _ (λ answered refused source before after. stops_made _ _ answered source _ _ _ c.in-Ok.ensures refused)
    c.parse_trace.ensures.refused

pub returns-in_default-clause-stopped : goal.returns-in_default-clause-stopped
returns-in_default-clause-stopped g c source before after = stops_memory trace_made _ _ _ source source _ _ (takes_none source) refl

pub returns-then-len-clause-stopped : goal.returns-then-len-clause-stopped
returns-then-len-clause-stopped g c source before after =
    let more = c.if-len.true in
    let count = c.len.ensures in
    stops_long_made _ _ _ source _ _ _ c.in-Ok.ensures (omega (arith, more, count)) c.too_long.ensures.written
