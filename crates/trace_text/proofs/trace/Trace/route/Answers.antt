-- An owner is one of the shards.
use Rattle.std.proofs.Common.{◌≡◌, ◌<◌, length, arith, ap, ◌∙◌}
use Rattle.trace_text.specs.Operation.{operations}
use Rattle.trace_text.proofs.Routes.{length-routes, owner_below}
use Rattle.trace_text.proofs.trace.Trace.route.Goals as goal

pub returns-clause-below : goal.returns-clause-below
returns-clause-below c =
    let inside = c.self.inside in
    let are = c.self.invariant.routes_are in
    let many : length inside.routes.items ≡ length inside.commands = ap length are ∙ length-routes inside.shards inside.bytes inside.commands in
    let there : c.args.at < length inside.commands = rw (← c.self.view_is) at c.requires in
    rw (← c.self.view_is, c.index.ensures)
    (owner_below inside.shards (operations inside.bytes inside.commands) inside.routes.items c.args.at c.index.result.now
    c.self.invariant.consistent.some_shards are (omega (arith, many, there)))
