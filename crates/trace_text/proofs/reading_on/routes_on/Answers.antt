-- Each route was written at its place.
use Rattle.std.proofs.Common.{◌≡◌, length, ap, sym, ◌∙◌}
use Rattle.trace_text.proofs.Routes.{routes_from_each}
use Rattle.trace_text.proofs.Stretches.{written}
use Rattle.trace_text.proofs.reading_on.routes_on.Goals as goal

pub returns : goal.returns
returns g c =
    let old = c.in_ok-routes.routes in
    let new = c.set_routes.new.routes in
    let value : c.as_mut_slice.result.now ≡ old.items = c.as_mut_slice.ensures.value in
    let many : length old.items ≡ old.len = sym old.ok.0 in
    let after : length new ≡ old.len = c.set_routes.auto.routes ∙ ap length value ∙ many in
    let room : old.len ≡ length c.args.commands.now = c.in_ok-routes.ensures.len in
    written old.len old.items new many after
    ∙ routes_from_each c.args.shards c.args.bytes.now c.args.commands.now new (after ∙ room) c.set_routes.ensures
