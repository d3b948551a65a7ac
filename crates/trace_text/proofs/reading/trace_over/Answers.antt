-- One command more is counted.
use Rattle.std.proofs.Common.{◌≡◌, get_or, arith, ap, sym, ◌∙◌}
use Rattle.trace_text.specs.Operation.{operations}
use Rattle.trace_text.specs.Parts.{origin, owner}
use Rattle.trace_text.specs.inside.Routes.{routes}
use Rattle.trace_text.proofs.Routes.{no_command, no_operation, no_route, origin_at, owner_below, route_at}
use Rattle.trace_text.proofs.ShardCounts.{counted_more, few_before, none_counted, within}
use Rattle.trace_text.proofs.reading.trace_over.Goals as goal

pub loop-route-init : goal.loop-route-init
loop-route-init c = record {
  origin = omega arith;
  owned = none_counted _ _ c.new-owned.ensures;
  issued = none_counted _ _ c.new-issued.ensures;
}

pub add-requires-clause-shard : goal.add-requires-clause-shard
add-requires-clause-shard c =
    let are = c.as_slice-route-items.ensures.value ∙ c.requires.routed in
    let below = owner_below c.args.shards _ c.as_slice-route-items.result.now c.loop-route.route-index no_route
    c.requires.some_shards are c.loop-route-test.true in
    rw c.from.ensures (omega (arith, below, c.requires.most_shards))

pub add-requires-clause-few : goal.add-requires-clause-few
add-requires-clause-few c =
    let are = c.as_slice-route-items.ensures.value ∙ c.requires.routed in
    few_before _ _ _ _ _ c.loop-route.invariant.owned (within _ _ _ _ _ are c.loop-route-test.true).1 c.requires.spelled.few

pub add-requires-in-loop-route-clause-few : goal.add-requires-in-loop-route-clause-few
add-requires-in-loop-route-clause-few c =
    let are = c.as_slice-route-items.ensures.value ∙ c.requires.routed in
    few_before _ _ _ _ _ c.loop-route.invariant.issued (within _ _ _ _ _ are c.loop-route-test.true).1 c.requires.spelled.few

pub loop-route-preserved : goal.loop-route-preserved
loop-route-preserved c =
    let n = c.args.shards in
    let bytes = c.args.bytes in
    let commands = c.args.commands in
    let ops = operations bytes commands in
    let to = c.as_slice-route-items.result.now in
    let i = c.loop-route.route-index in
    let from = c.loop-route.invariant.origin in
    let are : to ≡ routes n ops = c.as_slice-route-items.ensures.value ∙ c.requires.routed in
    let place = within n bytes commands to i are c.loop-route-test.true in
    let is = route_at n ops to i no_route no_operation are c.loop-route-test.true in
    let number = origin_at bytes commands n i no_command no_operation c.requires.spelled.numbered place.1 in
    record {
      origin = c.origin_after-origin.ensures i from;
      owned = counted_more (λ o. owner o.key.bytes n) ops i no_operation _ _ c.from.result (get_or to i no_route).kind place.0
          c.loop-route.invariant.owned (c.from.ensures ∙ ap (λ route. route.owner) is) (ap (λ route. route.kind) is) c.add.ensures;
      issued = counted_more (λ o. origin o.number n) ops i no_operation _ _ c.loop-route.origin (get_or to i no_route).kind place.0
          c.loop-route.invariant.issued (from ∙ sym number) (ap (λ route. route.kind) is) c.add-in-loop-route.ensures;
    }
