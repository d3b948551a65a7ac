use Rattle.std.proofs.Common.{length, sym, ap, subst, ◌∙◌}
use Rattle.shard_run.specs.inside.Parting.{AllPaired}
use Rattle.shard_run.proofs.Partings.{none_closed, last_has_one_each, last_is_paired, one_closed_back, all_closed}
use Rattle.shard_run.proofs.closing.close_links.Goals as goal

pub loop-own-init : goal.loop-own-init
loop-own-init c = none_closed c.args.links.items c.requires

pub close_with-requires-clause-one_each : goal.close_with-requires-clause-one_each
close_with-requires-clause-one_each c =
    last_has_one_each c.args.links.items c.loop-own.links.items c.pop.new.self.items c.in-Some.own c.loop-own.invariant c.requires c.in-Some.ensures.items
    ∙ ap length (sym c.as_mut_slice.ensures.value)

pub close_with-requires-clause-pairs : goal.close_with-requires-clause-pairs
close_with-requires-clause-pairs c =
    subst (λ l. AllPaired l c.in-Some.own.items) (sym c.as_mut_slice.ensures.value)
    (last_is_paired c.args.links.items c.loop-own.links.items c.pop.new.self.items c.in-Some.own c.loop-own.invariant c.requires c.in-Some.ensures.items)

pub loop-own-preserved : goal.loop-own-preserved
loop-own-preserved c =
    one_closed_back c.args.links.items c.loop-own.links.items c.pop.new.self.items c.in-Some.own c.as_mut_slice.result.now c.close_with.new.links _ c.pop.new.self.len
    c.loop-own.invariant c.requires c.in-Some.ensures.items c.as_mut_slice.ensures.value c.close_with.ensures c.close_with.auto.links c.pop.new.self.ok.0

pub returns : goal.returns
returns c = all_closed c.args.links.items c.loop-own.links.items c.loop-own.invariant (sym c.loop-own.links.ok.0 ∙ c.in_default.ensures.cases.0)
