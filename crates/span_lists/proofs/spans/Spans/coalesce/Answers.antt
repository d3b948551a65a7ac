use Rattle.std.proofs.Common.{◌+◌, inl, inr, refl}
use Rattle.span_lists.proofs.Steps.{begun, coalesced_none, coalesced_more, allocated_of_coalesced}
use Rattle.span_lists.proofs.spans.Spans.coalesce.Goals as goal

pub loop-self-init : goal.loop-self-init
loop-self-init c = record {
  allocated = c.requires;
  begun = inl refl;
  coalesces = λ may. coalesced_none c.args.self.now c.args.first c.args.order c.requires may;
}

pub loop-self-preserved : goal.loop-self-preserved
loop-self-preserved c =
    let old = c.args.self.now in let first = c.args.first in let order = c.args.order in
    let now = c.loop-self.self in let i = c.loop-self.invariant in let t = c.loop-self-test.ensures in let e = c.coalesce_once-at.ensures in let can = t.can.0 refl in
    let may = begun old now first order c.requires i.begun t.divided in
    let next =
    coalesced_more old now c.coalesce_once-at.new.self first order c.loop-self.at c.loop-self.to c.coalesce_once-at.result (i.coalesces may) t.divided can.0 can.1 e.first e.moves e.was_free in
    record {
      allocated = allocated_of_coalesced old c.coalesce_once-at.new.self first order c.coalesce_once-at.result (c.loop-self.to + 1) next;
      begun = inr may;
      coalesces = λ _. next;
    }

pub returns-clause-coalesces : goal.returns-clause-coalesces
returns-clause-coalesces c =
    let i = c.loop-self.invariant in i.coalesces (begun c.args.self.now c.loop-self.self c.args.first c.args.order c.requires i.begun c.loop-self-test.ensures.divided)
