use Rattle.std.proofs.Common.{◌≡◌, ◌+◌, ◌-◌, sym, subst, arith}
use Rattle.span_lists.specs.Layout.{IsAllocated}
use Rattle.span_lists.specs.inside.Steps.{IsSplitTo}
use Rattle.span_lists.proofs.Steps.{split_none, split_more, allocated_of_split}
use Rattle.span_lists.proofs.spans.Spans.split_down.Goals as goal

pub loop-at-init : goal.loop-at-init
loop-at-init c = (c.requires.order, omega arith, c.requires.from, split_none c.args.self.now c.args.first c.args.from c.requires.allocated c.requires.divided c.requires.coalesced)

pub split-requires : goal.split-requires
split-requires c =
    let less = c.loop-at-test.true in
    let at : c.loop-at.at - 1 + 1 ≡ c.loop-at.at = omega arith in
    subst (λ n. IsAllocated c.loop-at.self c.args.first n) (sym at) (allocated_of_split _ _ _ _ _ c.loop-at.invariant.3)

pub loop-at-preserved : goal.loop-at-preserved
loop-at-preserved c =
    let less = c.loop-at-test.true in
    let i0 = c.loop-at.invariant.0 in let i1 = c.loop-at.invariant.1 in let i2 = c.loop-at.invariant.2 in
    let at : c.loop-at.at - 1 + 1 ≡ c.loop-at.at = omega arith in (
      omega arith,
      omega arith,
      i2,
      split_more c.args.self.now c.loop-at.self c.split.new.self c.args.first c.args.from (c.loop-at.at - 1)
          (subst (λ n. IsSplitTo c.args.self.now c.loop-at.self c.args.first c.args.from n) (sym at) c.loop-at.invariant.3) (omega arith) i2 c.split.ensures.moves c.split.ensures.divided c.split.ensures.coalesced,
    )
