use Rattle.std.proofs.Common.{◌≡◌, ◌<◌, [], length, arith, sym}
use Rattle.report_text.proofs.Gathered.{texts}
use Rattle.report_text.proofs.Taken.{filled, key_next, other_next}
use Rattle.report_text.proofs.merging.first_of_both.Goals as goal
use Rattle.report_text.proofs.merging.first_of_both.Goals.{then-loop-at-test+then-other_at-others+else-len-count, then-loop-at-test+else-other_at-others, else-loop-at-test}

pub loop-at-preserved-then-add_lesser : goal.loop-at-preserved-then-add_lesser
loop-at-preserved-then-add_lesser c = record {
  within = omega arith;
  other_within = omega arith;
  few = omega (arith, c.add_lesser.ensures.len, c.if-len-count.true, c.len.ensures.value);
  taken =
      key_next c.args.keys.now c.args.others.now c.loop-at.at c.loop-at.other_at (texts c.loop-at.both.items) (texts c.add_lesser.new.found.items) (record { ref_ptr = (0, 0); now = [] })
      c.loop-at-test.true c.if-other_at-others.true (sym c.if-add_lesser.ensures.first) c.if-add_lesser.ensures.added c.loop-at.invariant.taken;
}

pub loop-at-preserved : goal.loop-at-preserved
loop-at-preserved c = record {
  within = omega arith;
  other_within = omega arith;
  few = omega (arith, c.add_lesser.ensures.len, c.if-len-count.true, c.len.ensures.value);
  taken =
      other_next c.args.keys.now c.args.others.now c.loop-at.at c.loop-at.other_at (texts c.loop-at.both.items) (texts c.add_lesser.new.found.items) (record { ref_ptr = (0, 0); now = [] })
      c.loop-at-test.true c.if-other_at-others.true (sym c.if-add_lesser.ensures.first) c.if-add_lesser.ensures.added c.loop-at.invariant.taken;
}

pub returns : goal.returns
returns c =
    let full : c.loop-at.at < length c.args.keys.now → c.loop-at.other_at < length c.args.others.now → length c.loop-at.both.items ≡ c.args.count =
    elim c.loop-at-test.branch [
      | then-loop-at-test+then-other_at-others+else-len-count w ↦ λ some other-some. omega (arith, w.if-len-count.false, w.len.ensures.value, c.loop-at.invariant.few)
      | then-loop-at-test+else-other_at-others w ↦ λ some other-some. absurd (omega (arith, other-some, w.if-other_at-others.false))
      | else-loop-at-test w ↦ λ some other-some. absurd (omega (arith, some, w.loop-at-test.false))
    ] in
    filled c.args.keys.now c.args.others.now c.loop-at.both.items c.fill_up.new.found.items c.fill_up-2.new.found.items c.loop-at.at c.loop-at.other_at c.args.count
    c.loop-at.invariant.few full c.loop-at.invariant.taken c.fill_up.ensures c.fill_up-2.ensures
