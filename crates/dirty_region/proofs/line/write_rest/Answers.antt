use Rattle.std.proofs.Common.{◌≡◌, ◌+◌, ◌-◌, arith, subst, take, drop}
use Rattle.std.specs.Io.KnownBytes.{Appends}
use Rattle.dirty_region.proofs.Appended.{appended_more}
use Rattle.dirty_region.proofs.line.write_rest.Goals as goal

pub loop-out-preserved : goal.loop-out-preserved
loop-out-preserved g c =
    let i = c.loop-out.invariant in let w = c.in_ok-write_some.ensures in let from = c.args.out.now in let at = c.loop-out.out in let now = c.write_some.new.out in
    let m = i.more in let up = w.more in let later = i.later in let falls = w.never_falls in
    let same : at + (now - at) - from ≡ now - from = omega (arith, up, m) in
    record {
      more = omega (arith, m, up);
      within = w.within;
      appended = subst (λ n. Appends (g.K.Sink.written c.args.sink.now) (g.K.Sink.written c.write_some.new.sink) (take n (drop from c.args.line.now))) same
          (appended_more _ _ _ c.args.line.now from at (now - at) m i.appended w.appended);
      later = omega (arith, later, falls);
    }
