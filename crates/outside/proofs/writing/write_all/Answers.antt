use Rattle.std.proofs.Common.{rules, arith, ap, subst, take}
use Rattle.std.proofs.lemmas.List.{take_rest}
use Rattle.std.specs.Io.KnownBytes.{Appends}
use Rattle.outside.proofs.Moved.{Appends-grown}
use Rattle.outside.proofs.writing.write_all.Goals as goal

pub loop-done-preserved : goal.loop-done-preserved
loop-done-preserved g c =
    let rest = ap (take c.in_ok-count.count) (take_rest c.args.piece.now c.loop-done.done) in
    record {
      within = search rules;
      appended = Appends-grown _ _ _ _ _ _ c.loop-done.invariant.appended (subst (Appends _ _) rest c.in_ok-count.ensures.taken);
      later = omega (arith, c.loop-done.invariant.later, c.write.ensures.never_falls);
    }
