-- Of the puts that go those so far are flushed, and the others go still.
use Rattle.std.proofs.Common.{◌≡◌, length}
use Rattle.dirty_mode.specs.DirtyText.{going, staying}
use Rattle.text_lemmas.specs.Writing.{Goes}
use Rattle.dirty_region.specs.State.{Keeps}
use Rattle.dirty_mode.proofs.Flushing.{put_text}
use Rattle.dirty_mode.proofs.flushes.flush_for.Given as goal

abbrev pub invariant-loop-dirty : goal.invariant-loop-dirty
invariant-loop-dirty g l = record {
  whole : l.dirty.queue.out ≡ 0;
  gone : Goes l.fn.out l.out
      (put_text (going l.most l.size l.fn.dirty.queue.puts)) (put_text (going l.most l.size l.dirty.queue.puts));
  left : staying l.most l.size l.dirty.queue.puts ≡ staying l.most l.size l.fn.dirty.queue.puts;
  kept : Keeps l.fn.dirty l.dirty;
}

abbrev pub decreases-loop-dirty : goal.decreases-loop-dirty
decreases-loop-dirty g l = length l.dirty.queue.puts
