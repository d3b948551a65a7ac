use Rattle.std.proofs.Common.{◌≡◌, length, ap, arith}
use Rattle.dirty_region.specs.Queues.{Queue}
use Rattle.dirty_mode.proofs.Flushing.{all_next, all_stop, queue_none, Keeps-trans}
use Rattle.text_lemmas.proofs.Written.{Writes-exit}
use Rattle.dirty_mode.proofs.flushes.flush_all.Goals as goal

pub loop-dirty-preserved : goal.loop-dirty-preserved
loop-dirty-preserved g c =
    let puts = c.loop-dirty.dirty.queue.puts in let i = c.loop-dirty.invariant in
    record {
      whole = ap (λ (q : Queue). q.out) c.in_ok-flush_next.ensures.queue;
      gone = all_next puts _ (ap (λ (q : Queue). q.puts) c.in_ok-flush_next.ensures.queue) i.gone c.in_ok-flush_next.ensures.written;
      kept = Keeps-trans i.kept c.in_ok-flush_next.ensures.kept;
    }

pub returns-in_err-flush_next-clause-written : goal.returns-in_err-flush_next-clause-written
returns-in_err-flush_next-clause-written g c =
    Writes-exit _ c.from_residual.ensures.1 (all_stop c.loop-dirty.dirty.queue.puts c.loop-dirty.invariant.gone c.in_err-flush_next.ensures.written)

pub returns-clause-queue : goal.returns-clause-queue
returns-clause-queue g c =
    let q = c.loop-dirty.dirty.queue in let len = c.len.ensures in let test = c.loop-dirty-test.false in
    let none : length q.puts ≡ 0 = omega (arith, len, test) in
    queue_none q c.loop-dirty.invariant.whole none

pub returns-in_err-flush_next-clause-kept : goal.returns-in_err-flush_next-clause-kept
returns-in_err-flush_next-clause-kept g c = Keeps-trans c.loop-dirty.invariant.kept c.in_err-flush_next.ensures.kept
