use Rattle.std.proofs.Common.{◌-◌, ◌<◌, ap, sym, ◌∙◌}
use Rattle.rows.specs.Row.{live}
use Rattle.dirty_region.specs.Queues.{Queue}
use Rattle.dirty_mode.specs.DirtyText.{staying}
use Rattle.dirty_mode.proofs.Flushing.{no_more, staying_next, staying_all, fewer, for_next, for_stop, for_done, Keeps-trans, queue_whole}
use Rattle.dirty_mode.specs.inside.Held.{whole}
use Rattle.text_lemmas.proofs.Written.{Writes-exit}
use Rattle.dirty_mode.proofs.flushes.flush_for.Goals as goal

pub loop-dirty-preserved : goal.loop-dirty-preserved
loop-dirty-preserved g c =
    let puts = c.loop-dirty.dirty.queue.puts in let i = c.loop-dirty.invariant in
    let above : c.args.most - c.args.size < live puts = c.is_above.ensures.0 c.loop-dirty-test.true in
    let now = ap (λ (q : Queue). q.puts) c.in_ok-flush_next.ensures.queue in
    record {
      whole = ap (λ (q : Queue). q.out) c.in_ok-flush_next.ensures.queue;
      gone = for_next c.args.most c.args.size puts _ c.requires.fits above now i.gone c.in_ok-flush_next.ensures.written;
      left = ap (staying c.args.most c.args.size) now ∙ (sym (staying_next c.args.most c.args.size c.requires.fits puts above) ∙ i.left);
      kept = Keeps-trans i.kept c.in_ok-flush_next.ensures.kept;
    }

pub loop-dirty-smaller : goal.loop-dirty-smaller
loop-dirty-smaller g c =
    let puts = c.loop-dirty.dirty.queue.puts in
    let above : c.args.most - c.args.size < live puts = c.is_above.ensures.0 c.loop-dirty-test.true in
    rw (ap (λ (q : Queue). q.puts) c.in_ok-flush_next.ensures.queue) (fewer c.args.most c.args.size c.requires.fits puts above)

pub returns-in_err-flush_next-clause-written : goal.returns-in_err-flush_next-clause-written
returns-in_err-flush_next-clause-written g c =
    let puts = c.loop-dirty.dirty.queue.puts in let i = c.loop-dirty.invariant in
    let above : c.args.most - c.args.size < live puts = c.is_above.ensures.0 c.loop-dirty-test.true in
    Writes-exit _ c.from_residual.ensures.1 (for_stop c.args.most c.args.size puts c.requires.fits above i.gone c.in_err-flush_next.ensures.written)

pub returns : goal.returns
returns g c =
    let puts = c.loop-dirty.dirty.queue.puts in let i = c.loop-dirty.invariant in
    let below = no_more c.is_above.result (c.args.most - c.args.size) (live puts) c.is_above.ensures c.loop-dirty-test.false in
    record {
      queue = queue_whole c.loop-dirty.dirty.queue i.whole ∙ ap (λ ps. whole ps) (sym (staying_all c.args.most c.args.size c.requires.fits puts below) ∙ i.left);
      written = for_done c.args.most c.args.size puts c.requires.fits below i.gone;
      kept = i.kept;
    }
