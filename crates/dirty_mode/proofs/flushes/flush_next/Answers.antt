use Rattle.dirty_mode.proofs.Flushing.{oldest_text}
use Rattle.text_lemmas.proofs.Written.{Writes-same}
use Rattle.dirty_mode.proofs.flushes.flush_next.Goals as goal

pub returns-clause-written : goal.returns-clause-written
returns-clause-written g c = Writes-same (oldest_text c.args.dirty.now.queue c.requires.whole) c.flush_into.ensures.written

pub returns-clause-kept : goal.returns-clause-kept
returns-clause-kept g c = c.flush_into.ensures.kept
