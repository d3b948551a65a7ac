-- What was written fits.
use Rattle.std.proofs.Common.{◌≤◌, length}
use Rattle.timed.proofs.values.store.Store.get.Given as goal

abbrev pub invariant-loop-piece : goal.invariant-loop-piece
invariant-loop-piece l =
    (l.filled ≤ length l.buffer) × (goal.iterator-loop-piece).can_next l.piece-iterator × (goal.iterator-loop-piece).is_finite l.piece-iterator
