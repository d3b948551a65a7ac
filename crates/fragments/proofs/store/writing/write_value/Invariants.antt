use Rattle.fragments.proofs.Written.{IsWriting}
use Rattle.fragments.proofs.store.writing.write_value.Given as goal

abbrev pub invariant-loop-left : goal.invariant-loop-left
invariant-loop-left l = IsWriting l.fn.tables l.tables l.fn.region l.region l.name l.bytes l.left

abbrev pub decreases-loop-left : goal.decreases-loop-left
decreases-loop-left l = l.left
