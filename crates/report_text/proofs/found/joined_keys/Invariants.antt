-- The first keys of those that the shards so far found.
use Rattle.std.proofs.Common.{ℕ, List}
use Rattle.report_text.specs.inside.Found.{HasFound}
use Rattle.report_text.proofs.Gathered.{texts}
use Rattle.report_text.proofs.Joined.{AreFirst, before}
use Rattle.report_text.proofs.found.joined_keys.Given as goal

abbrev pub invariant-loop-part : goal.invariant-loop-part
invariant-loop-part l =
    (lists : List (List (List ℕ))) → HasFound l.log.replies l.first l.shards lists → AreFirst (before lists l.first l.part) l.count (texts l.found.items)
