use Rattle.slab.specs.Slab.{get}
use Rattle.regions.specs.Contents.{live_at}
use Rattle.rows_tests.specs.Names.{AreNamed}
use Rattle.rows_tests.proofs.compaction_tests.kill_each.Given as goal

abbrev pub invariant-loop-name : goal.invariant-loop-name
invariant-loop-name l = AreNamed (get l.shelf.names.places) (live_at l.shelf.region)
