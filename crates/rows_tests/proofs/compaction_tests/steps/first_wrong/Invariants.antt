use Rattle.slab.specs.Slab.{get}
use Rattle.regions.specs.Contents.{live_at}
use Rattle.rows_tests.specs.Names.{AreNamed}
use Rattle.rows_tests.proofs.compaction_tests.steps.first_wrong.Given as goal

abbrev pub invariant-loop-order : goal.invariant-loop-order
invariant-loop-order l = AreNamed (get l.shelf.names.places) (live_at l.shelf.region)
