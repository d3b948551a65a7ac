use Rattle.slab.specs.Slab.{get}
use Rattle.regions.specs.Contents.{live_at}
use Rattle.rows_tests.specs.Names.{AreNamed}
use Rattle.rows_tests.proofs.compaction_tests.two_groups.goes_well.Given as goal

abbrev pub invariant-loop : goal.invariant-loop
invariant-loop l = AreNamed (get l.shelf.names.places) (live_at l.shelf.region)
