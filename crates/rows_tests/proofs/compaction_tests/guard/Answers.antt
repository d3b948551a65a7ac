use Rattle.std.proofs.Common.{sym, subst}
use Rattle.slab.specs.Slab.{get}
use Rattle.regions.specs.Contents.{live_at}
use Rattle.rows_tests.specs.Names.{AreNamed}
use Rattle.rows_tests.proofs.compaction_tests.guard.Goals as goal

pub returns-then-guards-lt10 : goal.returns-then-guards-lt10
returns-then-guards-lt10 c = record { fits = subst (λ r. AreNamed (get c.args.shelf.now.names.places) (live_at r)) (sym c.guard.ensures.guards) c.requires.fits }
