use Rattle.std.proofs.Common.{subst}
use Rattle.slab.specs.Slab.{get}
use Rattle.rows_tests.specs.Names.{AreNamed}
use Rattle.rows_tests.proofs.Live.{kept-live}
use Rattle.rows_tests.proofs.compaction_tests.go_on.Goals as goal

pub returns : goal.returns
returns c = record { fits = subst (AreNamed (get c.args.shelf.now.names.places)) (kept-live c.args.shelf.now.region c.begin.new.region c.begin.ensures) c.requires.fits }

pub returns-then-not-has_group : goal.returns-then-not-has_group
returns-then-not-has_group c = record { fits = subst (AreNamed (get c.args.shelf.now.names.places)) (kept-live c.args.shelf.now.region c.begin.new.region c.begin.ensures) c.requires.fits }
