use Rattle.std.proofs.Common.{inl, sym, ◌∙◌}
use Rattle.slab.specs.Slab.{get}
use Rattle.regions.specs.Contents.{live_at}
use Rattle.rows_tests.proofs.Named.{found-some}
use Rattle.rows_tests.proofs.compaction_tests.names.content.Goals as goal

pub bytes-requires : goal.bytes-requires
bytes-requires c = inl (found-some (get c.args.names.now.places) (live_at c.args.region.now) c.args.name c.in_ok-place.place c.requires.fits (sym c.place_of.ensures ∙ c.in_ok-place.was))
