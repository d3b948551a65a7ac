use Rattle.std.proofs.Common.{◌≡◌, sym, ◌∙◌}
use Rattle.slab.specs.Slab.{get}
use Rattle.std.specs.Prelude.{Some}
use Rattle.regions.specs.Contents.{live_at}
use Rattle.rows_tests.proofs.Live.{killed-live}
use Rattle.rows_tests.proofs.Named.{found-some, named-killed}
use Rattle.rows_tests.proofs.compaction_tests.names.kill.Goals as goal

pub kill-requires : goal.kill-requires
kill-requires c =
    let old = get c.args.names.now.places in
    let there : old c.args.name ≡ Some c.in-Some.place = sym c.try_remove.ensures.value ∙ c.in-Some.is in
    found-some old (live_at c.args.region.now) c.args.name c.in-Some.place c.requires.fits there

pub returns-in-Some : goal.returns-in-Some
returns-in-Some c =
    let old = get c.args.names.now.places in let new = get c.try_remove.new.self in let u = c.try_remove.ensures.updates in
    let there : old c.args.name ≡ Some c.in-Some.place = sym c.try_remove.ensures.value ∙ c.in-Some.is in
    record {
      fits = named-killed old new (live_at c.args.region.now) (live_at c.kill.new.self) c.in-Some.place c.args.name c.requires.fits
          (killed-live c.args.region.now c.kill.new.self c.in-Some.place c.kill.ensures.killed) there u.changed u.others;
    }
