use Rattle.std.proofs.Common.{◌≡◌, inl, sym, ◌∙◌, arith}
use Rattle.std.specs.Prelude.{Some}
use Rattle.slab.specs.Slab.{get}
use Rattle.regions.specs.Contents.{live_at}
use Rattle.rows_tests.proofs.Named.{found-some, is-written, named-written}
use Rattle.rows_tests.proofs.compaction_tests.names.overwrite.Goals as goal

pub bytes-requires : goal.bytes-requires
bytes-requires c =
    let places = get c.args.names.now.places in
    inl (found-some places (live_at c.args.region.now) c.args.name c.in-Some.place c.requires.fits (sym c.place_of.ensures ∙ c.in-Some.is))

pub write-requires-clause-live : goal.write-requires-clause-live
write-requires-clause-live c =
    let places = get c.args.names.now.places in
    found-some places (live_at c.args.region.now) c.args.name c.in-Some.place c.requires.fits (sym c.place_of.ensures ∙ c.in-Some.is)

pub returns-then-bytes-content : goal.returns-then-bytes-content
returns-then-bytes-content c =
    let places = get c.args.names.now.places in let old = c.args.region.now in let p = c.in-Some.place in let n = c.args.name in
    let there : places n ≡ Some p = sym c.place_of.ensures ∙ c.in-Some.is in let long = c.if-content-ge8.true in let same = c.label.auto.content in
    record {
      fits = named-written places old c.write.new.region p n c.requires.fits there
          (is-written old c.write.new.region p n c.label.new.content (found-some places (live_at old) n p c.requires.fits there) c.write.ensures c.label.ensures (omega (arith, long, same)));
    }
