use Rattle.std.proofs.Common.{sym, ap, subst, refl, arith}
use Rattle.std.specs.Prelude.{IsSome}
use Rattle.slab.specs.Slab.{get}
use Rattle.regions.specs.Contents.{item_if_live, live_at}
use Rattle.rows_tests.specs.Names.{AreNamed}
use Rattle.rows_tests.proofs.Named.{is-written, named-added}
use Rattle.rows_tests.proofs.compaction_tests.names.put.Goals as goal

pub returns : goal.returns
returns c =
    let old = c.args.region.now in let placed = c.place.new.self in let new = c.write.new.region in let p = c.in-Ok.place in
    let a = c.in-Ok.ensures in let i = c.insert_reserved-name.ensures in let least = c.requires.size.0 in let same = c.label.auto.content in let size = c.requires.content in
    record {
      fits = named-added (get c.reserve.new.self) (get c.insert_reserved-name.new.self) old placed new p c.insert_reserved-name.result
          (subst (λ s. AreNamed (get s) (live_at old)) (sym c.reserve.ensures.rest_kept) c.requires.fits) (λ q far. ap item_if_live (a.added.others q (λ e. far (sym e)))) (ap item_if_live a.unused)
          (is-written placed new p c.insert_reserved-name.result c.label.new.content (subst (λ s. IsSome (item_if_live s)) (sym a.added.here) refl) c.write.ensures c.label.ensures
          (omega (arith, least, same, size)))
          i.was_vacant i.updates.changed i.updates.others;
    }
