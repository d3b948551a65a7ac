use Rattle.std.proofs.Common.{◌≡◌, Some, refl, sym, subst}
use Rattle.std.specs.Prelude.{slice_get}
use Rattle.regions.specs.Contents.{live_at}
use Rattle.row_cache.specs.inside.Chained as chained
use Rattle.row_cache.specs.inside.Tables as tables
use Rattle.row_cache.specs.contracts.tables.Tables.{the_view}
use Rattle.row_cache.proofs.Numbers.{numbers_kept}
use Rattle.row_cache.proofs.Numbered.{among, taken}
use Rattle.row_cache.proofs.Relinked.{relinked_lives, tables_relived}
use Rattle.row_cache.proofs.States.{tables_kept}
use Rattle.row_cache.proofs.tables.Tables.unlink.Goals as goal

pub unlink-requires : goal.unlink-requires
unlink-requires c =
    let r = live_at c.args.region.now in let n = c.args.number in let t : tables.TableState = the_view c.self.inside in let v = c.self.view_is in
    among t r n c.place-place.result (subst (λ s. chained.IsLinked s r) (sym v) c.requires.linked) (subst (λ s. tables.IsListed s n) (sym v) c.requires.listed)
    (subst (λ (s : tables.TableState). slice_get s.places n ≡ Some c.place-place.result) (sym v) c.place-place.ensures)

pub invariant_of-self : goal.invariant_of-self
invariant_of-self c =
    let i = c.self.invariant in let t : tables.TableState = the_view c.self.inside in
    let u : tables.TableState = record t { ends = c.unlink.new.self } in
    (numbers_kept t u i.0 refl refl refl refl (λ m. refl) refl, i.1, i.2)

pub returns-clause-tables : goal.returns-clause-tables
returns-clause-tables c =
    let t : tables.TableState = the_view c.self.inside in let r = c.args.region.now in let s = c.unlink.new.region in
    let u : tables.TableState = record t { ends = c.unlink.new.self } in
    tables_kept t u (live_at s) (tables_relived t (live_at r) (live_at s) (relinked_lives r s c.unlink.ensures.same) (subst (λ x. tables.AreTablesOf x (live_at r)) (sym c.self.view_is) c.requires.tables))
    (invariant_of-self c).0 (λ m. refl) refl refl

pub returns-clause-linked : goal.returns-clause-linked
returns-clause-linked c =
    let n = c.args.number in let t : tables.TableState = the_view c.self.inside in let r = live_at c.args.region.now in let s = live_at c.unlink.new.region in let v = c.self.view_is in
    taken t r s c.unlink.new.self n c.place-place.result (subst (λ x. chained.IsLinked x r) (sym v) c.requires.linked) (subst (λ x. tables.IsListed x n) (sym v) c.requires.listed)
    (subst (λ (x : tables.TableState). slice_get x.places n ≡ Some c.place-place.result) (sym v) c.place-place.ensures) c.unlink.ensures.chain
