use Rattle.std.proofs.Common.{sym, subst, refl}
use Rattle.std.specs.Prelude.{slice_set}
use Rattle.std.proofs.lemmas.List.{length-set}
use Rattle.row_cache.specs.inside.Tables as tables
use Rattle.row_cache.specs.contracts.tables.Tables.{the_view}
use Rattle.row_cache.proofs.Numbers.{numbers_kept}
use Rattle.row_cache.proofs.States.{tables_replaced}
use Rattle.row_cache.proofs.tables.Tables.put_at.Goals as goal

pub returns-clause-tables : goal.returns-clause-tables
returns-clause-tables c = λ row old new r.
    let n = c.args.number in let v : tables.TableState = the_view c.self.inside in
    let u : tables.TableState = record v { places = slice_set v.places n c.args.place } in
    let numbers : tables.AreNumbers u = numbers_kept v u c.self.invariant.0 refl refl refl (length-set v.places n c.args.place) (λ k. refl) refl in
    tables_replaced v u n c.args.place row old new (subst (λ s. tables.ReplacesRow s n c.args.place row old new) (sym c.self.view_is) r)
    (subst (λ s. tables.IsListed s n) (sym c.self.view_is) c.requires) numbers (λ m. refl) refl refl
