use Rattle.std.proofs.Common.{◌≡◌, ◌∷◌, ◌++◌, cond, is_ok, [], refl, sym, ap, subst, ◌∙◌, arith}
use Rattle.std.specs.Prelude.{slice_get}
use Rattle.row_cache.specs.inside.Tables as tables
use Rattle.row_cache.specs.contracts.tables.Tables.{the_view}
use Rattle.row_cache.proofs.Numbers.{numbers_dropped}
use Rattle.row_cache.proofs.States.{tables_dropped}
use Rattle.row_cache.proofs.tables.Tables.remove.Goals as goal

pub invariant_of-self : goal.invariant_of-self
invariant_of-self c =
    let i = c.self.invariant in let n = c.args.standing.found.row in let t : tables.TableState = the_view c.self.inside in
    let listed : tables.IsListed t n = subst (λ s. tables.IsListed s n) (sym c.self.view_is) c.requires.listed in
    let freed : c.push.new.self.items ≡ c.self.inside.freed.items ++ n ∷ [] =
    c.push.ensures.items ∙ ap (λ r. cond (is_ok r) (c.self.inside.freed.items ++ n ∷ []) c.self.inside.freed.items) c.unwrap.ensures in
    let u : tables.TableState = record t { room = c.remove.new.self.room; recency = c.without-self-inside.result.rows; freed = c.push.new.self.items; index = c.remove.new.self } in
    let places = i.1 in let frees = i.2 in let room = c.remove.ensures.room in let cap = c.push.ensures.capacity in (
      numbers_dropped t u n i.0 listed room c.without-self-inside.ensures refl freed room c.remove.ensures.rows c.remove.ensures.moved,
      omega (arith, places, room),
      omega (arith, frees, room, cap),
    )

pub returns-clause-tables : goal.returns-clause-tables
returns-clause-tables c = λ place old new are here drops.
    let n = c.args.standing.found.row in let i = c.self.invariant in
    let v : tables.TableState = the_view c.self.inside in
    let u : tables.TableState = record v { room = c.remove.new.self.room; recency = c.without-self-inside.result.rows; freed = c.push.new.self.items; index = c.remove.new.self } in
    tables_dropped v u old new n place (subst (λ s. tables.AreTablesOf s old) (sym c.self.view_is) are) (invariant_of-self c).0
    (subst (λ s. tables.IsListed s n) (sym c.self.view_is) c.requires.listed) (ap (λ (s : tables.TableState). slice_get s.places n) c.self.view_is ∙ here) drops c.without-self-inside.ensures refl
    c.remove.ensures.keyed
