use Rattle.std.proofs.Common.{◌≡◌, length, sym, ap, subst}
use Rattle.row_cache.specs.inside.Tables as tables
use Rattle.row_cache.specs.contracts.tables.Tables.{the_view}
use Rattle.row_cache.proofs.Numbers.{last_got}
use Rattle.row_cache.proofs.tables.Tables.next_number.Goals as goal

pub returns-in-Some : goal.returns-in-Some
returns-in-Some c =
    let t : tables.TableState = the_view c.self.inside in
    subst (λ s. c.in-Some.number.now ≡ tables.next_number s) c.self.view_is
    (sym (ap (tables.number_or (length t.places)) (last_got t.freed c.in-Some.number.now c.deref.result.now c.deref.ensures.value (sym c.in-Some.ensures.value))))
