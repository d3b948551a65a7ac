use Rattle.std.proofs.Common.{◌≤◌, sym, ap, subst, ◌∙◌}
use Rattle.std.specs.Vec.{vec_capacity}
use Rattle.key_table.specs.Lazy.{Lazy}
use Rattle.row_cache.specs.inside.Tables.{TableState, AreNumbers}
use Rattle.row_cache.specs.contracts.tables.Tables.{the_view}
use Rattle.row_cache.proofs.tables.Tables.widen.Goals as goal

-- the tables with this index
abbrev over : TableState → Lazy → TableState
over t index = record t { room = index.room; index = index }

pub invariant_of-self : goal.invariant_of-self
invariant_of-self c =
    let i = c.self.inside in let t : TableState = the_view i in
    subst (λ (index : Lazy). AreNumbers (over t index) × (index.room ≤ vec_capacity i.places) × (index.room ≤ vec_capacity i.freed))
    (sym c.widen.ensures.unchanged) c.self.invariant

pub returns : goal.returns
returns c =
    let t : TableState = the_view c.self.inside in
    record { unchanged = ap (λ (index : Lazy). over t index) c.widen.ensures.unchanged ∙ c.self.view_is }
