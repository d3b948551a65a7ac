use Rattle.std.proofs.Common.{ℕ, List, sym, ap, subst, ◌∙◌}
use Rattle.key_index.specs.Index.{Index}
use Rattle.key_table.specs.Table.{Table}
use Rattle.key_table.specs.Lazy.{Lazy}
use Rattle.key_table.specs.inside.Mixed.{AreMixed}
use Rattle.key_table.proofs.index.LazyIndex.widen.Goals as goal

pub invariant_of-self : goal.invariant_of-self
invariant_of-self c =
    let i = c.self.inside in
    subst (λ (t : Table). AreMixed i.room i.outside t i.order i.late) (sym c.widen.ensures.unchanged) c.self.invariant

abbrev lazy_of : ℕ → Table → Index → List ℕ → Lazy
lazy_of room table order late = record { room = room; table = table; order = order; late = late }

pub returns : goal.returns
returns c =
    let i = c.self.inside in
    record { unchanged = ap (λ (t : Table). lazy_of i.room t i.order i.late.numbers) c.widen.ensures.unchanged ∙ c.self.view_is }
