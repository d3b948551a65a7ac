use Rattle.std.proofs.Common.{◌<◌, true≢false, length, refl, sym, subst, ◌∙◌, arith}
use Rattle.regions.specs.Shapes.{held_count}
use Rattle.index_tree.specs.Indexes.{Index}
use Rattle.index_tree.specs.Sizes.{most}
use Rattle.index_tree.specs.Store.{index_in}
use Rattle.index_tree.proofs.InsertedTree.{none_told, some_told}
use Rattle.index_tree.proofs.tree.IndexTree.insert.Goals.{else-is_none-via-then-is_none+else-is_full, else-is_none-via-else-is_none}
use Rattle.index_tree.proofs.tree.IndexTree.insert.Goals as goal

pub returns-then-is_full-clause-full : goal.returns-then-is_full-clause-full
returns-then-is_full-clause-full c =
    (λ e. (sym c.get-had.ensures ∙ none_told c.get-had.result c.is_none.result c.is_none.ensures c.if-is_none.true, c.is_full.ensures.full c.if-is_full.true), λ e. refl)

pub put_in-requires-clause-room : goal.put_in-requires-clause-room
put_in-requires-clause-room c = λ e.
    (let held = c.make_ready.ensures.segments.held in
    subst (λ (x : Index). length x < most (held_count c.make_ready.new.self.region)) (sym c.make_ready.ensures.index)
    (subst (λ k. length (index_in c.args.self.now) < most k) (sym held)
    (elim c.else-is_none.branch [
      | else-is_none-via-then-is_none+else-is_full w ↦ w.is_full.ensures.room w.if-is_full.false
      | else-is_none-via-else-is_none w ↦ absurd (some_told c.get-had.result c.is_none.result c.is_none.ensures w.if-is_none.false e)
    ])))

pub returns-clause-full : goal.returns-clause-full
returns-clause-full c = (
  λ e. absurd (true≢false (sym e)),
  λ f. absurd (elim c.else-is_none.branch [
    | else-is_none-via-then-is_none+else-is_full w ↦ (let few = w.is_full.ensures.room w.if-is_full.false in let many = f.1 in omega (arith, few, many))
    | else-is_none-via-else-is_none w ↦ some_told c.get-had.result c.is_none.result c.is_none.ensures w.if-is_none.false (c.get-had.ensures ∙ f.0)
  ]),
)
