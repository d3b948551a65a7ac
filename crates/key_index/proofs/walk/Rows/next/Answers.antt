use Rattle.std.proofs.Common.{◌≡◌, ◌+◌, [], sym, ◌∙◌, arith}
use Rattle.key_index.proofs.Cursor.{back_here, back_none, back_past, back_end, got_within}
use Rattle.key_index.proofs.walk.Rows.next.Goals as goal

pub overflow_add-place : goal.overflow_add-place
overflow_add-place c = let w = got_within c.self.inside.blocks.now.contents c.self.inside.place.block c.self.inside.place.at c.in-Some.entry c.self.invariant.0 c.in-Some.ensures in omega (arith, w)

pub returns-in-Some : goal.returns-in-Some
returns-in-Some c = sym c.self.view_is ∙ back_here c.self.inside.blocks.now.contents c.self.inside.place.block c.self.inside.place.at c.in-Some.entry c.in-Some.ensures

pub returns-then-self-len : goal.returns-then-self-len
returns-then-self-len c = let e : c.args.self.now ≡ [] = sym c.self.view_is ∙ back_past c.self.inside.blocks.now.contents c.self.inside.place.block c.self.inside.place.at (omega (arith, c.if-self-len.true, c.len.ensures)) in (e, e)

pub returns-in_default-found : goal.returns-in_default-found
returns-in_default-found c =
    let e : c.args.self.now ≡ [] = sym c.self.view_is ∙ back_none c.self.inside.blocks.now.contents c.self.inside.place.block c.self.inside.place.at c.in_default.ensures
    ∙ back_end c.self.inside.blocks.now.contents (c.self.inside.place.block + 1) c.self.invariant.0 c.in_default-found.ensures in (e, e)

pub returns : goal.returns
returns c =
    sym c.self.view_is ∙ back_none c.self.inside.blocks.now.contents c.self.inside.place.block c.self.inside.place.at c.in_default.ensures ∙ back_here c.self.inside.blocks.now.contents (c.self.inside.place.block + 1) 0 c.in-Some-found.entry c.in-Some-found.ensures
