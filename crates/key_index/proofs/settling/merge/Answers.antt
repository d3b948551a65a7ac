use Rattle.std.proofs.Common.{◌≡◌, ℕ, ◌+◌, ◌++◌, ◌∷◌, take, drop, set, length-append, refl, sym, ap, subst, ◌∙◌, arith}
use Rattle.std.specs.Prelude.{All}
use Rattle.std.specs.List.{remove}
use Rattle.std.proofs.lemmas.List.Elements.{All-set}
use Rattle.key_index.specs.inside.Blocks.{entries_of, entries_at, lens_of, IsFit}
use Rattle.key_index.proofs.Edits.{entries_join, lens_join, all_remove}
use Rattle.key_index.proofs.Divided.{joined_is}
use Rattle.key_index.proofs.settling.merge.Goals as goal
use Rattle.key_index.proofs.settling.merge.Goals.{After-close}

blocks_are : (c : After-close) → c.close.new.self.contents ≡ set (remove c.args.blocks.now.contents (c.args.at + 1)) c.args.at (entries_at c.args.blocks.now.contents c.args.at ++ entries_at c.args.blocks.now.contents (c.args.at + 1))
blocks_are c = joined_is c.args.blocks.now.contents c.append.new.self.contents c.close.new.self.contents c.args.at c.args.behind c.requires.block c.requires.next c.append.ensures.contents c.close.ensures.contents

pub returns-clause-entries : goal.returns-clause-entries
returns-clause-entries c =
    let bs = c.args.blocks.now.contents in
    ap entries_of (blocks_are c) ∙ entries_join bs c.args.at (entries_at bs c.args.at ++ entries_at bs (c.args.at + 1)) c.requires.block refl

pub returns-clause-lens : goal.returns-clause-lens
returns-clause-lens c =
    let bs = c.args.blocks.now.contents in
    ap lens_of (blocks_are c) ∙ lens_join bs c.args.at (entries_at bs c.args.at ++ entries_at bs (c.args.at + 1)) c.requires.block
    ∙ ap (λ (n : ℕ). take c.args.at (lens_of bs) ++ n ∷ drop (c.args.at + 2) (lens_of bs)) (length-append (entries_at bs c.args.at) (entries_at bs (c.args.at + 1)))

pub returns-clause-fit : goal.returns-clause-fit
returns-clause-fit c =
    let bs = c.args.blocks.now.contents in
    let len = length-append (entries_at bs c.args.at) (entries_at bs (c.args.at + 1)) in
    subst (All IsFit) (sym (blocks_are c))
    (All-set IsFit (remove bs (c.args.at + 1)) c.args.at (entries_at bs c.args.at ++ entries_at bs (c.args.at + 1)) (omega (arith, len, c.requires.few)) (all_remove IsFit bs (c.args.at + 1) c.requires.fit))
