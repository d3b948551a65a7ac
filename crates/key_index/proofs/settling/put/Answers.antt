use Rattle.std.proofs.Common.{ℕ, ◌+◌, length, set, sym, ap, subst, ◌∙◌, arith}
use Rattle.std.specs.List.{insert}
use Rattle.std.proofs.lemmas.List.Edits.{length-insert}
use Rattle.key_index.specs.inside.Blocks.{entries_of, entries_at, lens_of}
use Rattle.key_index.specs.inside.Dense.{AreDense}
use Rattle.key_index.proofs.Edits.{entries_set, lens_set, len_at}
use Rattle.key_index.proofs.Density.{dense_set}
use Rattle.key_index.proofs.settling.put.Goals as goal

pub returns-clause-entries : goal.returns-clause-entries
returns-clause-entries c =
    let bs = c.args.blocks.now.contents in
    ap entries_of c.put.ensures.contents ∙ entries_set bs c.args.place.block (insert (entries_at bs c.args.place.block) c.args.place.at c.args.entry) c.requires.block

pub returns-clause-dense : goal.returns-clause-dense
returns-clause-dense c = λ dense.
    let bs = c.args.blocks.now.contents in
    let es = entries_at bs c.args.place.block in
    let len = length-insert es c.args.place.at c.args.entry c.requires.at in
    let lens = ap lens_of c.put.ensures.contents ∙ lens_set bs c.args.place.block (insert es c.args.place.at c.args.entry) ∙ ap (λ (n : ℕ). set (lens_of bs) c.args.place.block n) len in
    subst AreDense (sym lens) (dense_set (lens_of bs) c.args.place.block (length es + 1) dense (let l = len_at bs c.args.place.block in omega (arith, l)))
