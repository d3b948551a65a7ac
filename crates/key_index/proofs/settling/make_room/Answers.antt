use Rattle.std.proofs.Common.{◌≡◌, List, length, sym, ap, subst, ◌∙◌, arith}
use Rattle.std.proofs.lemmas.List.{length-map}
use Rattle.key_index.specs.declared.entries.Entry.{Entry}
use Rattle.key_index.specs.inside.Dense.{AreDense}
use Rattle.key_index.specs.inside.Blocks.{entries_at, lens_of}
use Rattle.key_index.proofs.Edits.{len_at, lens_positive, short_at}
use Rattle.key_index.proofs.Density.{dense_cut}
use Rattle.key_index.proofs.settling.make_room.Goals as goal

pub split-requires-clause-full : goal.split-requires-clause-full
split-requires-clause-full c =
    let is = ap length c.entries-len.ensures.is in
    let short = short_at c.args.blocks.now.contents c.args.place.block c.requires.are_blocks in
    omega (arith, is, short, c.if-len-lt-BLOCK.false)

pub split-requires-clause-at : goal.split-requires-clause-at
split-requires-clause-at c =
    let short = short_at c.args.blocks.now.contents c.args.place.block c.requires.are_blocks in
    omega (arith, short, c.requires.at)

pub returns-then-len-lt-BLOCK-clause-room : goal.returns-then-len-lt-BLOCK-clause-room
returns-then-len-lt-BLOCK-clause-room c =
    let is = ap length c.entries-len.ensures.is in
    omega (arith, is, c.if-len-lt-BLOCK.true)

pub returns-clause-dense : goal.returns-clause-dense
returns-clause-dense c =
    let is = ap length c.entries-len.ensures.is in
    let short = short_at c.args.blocks.now.contents c.args.place.block c.requires.are_blocks in
    let full : length (entries_at c.args.blocks.now.contents c.args.place.block) ≡ 256 = omega (arith, is, short, c.if-len-lt-BLOCK.false) in
    let count = length-map c.args.blocks.now.contents (λ (b : List Entry). length b) in
    subst AreDense (sym c.split.ensures.lens) (dense_cut (lens_of c.args.blocks.now.contents) c.args.place.block c.requires.dense (lens_positive c.args.blocks.now.contents c.requires.are_blocks) (omega (arith, count, c.requires.block)) (len_at c.args.blocks.now.contents c.args.place.block ∙ full))
