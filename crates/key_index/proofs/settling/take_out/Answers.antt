use Rattle.std.proofs.Common.{ℕ, List, length, sym, subst, ◌∙◌, arith}
use Rattle.std.proofs.lemmas.List.{length-map}
use Rattle.key_index.specs.declared.entries.Entry.{Entry}
use Rattle.key_index.specs.inside.Dense.{HasLost}
use Rattle.key_index.specs.inside.Blocks.{lens_of}
use Rattle.key_index.proofs.Edits.{len_at, lens_positive}
use Rattle.key_index.proofs.Settled.{lost_from}
use Rattle.key_index.proofs.settling.take_out.Goals as goal

pub settle-requires-clause-lost : goal.settle-requires-clause-lost
settle-requires-clause-lost c =
    let l = lens_of c.args.blocks.now.contents in
    let count = length-map c.args.blocks.now.contents (λ (b : List Entry). length b) in
    subst (λ (ls : List ℕ). HasLost ls c.args.place.block) (sym c.drop_entry.ensures.lens)
    (lost_from l c.args.place.block c.drop_entry.result c.requires.dense (lens_positive c.args.blocks.now.contents c.requires.are_blocks) (omega (arith, count, c.requires.block)) (c.drop_entry.ensures.left ∙ sym (len_at c.args.blocks.now.contents c.args.place.block)))
