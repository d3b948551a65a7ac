use Rattle.std.proofs.Common.{◌≡◌, ℕ, ◌+◌, List, length, set, sym, ap, subst, ◌∙◌, arith}
use Rattle.std.specs.Prelude.{All}
use Rattle.std.specs.List.{remove}
use Rattle.std.proofs.lemmas.List.Edits.{length-remove}
use Rattle.std.proofs.lemmas.List.Elements.{All-set, All-weaker}
use Rattle.key_index.specs.declared.entries.Entry.{Entry}
use Rattle.key_index.specs.inside.Blocks.{entries_of, entries_at, lens_of, IsBlock, IsFit}
use Rattle.key_index.proofs.Edits.{entries_set, lens_set, short_at, at_set}
use Rattle.key_index.proofs.settling.drop_entry.Goals as goal
use Rattle.key_index.proofs.settling.drop_entry.Goals.{After-entries}

left : (c : After-entries) → c.entries.result.now ≡ remove (entries_at c.args.blocks.now.contents c.args.place.block) c.args.place.at
left c =
    let bs = c.args.blocks.now.contents in
    c.entries.ensures.is ∙ ap (λ (bs : List (List Entry)). entries_at bs c.args.place.block) c.drop_entry.ensures.contents
    ∙ at_set bs c.args.place.block (remove (entries_at bs c.args.place.block) c.args.place.at) c.requires.block

pub returns-clause-left : goal.returns-clause-left
returns-clause-left c = ap (λ (es : List Entry). length es + 1) (left c) ∙ length-remove (entries_at c.args.blocks.now.contents c.args.place.block) c.args.place.at c.requires.at

pub returns-clause-entries : goal.returns-clause-entries
returns-clause-entries c =
    let bs = c.args.blocks.now.contents in
    ap entries_of c.drop_entry.ensures.contents ∙ entries_set bs c.args.place.block (remove (entries_at bs c.args.place.block) c.args.place.at) c.requires.block

pub returns-clause-lens : goal.returns-clause-lens
returns-clause-lens c =
    let bs = c.args.blocks.now.contents in
    ap lens_of c.drop_entry.ensures.contents ∙ lens_set bs c.args.place.block (remove (entries_at bs c.args.place.block) c.args.place.at)
    ∙ ap (λ (n : ℕ). set (lens_of bs) c.args.place.block n) (sym (ap length (left c)))

pub returns-clause-fit : goal.returns-clause-fit
returns-clause-fit c =
    let bs = c.args.blocks.now.contents in
    let es = entries_at bs c.args.place.block in
    let fit = All-weaker IsBlock IsFit (λ b h. h.1) bs c.requires.are_blocks in
    let short = short_at bs c.args.place.block c.requires.are_blocks in
    let less = length-remove es c.args.place.at c.requires.at in
    subst (All IsFit) (sym c.drop_entry.ensures.contents) (All-set IsFit bs c.args.place.block (remove es c.args.place.at) (omega (arith, short, less)) fit)
