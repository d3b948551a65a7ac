use Rattle.std.proofs.Common.{List, sym, ap, subst, ◌∙◌, arith}
use Rattle.std.specs.Prelude.{All}
use Rattle.key_index.specs.declared.entries.Entry.{Entry}
use Rattle.key_index.specs.Lead.{rows_of, IsLed}
use Rattle.key_index.specs.inside.Blocks.{entries_of, entries_at, front, lens_of}
use Rattle.key_index.specs.inside.Stock.{Stock}
use Rattle.key_index.proofs.InBlocks.{all_at}
use Rattle.key_index.proofs.Relead.{rows_block, lens_block, same_len, all_block, front_block}
use Rattle.key_index.proofs.Stocked.{slot_of, whole_block, rewritten}
use Rattle.key_index.proofs.blocks.Blocks.sharpen.Goals as goal

pub refresh-requires-clause-readable : goal.refresh-requires-clause-readable
refresh-requires-clause-readable g c =
    let P : Entry → Type 0 = λ e. g.K.Keys.has_row c.args.keys.now e.row in
    let view = ap (λ (s : Stock). s.contents) c.self.view_is in
    let is = slot_of c.self.invariant.stocked view c.requires.block c.index-slot.ensures c.as_mut_slice.ensures.value c.index_mut.ensures.value in
    let whole = whole_block is (omega arith) in
    subst (All P) (sym whole) (all_at P c.args.self.now.contents c.args.at c.requires.readable)

pub refresh-requires-clause-leads : goal.refresh-requires-clause-leads
refresh-requires-clause-leads g c =
    let P : Entry → Type 0 = IsLed (g.K.Keys.key_of c.args.keys.now) in
    let view = ap (λ (s : Stock). s.contents) c.self.view_is in
    let is = slot_of c.self.invariant.stocked view c.requires.block c.index-slot.ensures c.as_mut_slice.ensures.value c.index_mut.ensures.value in
    let whole = whole_block is (omega arith) in
    subst (All P) (sym whole) (all_at P c.args.self.now.contents c.args.at c.requires.leads)

pub returns-clause-rows : goal.returns-clause-rows
returns-clause-rows g c =
    let view = ap (λ (s : Stock). s.contents) c.self.view_is in
    let is = slot_of c.self.invariant.stocked view c.requires.block c.index-slot.ensures c.as_mut_slice.ensures.value c.index_mut.ensures.value in
    let whole = whole_block is (omega arith) in
    let new = c.refresh.new.entries in
    let written = rewritten new c.self.invariant.stocked view is (omega arith) (same_len new c.as_mut_slice.result.now c.refresh.ensures.rows) in
    ap (λ (bs : List (List Entry)). rows_of (entries_of bs)) written ∙ rows_block c.args.self.now.contents c.args.at new (c.refresh.ensures.rows ∙ ap rows_of whole)

pub returns-clause-front : goal.returns-clause-front
returns-clause-front g c = λ j.
    let view = ap (λ (s : Stock). s.contents) c.self.view_is in
    let is = slot_of c.self.invariant.stocked view c.requires.block c.index-slot.ensures c.as_mut_slice.ensures.value c.index_mut.ensures.value in
    let whole = whole_block is (omega arith) in
    let new = c.refresh.new.entries in
    let written = rewritten new c.self.invariant.stocked view is (omega arith) (same_len new c.as_mut_slice.result.now c.refresh.ensures.rows) in
    ap (λ (bs : List (List Entry)). front bs c.args.at j) written ∙ front_block c.args.self.now.contents c.args.at new j (c.refresh.ensures.rows ∙ ap rows_of whole) c.requires.block

pub returns-clause-leads : goal.returns-clause-leads
returns-clause-leads g c =
    let P : Entry → Type 0 = IsLed (g.K.Keys.key_of c.args.keys.now) in
    let view = ap (λ (s : Stock). s.contents) c.self.view_is in
    let is = slot_of c.self.invariant.stocked view c.requires.block c.index-slot.ensures c.as_mut_slice.ensures.value c.index_mut.ensures.value in
    let whole = whole_block is (omega arith) in
    let new = c.refresh.new.entries in
    let written = rewritten new c.self.invariant.stocked view is (omega arith) (same_len new c.as_mut_slice.result.now c.refresh.ensures.rows) in
    subst (λ (bs : List (List Entry)). All P (entries_of bs)) (sym written) (all_block P c.args.self.now.contents c.args.at new c.requires.leads c.refresh.ensures.leads)

pub returns-clause-lens : goal.returns-clause-lens
returns-clause-lens g c =
    let view = ap (λ (s : Stock). s.contents) c.self.view_is in
    let is = slot_of c.self.invariant.stocked view c.requires.block c.index-slot.ensures c.as_mut_slice.ensures.value c.index_mut.ensures.value in
    let whole = whole_block is (omega arith) in
    let new = c.refresh.new.entries in
    let written = rewritten new c.self.invariant.stocked view is (omega arith) (same_len new c.as_mut_slice.result.now c.refresh.ensures.rows) in
    ap lens_of written ∙ lens_block c.args.self.now.contents c.args.at new (same_len new (entries_at c.args.self.now.contents c.args.at) (c.refresh.ensures.rows ∙ ap rows_of whole))
