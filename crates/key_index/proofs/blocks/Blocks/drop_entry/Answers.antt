use Rattle.std.proofs.Common.{List, ap, ◌∙◌, arith}
use Rattle.std.specs.List.{remove}
use Rattle.key_index.specs.declared.entries.Entry.{Entry}
use Rattle.key_index.specs.inside.Stock.{Stock}
use Rattle.key_index.proofs.Stocked.{slot_of, held_set, block_set}
use Rattle.key_index.proofs.blocks.Blocks.drop_entry.Goals as goal

pub close_up-requires-clause-at : goal.close_up-requires-clause-at
close_up-requires-clause-at c =
    let is = slot_of c.self.invariant.stocked (ap (λ (s : Stock). s.contents) c.self.view_is) c.requires.block c.index-slot.ensures c.as_mut_slice.ensures.value c.index_mut.ensures.value in
    omega (arith, is.len, c.requires.at)

pub overflow_sub-slot : goal.overflow_sub-slot
overflow_sub-slot c =
    let is = slot_of c.self.invariant.stocked (ap (λ (s : Stock). s.contents) c.self.view_is) c.requires.block c.index-slot.ensures c.as_mut_slice.ensures.value c.index_mut.ensures.value in
    omega (arith, is.len, c.requires.at)

pub invariant_of-self : goal.invariant_of-self
invariant_of-self c =
    let is = slot_of c.self.invariant.stocked (ap (λ (s : Stock). s.contents) c.self.view_is) c.requires.block c.index-slot.ensures c.as_mut_slice.ensures.value c.index_mut.ensures.value in
    held_set _ c.close_up.new.entries c.self.invariant is c.close_up.ensures.len (omega (arith, is.short))

pub returns-clause-contents : goal.returns-clause-contents
returns-clause-contents c =
    let is = slot_of c.self.invariant.stocked (ap (λ (s : Stock). s.contents) c.self.view_is) c.requires.block c.index-slot.ensures c.as_mut_slice.ensures.value c.index_mut.ensures.value in
    block_set _ c.close_up.new.entries _ c.self.invariant.stocked (ap (λ (s : Stock). s.contents) c.self.view_is) is (c.close_up.ensures.first ∙ ap (λ (es : List Entry). remove es c.args.place.at) is.block)
