use Rattle.std.proofs.Common.{List, ap, ◌∙◌, arith}
use Rattle.std.specs.List.{insert}
use Rattle.key_index.specs.declared.entries.Entry.{Entry}
use Rattle.key_index.specs.inside.Stock.{Stock}
use Rattle.key_index.proofs.Stocked.{slot_of, held_set, block_set}
use Rattle.key_index.proofs.blocks.Blocks.put.Goals as goal

pub put_in-requires-clause-at : goal.put_in-requires-clause-at
put_in-requires-clause-at c =
    let is = slot_of c.self.invariant.stocked (ap (λ (s : Stock). s.contents) c.self.view_is) c.requires.block c.index-slot.ensures c.as_mut_slice.ensures.value c.index_mut.ensures.value in
    omega (arith, is.len, c.requires.at)

pub put_in-requires-clause-room : goal.put_in-requires-clause-room
put_in-requires-clause-room c =
    let is = slot_of c.self.invariant.stocked (ap (λ (s : Stock). s.contents) c.self.view_is) c.requires.block c.index-slot.ensures c.as_mut_slice.ensures.value c.index_mut.ensures.value in
    omega (arith, is.len, is.long, c.requires.room)

pub invariant_of-self : goal.invariant_of-self
invariant_of-self c =
    let is = slot_of c.self.invariant.stocked (ap (λ (s : Stock). s.contents) c.self.view_is) c.requires.block c.index-slot.ensures c.as_mut_slice.ensures.value c.index_mut.ensures.value in
    held_set _ c.put_in.new.entries c.self.invariant is c.put_in.ensures.len (omega (arith, is.len, c.requires.room))

pub returns-clause-contents : goal.returns-clause-contents
returns-clause-contents c =
    let is = slot_of c.self.invariant.stocked (ap (λ (s : Stock). s.contents) c.self.view_is) c.requires.block c.index-slot.ensures c.as_mut_slice.ensures.value c.index_mut.ensures.value in
    block_set _ c.put_in.new.entries _ c.self.invariant.stocked (ap (λ (s : Stock). s.contents) c.self.view_is) is (c.put_in.ensures.first ∙ ap (λ (es : List Entry). insert es c.args.place.at c.args.entry) is.block)
