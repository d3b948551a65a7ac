use Rattle.std.proofs.Common.{◌≡◌, ◌+◌, ◌-◌, ◌++◌, List, length, take, drop, sym, ap, ◌∙◌, arith, length-drop}
use Rattle.std.proofs.lemmas.List.{take_rest, length-take-le}
use Rattle.key_index.specs.declared.entries.Entry.{Entry}
use Rattle.key_index.specs.inside.Blocks.{entries_at}
use Rattle.key_index.specs.inside.Stock.{Stock}
use Rattle.key_index.proofs.Stocked.{slot_of, held_set, block_set}
use Rattle.key_index.proofs.blocks.Blocks.append.Goals as goal

pub write_behind-requires : goal.write_behind-requires
write_behind-requires c =
    let is = slot_of c.self.invariant.stocked (ap (λ (s : Stock). s.contents) c.self.view_is) c.requires.target c.index-slot.ensures c.as_mut_slice.ensures.value c.index_mut.ensures.value in
    let part = ap length c.copied-part.ensures ∙ length-take-le (length c.entries-entries.result.now - c.args.from) (drop c.args.from c.entries-entries.result.now) (let d = length-drop c.args.from c.entries-entries.result.now in omega (arith, d)) in
    let source = ap length c.entries-entries.ensures.is in
    omega (arith, is.len, is.long, part, source, c.requires.room, c.requires.from)

pub invariant_of-self : goal.invariant_of-self
invariant_of-self c =
    let is = slot_of c.self.invariant.stocked (ap (λ (s : Stock). s.contents) c.self.view_is) c.requires.target c.index-slot.ensures c.as_mut_slice.ensures.value c.index_mut.ensures.value in
    held_set _ c.write_behind.new.entries c.self.invariant is c.write_behind.ensures.len (let source = ap length c.entries-entries.ensures.is in omega (arith, is.len, source, c.requires.room, c.requires.from))

pub returns-clause-contents : goal.returns-clause-contents
returns-clause-contents c =
    let is = slot_of c.self.invariant.stocked (ap (λ (s : Stock). s.contents) c.self.view_is) c.requires.target c.index-slot.ensures c.as_mut_slice.ensures.value c.index_mut.ensures.value in
    block_set _ c.write_behind.new.entries _ c.self.invariant.stocked (ap (λ (s : Stock). s.contents) c.self.view_is) is (
    let n = length c.entries-entries.result.now - c.args.from in
    let part : take n c.copied-part.result ≡ drop c.args.from (entries_at c.args.self.now.contents c.args.source) =
    c.copied-part.ensures ∙ take_rest c.entries-entries.result.now c.args.from ∙ ap (λ (es : List Entry). drop c.args.from es) c.entries-entries.ensures.is in
    let size : length (take n c.copied-part.result) ≡ n = ap length c.copied-part.ensures ∙ length-take-le n (drop c.args.from c.entries-entries.result.now) (let d = length-drop c.args.from c.entries-entries.result.now in omega (arith, d)) in
    ap (λ m. take (c.index-slot.result.now.len + m) c.write_behind.new.entries) (sym size) ∙ c.write_behind.ensures.first
    ∙ ap (λ (es : List Entry). es ++ take n c.copied-part.result) is.block ∙ ap (λ (es : List Entry). entries_at c.args.self.now.contents c.args.target ++ es) part
    )
