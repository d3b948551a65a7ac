use Rattle.std.proofs.Common.{sym, ap, ◌∙◌}
use Rattle.std.proofs.lemmas.List.Sorted.{IsPermutation-map}
use Rattle.common_lemmas.specs.Lists.{times}
use Rattle.key_table.specs.declared.waiting.Waiting.{Waiting}
use Rattle.key_table.specs.inside.Waiting.{numbers_of}
use Rattle.key_table.proofs.Listed.{times_permuted}
use Rattle.key_table.proofs.waiting.sort_all.Goals as goal

pub returns-clause-numbers : goal.returns-clause-numbers
returns-clause-numbers g c n =
    let noted = c.note_all.new.waiting.items in
    let sorted = c.sort_unstable_by_key.new.self.items in
    let same = times_permuted (numbers_of noted) (numbers_of sorted) (IsPermutation-map (λ (w : Waiting). w.number) noted sorted c.sort_unstable_by_key.ensures.permutation) n in
    sym (ap (times n) c.note_all.ensures.numbers) ∙ (same ∙ sym (ap (times n) c.take_all.ensures.numbers))
