use Rattle.std.proofs.Common.{◌≤◌, sym, subst, arith}
use Rattle.common_lemmas.specs.Lists.{times}
use Rattle.key_table.proofs.Listed.{at_listed}
use Rattle.key_table.proofs.waiting.note_all.Goals as goal

pub key-key-requires : goal.key-key-requires
key-key-requires g c =
    let numbers = c.args.numbers.now.items in
    c.requires.readable c.number_at-number.result (subst (λ n. 1 ≤ times n numbers) (sym c.number_at-number.ensures) (at_listed numbers c.loop-at.at (omega arith)))
