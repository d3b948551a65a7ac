-- Numbers that wait, with first bytes of their keys.
use Rattle.std.specs.Prelude.{ℕ, List, map}
use Rattle.key_table.specs.declared.waiting.Waiting.{Waiting}

abbrev pub numbers_of : List Waiting → List ℕ
numbers_of waiting = map (λ w. w.number) waiting
