-- The operations that are left to do, and what they take.
use Rattle.std.specs.Prelude.{ℕ, ◌+◌, List, length, count_by, sum_by}
use Rattle.rows.specs.Operation.{Operation, is_put}
use Rattle.trace_text.specs.Parts.{longest_value}
use Rattle.trace_text.specs.Trace.{Trace}
use Rattle.rows.specs.Bodies.{most_of_body}

abbrev pub puts_among : List Operation → ℕ
puts_among operations = count_by (λ operation. is_put operation.kind) operations

-- the entries that they take in a journal: one each, and one for the eviction of the row of each put
abbrev pub work : List Operation → ℕ
work operations = length operations + puts_among operations

-- the most bytes of the replies to them, as commands of the trace
abbrev pub bodies : Trace → List Operation → ℕ
bodies trace operations = sum_by (λ operation. most_of_body (longest_value trace) operation) operations
