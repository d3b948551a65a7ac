-- How long the keys of a trace are, where they bound the body of a reply.
use Rattle.std.specs.Prelude.{◌≤◌, ◌≡◌, true, length, All}
use Rattle.layout.specs.Sizes as sizes
use Rattle.rows.specs.Spelled.{IsKey}
use Rattle.rows.specs.Operation.{is_put}
use Rattle.trace_text.specs.Trace.{Trace}

-- no put has a longer key than a trace can have
abbrev pub HasShortKeys : Trace → Type 0
HasShortKeys trace = All (λ operation. is_put operation.kind ≡ true → length operation.key.bytes ≤ sizes.greatest_key) trace.operations

-- nor an empty one
abbrev pub HasKeys : Trace → Type 0
HasKeys trace = All (λ operation. is_put operation.kind ≡ true → IsKey operation.key.bytes) trace.operations
