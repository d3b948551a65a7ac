-- A trace: what it asks, in order.
use Rattle.std.specs.Prelude.{ℕ, ◌==◌, List, if◌then◌else◌}
use Rattle.layout.specs.Sizes.{tables}
use Rattle.rows.specs.Operation.{Operation}

pub record Trace : Type 0 where
  -- 1 or 2: in version 2 each command names a table
  pub version : ℕ
  -- in the order of their numbers
  pub operations : List Operation

abbrev pub trace_with : ℕ → List Operation → Trace
trace_with version operations = record { version = version; operations = operations }

-- the regions of a version: in version 2 the rows of each table stand in segments of their own
abbrev pub regions_in : ℕ → ℕ
regions_in version = if version == 2 then tables else 1

abbrev pub regions : Trace → ℕ
regions trace = regions_in trace.version
