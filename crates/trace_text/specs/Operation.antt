-- What a command of a trace asks.
use Rattle.std.specs.Prelude.{ℕ, List, map, take, drop}
use Rattle.rows.specs.Key.{in_table}
use Rattle.rows.specs.Operation.{Operation}
use Rattle.trace_text.specs.declared.command.Command.{Command}
use Rattle.trace_text.specs.declared.command.Span.{Span}

-- the bytes of a span
abbrev pub part : List ℕ → Span → List ℕ
part bytes span = take span.len (drop span.start bytes)

-- a command with its bytes, in place of where they stand in the trace
abbrev pub operation : List ℕ → Command → Operation
operation bytes command = record {
  number = command.number;
  kind = command.kind;
  key = in_table command.table (part bytes command.key);
  value = part bytes command.value;
  count = command.count;
}

abbrev pub operations : List ℕ → List Command → List Operation
operations bytes commands = map (operation bytes) commands
