-- What contracts see of a trace that was read.
use Rattle.std.specs.Prelude.{◌≡◌, ℕ, ◌+◌, ◌<◌, ◌≤◌, List, length, map, slice_index_or, None, Ok, All}
use Rattle.layout.specs.Sizes.{greatest_key, greatest_value, most_trace_bytes, tables}
use Rattle.rows.specs.Operation.{Operation, HasItsFields}
use Rattle.trace_text.specs.declared.command.Command.{Command}
use Rattle.trace_text.specs.Line.{key_fault, value_fault}
use Rattle.trace_text.specs.Operation.{operations, part}
use Rattle.trace_text.specs.Parts.{most_shards, replies_room}
use Rattle.trace_text.specs.Reading.{command_lines, line_numbers, lines, version_in, most_commands, most_replies, operations_of}
use Rattle.trace_text.specs.Trace.{Trace, trace_with}

pub record Parsed : Type 0 where
  pub bytes : List ℕ
  pub commands : List Command
  -- the number of shards that the trace was parsed for
  pub shards : ℕ

-- what the commands of a trace ask, in order
abbrev pub trace_in : Parsed → Trace
trace_in trace = trace_with (version_in trace.bytes) (operations trace.bytes trace.commands)

-- what a command of an accepted trace asks
pub record IsWellFormed (operation : Operation) : Type 0 where
  pub table : operation.key.table < tables
  pub key : key_fault operation.key.bytes ≡ None
  pub value : value_fault operation.value ≡ None
  pub fields : HasItsFields operation.kind operation.value operation.count
  -- what this says of lengths, in bytes
  pub key_some : 1 ≤ length operation.key.bytes
  pub key_most : length operation.key.bytes ≤ greatest_key
  pub value_most : length operation.value ≤ greatest_value

-- the command's key and value lie in the bytes
pub record LiesWithin (bytes : List ℕ) (command : Command) : Type 0 where
  pub table : command.table < tables
  pub key : command.key.start + command.key.len ≤ length bytes
  pub value : command.value.start + command.value.len ≤ length bytes
  pub key_some : 1 ≤ command.key.len
  pub key_most : command.key.len ≤ greatest_key
  pub value_most : command.value.len ≤ greatest_value
  pub is_key : key_fault (part bytes command.key) ≡ None
  pub is_value : value_fault (part bytes command.value) ≡ None
  pub fields : HasItsFields command.kind (part bytes command.value) command.count

-- commands are numbered from 1, in order
abbrev pub AreNumbered : List Command → Type 0
AreNumbered commands = (k : ℕ) (d : Command) → k < length commands → (slice_index_or commands k d).number ≡ k + 1

-- the commands are those that the bytes spell
pub record AreSpelled (bytes : List ℕ) (commands : List Command) : Type 0 where
  pub read : operations_of (version_in bytes) 1 (command_lines (version_in bytes) (lines bytes)) ≡ Ok (operations bytes commands)
  pub numbered : AreNumbered commands
  pub placed : map (λ command. command.line) commands ≡ line_numbers bytes
  pub within : All (LiesWithin bytes) commands
  pub few : length commands ≤ most_commands

pub record IsConsistent (trace : Parsed) : Type 0 where
  pub spelled : AreSpelled trace.bytes trace.commands
  pub short : length trace.bytes ≤ most_trace_bytes
  pub room : replies_room (trace_in trace) trace.shards ≤ most_replies
  pub some_shards : 1 ≤ trace.shards
  pub most_shards : trace.shards ≤ most_shards
