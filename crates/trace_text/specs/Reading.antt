-- The reading of a trace.
use Rattle.std.specs.Prelude.{ℕ, ◌==◌, ◌-◌, nat_lt, Bool, false, not, List, [], ◌∷◌, ◌++◌, length, take, drop, codes, map, filter, Option, Some, None, Result, Ok, Err, if◌then◌else◌, ◌≡◌}
use Rattle.std.specs.List.{slice_get, slice_split, enumerate_from}
use Rattle.std.specs.Str.{bytes_eq}
use Rattle.trace_text.specs.declared.refusal.Cause.{Cause}
use Rattle.trace_text.specs.declared.refusal.Cause.TheVariants.{TooManyCommands, RepliesTooLarge}
use Rattle.trace_text.specs.declared.refusal.ParseRefusal.{ParseRefusal}
use Rattle.trace_text.specs.declared.refusal.ParseRefusal.TheVariants as refusals
use Rattle.trace_text.specs.Line.{Fields, fields_of, is_passed}
use Rattle.rows.specs.Operation.{Operation}
use Rattle.layout.specs.Sizes.{most_trace_bytes}
use Rattle.trace_text.specs.Parts.{replies_room}
use Rattle.trace_text.specs.Trace.{Trace, trace_with}

-- why a trace is refused: it is too long, or a line has a cause; line 0 stands for all of them
pub data Refusal : Type 0 where
  TooLong : Refusal
  AtLine : ℕ → Cause → Refusal

-- the most commands of a trace, and the most bytes of replies
abbrev pub most_commands : ℕ
most_commands = 1048576

abbrev pub most_replies : ℕ
most_replies = 536870912

-- a line drops one CR at its end
abbrev pub is_cr : Option ℕ → Bool
is_cr None = false
is_cr (Some b) = b == 13

abbrev pub strip_cr : List ℕ → List ℕ
strip_cr text = if is_cr (slice_get text (length text - 1)) then take (length text - 1) text else text

-- the bytes cut at each LF; what stands behind the last LF is a line too
abbrev pub lines : List ℕ → List (List ℕ)
lines bytes = map strip_cr (slice_split (λ b. b == 10) bytes)

-- a trace is of version 2 where its first line says so, else of version 1
abbrev pub is_two : Option (List ℕ) → Bool
is_two None = false
is_two (Some text) = bytes_eq text (codes "version 2")

abbrev pub version_in : List ℕ → ℕ
version_in bytes = if is_two (slice_get (lines bytes) 0) then 2 else 1

-- of these lines, of which the first has this number, those that are not passed over, each with its number
abbrev pub lines_from : ℕ → List (List ℕ) → List (ℕ × List ℕ)
lines_from first texts = filter (λ line. not (is_passed line.1)) (enumerate_from first texts)

-- the lines behind the one that says the version, each with its number
abbrev pub lines_of : ℕ → List (List ℕ) → List (ℕ × List ℕ)
lines_of version texts = if version == 2 then drop 1 (enumerate_from 1 texts) else enumerate_from 1 texts

-- those that are not passed over
abbrev pub command_lines : ℕ → List (List ℕ) → List (ℕ × List ℕ)
command_lines version texts = filter (λ line. not (is_passed line.1)) (lines_of version texts)

-- the numbers of these lines: on which line each command stands
abbrev pub line_numbers : List ℕ → List ℕ
line_numbers bytes = map (λ line. line.0) (command_lines (version_in bytes) (lines bytes))

-- what a line asks, as the command with this number
abbrev pub numbered : ℕ → Fields → Operation
numbered number fields = record {
  number = number;
  kind = fields.kind;
  key = fields.key;
  value = fields.value;
  count = fields.count;
}

abbrev pub numbered_reading : ℕ → ℕ → Result Fields Cause → Result Operation Refusal
numbered_reading number line (Err cause) = Err (AtLine line cause)
numbered_reading number line (Ok fields) = Ok (numbered number fields)

-- a line by itself is a command or has a cause, but of a command too many nothing is read
abbrev pub line_reading : ℕ → ℕ × (ℕ × List ℕ) → Result Operation Refusal
line_reading version (number, (line, text)) =
    if nat_lt most_commands number then Err (AtLine line TooManyCommands) else numbered_reading number line (fields_of version text)

-- all the commands, or the first refusal
abbrev pub with_front : List Operation → Result (List Operation) Refusal → Result (List Operation) Refusal
with_front front (Err refusal) = Err refusal
with_front front (Ok operations) = Ok (front ++ operations)

abbrev pub with_first : Result Operation Refusal → Result (List Operation) Refusal → Result (List Operation) Refusal
with_first (Err refusal) later = Err refusal
with_first (Ok operation) later = with_front (operation ∷ []) later

abbrev pub collected : List (Result Operation Refusal) → Result (List Operation) Refusal
collected [] = Ok []
collected (reading ∷ readings) = with_first reading (collected readings)

-- the commands that these lines of a version are, where the first of them has this number
abbrev pub operations_of : ℕ → ℕ → List (ℕ × List ℕ) → Result (List Operation) Refusal
operations_of version first texts = collected (map (line_reading version) (enumerate_from first texts))

-- of n shards: the replies must have room
abbrev pub answerable : ℕ → ℕ → Result (List Operation) Refusal → Result Trace Refusal
answerable version n (Err refusal) = Err refusal
answerable version n (Ok operations) =
    let trace = trace_with version operations in
    if nat_lt most_replies (replies_room trace n) then Err (AtLine 0 RepliesTooLarge) else Ok trace

-- what the bytes of a trace mean for a run of n shards
abbrev pub trace_of : List ℕ → ℕ → Result Trace Refusal
trace_of bytes n =
    let version = version_in bytes in
    if nat_lt most_trace_bytes (length bytes) then Err TooLong
    else answerable version n (operations_of version 1 (command_lines version (lines bytes)))

-- the refusal of `parse` is the one of the reading; want of memory says nothing of it
abbrev pub IsRefusedAs : {T : Type 0} → ParseRefusal → Result T Refusal → Type 0
IsRefusedAs (refusals.Trace line cause) reading = reading ≡ Err (AtLine line cause)
IsRefusedAs refusals.Memory reading = Unit {0}
