-- The reading of a script.
use Rattle.std.specs.Prelude.{◌≡◌, ℕ, ◌+◌, nat_lt, List, [], ◌∷◌, length, Result, Ok, Err, if◌then◌else◌}
use Rattle.layout.specs.Sizes.{most_trace_bytes}
use Rattle.trace_text.specs.Reading.{lines, lines_from, most_commands}
use Rattle.value_script.specs.declared.refusal.Cause.{Cause}
use Rattle.value_script.specs.declared.refusal.Cause.TheVariants.{TooManyCommands}
use Rattle.value_script.specs.declared.refusal.ScriptRefusal.{ScriptRefusal}
use Rattle.value_script.specs.declared.refusal.ScriptRefusal.TheVariants as refusals
use Rattle.value_script.specs.Line.{order_of}
use Rattle.value_script.specs.Order.{Order}

-- why a script is refused: it is too long, or a line has a cause
pub data Refusal : Type 0 where
  TooLong : Refusal
  AtLine : ℕ → Cause → Refusal

-- a line by itself asks something or has a cause
abbrev pub at_line : ℕ → Result Order Cause → Result Order Refusal
at_line line (Err cause) = Err (AtLine line cause)
at_line line (Ok order) = Ok order

-- behind so many commands; of a command too many nothing is read
abbrev pub line_reading : ℕ → ℕ → List ℕ → Result Order Refusal
line_reading before line text = if nat_lt before most_commands then at_line line (order_of text) else Err (AtLine line TooManyCommands)

-- all of them, or the first refusal
abbrev pub with_later : Order → Result (List Order) Refusal → Result (List Order) Refusal
with_later order (Err refusal) = Err refusal
with_later order (Ok orders) = Ok (order ∷ orders)

abbrev pub with_first : Result Order Refusal → Result (List Order) Refusal → Result (List Order) Refusal
with_first (Err refusal) later = Err refusal
with_first (Ok order) later = with_later order later

-- what these lines ask, each of which has its number, behind so many commands
abbrev pub orders_of : ℕ → List (ℕ × List ℕ) → Result (List Order) Refusal
orders_of before [] = Ok []
orders_of before ((line, text) ∷ texts) = with_first (line_reading before line text) (orders_of (before + 1) texts)

-- What the bytes of a script mean. Lines are cut, passed over and numbered as those of a trace.
abbrev pub script_of : List ℕ → Result (List Order) Refusal
script_of bytes = if nat_lt most_trace_bytes (length bytes) then Err TooLong else orders_of 0 (lines_from 1 (lines bytes))

-- the refusal of `parse_script` is the one of the reading; want of memory says nothing of it
abbrev pub IsRefusedAs : {T : Type 0} → ScriptRefusal → Result T Refusal → Type 0
IsRefusedAs (refusals.Script line cause) reading = reading ≡ Err (AtLine line cause)
IsRefusedAs refusals.Memory reading = Unit {0}
