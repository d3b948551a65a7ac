-- What contracts see of a script that was read.
use Rattle.std.specs.Prelude.{◌≡◌, ℕ, ◌+◌, ◌≤◌, List, length, Ok, All}
use Rattle.trace_text.specs.Reading.{most_commands}
use Rattle.value_script.specs.declared.command.Command.{Command}
use Rattle.value_script.specs.declared.command.Command.TheVariants as commands
use Rattle.value_script.specs.Order.{Order}
use Rattle.value_script.specs.Commands.{order, orders, IsWellFormed}
use Rattle.value_script.specs.Reading.{script_of}

pub record Parsed : Type 0 where
  pub bytes : List ℕ
  pub commands : List Command

-- what the commands of a script ask, in order
abbrev pub script_in : Parsed → List Order
script_in script = orders script.bytes script.commands

-- the command's value lies in the bytes
abbrev pub LiesWithin : List ℕ → Command → Type 0
LiesWithin bytes (commands.Set name value) = value.start + value.len ≤ length bytes
LiesWithin bytes (commands.Read name at count) = Unit {0}
LiesWithin bytes (commands.Drop name) = Unit {0}

-- the command's value lies in the bytes, and what it asks keeps the limits
pub record IsSound (bytes : List ℕ) (command : Command) : Type 0 where
  pub within : LiesWithin bytes command
  pub well_formed : IsWellFormed (order bytes command)

pub record IsConsistent (script : Parsed) : Type 0 where
  pub read : script_of script.bytes ≡ Ok (script_in script)
  pub sound : All (IsSound script.bytes) script.commands
  pub few : length script.commands ≤ most_commands
