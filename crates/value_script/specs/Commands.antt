-- The commands of a script that was read, and the limits that it keeps.
use Rattle.std.specs.Prelude.{ℕ, ◌<◌, ◌≤◌, List, length, map}
use Rattle.trace_text.specs.Operation.{part}
use Rattle.value_script.specs.declared.command.Command.{Command}
use Rattle.value_script.specs.declared.command.Command.TheVariants as commands
use Rattle.value_script.specs.Order.{names, greatest_value, greatest_at, greatest_count, Order, Set, Read, Drop}

-- a command with the value in place of where that stands in the script
abbrev pub order : List ℕ → Command → Order
order bytes (commands.Set name value) = Set name (part bytes value)
order bytes (commands.Read name at count) = Read name at count
order bytes (commands.Drop name) = Drop name

abbrev pub orders : List ℕ → List Command → List Order
orders bytes commands = map (order bytes) commands

-- the limits that a script keeps
abbrev pub IsWellFormed : Order → Type 0
IsWellFormed (Set name value) = (name < names) × (length value ≤ greatest_value)
IsWellFormed (Read name at count) = (name < names) × (at ≤ greatest_at) × (count ≤ greatest_count)
IsWellFormed (Drop name) = name < names
