-- What a user of a cache counts on: while the live bytes stay within the floor no row goes, and a get finds what was put last.
use Rattle.std.specs.Prelude.{◌≡◌, ℕ, ◌≤◌, List, [], ◌∷◌, ◌++◌, filter_map, if◌then◌else◌, Option, Some, None}
use Rattle.std.specs.Option.{option_map}
use Rattle.rows.specs.declared.kind.Kind.TheVariants as kinds
use Rattle.rows.specs.declared.kind.Kind.{Kind}
use Rattle.rows.specs.Key.{Key, is_same_key}
use Rattle.rows.specs.Operation.{Operation}
use Rattle.trace_text.specs.Trace.{Trace}
use Rattle.cache_model.specs.declared.entry.Entry.{Entry}
use Rattle.rows.specs.Row.{Row, live}
use Rattle.rows.specs.Apply.{Reply, Missing, Value, row_of}
use Rattle.cache_model.specs.Legal.{cache_after, command_of, done}

-- along a journal no more bytes are live than the bound
abbrev pub StaysWithin : Trace → ℕ → ℕ → List Entry → Type 0
StaysWithin trace pages bound journal = (before later : List Entry) (cache : List Row)
    → journal ≡ before ++ later → cache_after trace pages before ≡ Some cache → live cache ≤ bound

-- the value that a key has among some rows
abbrev pub value_of : Key → List Row → Option (List ℕ)
value_of key cache = option_map (λ row. row.value) (row_of key cache)

-- what a command makes of the value of a key: a put of the key sets it, and an erase of the key takes it away
abbrev pub set_by : Kind → Operation → Key → Option (List ℕ) → Option (List ℕ)
set_by kinds.Put operation key value = if is_same_key operation.key key then Some operation.value else value
set_by kinds.Get operation key value = value
set_by kinds.Erase operation key value = if is_same_key operation.key key then None else value
set_by kinds.Scan operation key value = value

-- the value of a key behind commands, one after the other, as if nothing ever went
abbrev pub value_behind : Key → List Operation → Option (List ℕ) → Option (List ℕ)
value_behind key [] value = value
value_behind key (operation ∷ operations) value = value_behind key operations (set_by operation.kind operation key value)

-- the commands that are done in a journal, in order
abbrev pub commands_done : Trace → List Entry → List Operation
commands_done trace journal = filter_map (command_of trace) (done journal)

-- the reply of a get
abbrev pub reply_of_get : Option (List ℕ) → Reply
reply_of_get None = Missing
reply_of_get (Some value) = Value value
