-- What the mode writes of a script: an answer to each command, computed on the map of a value store, and what is held at the end.
use Rattle.std.specs.Prelude.{ℕ, ◌+◌, ◌/◌, nat_lt, List, [], ◌∷◌, ◌++◌, length, take, drop, replicate, Option, None, Some, is_some, slice_set, codes, decimal, if◌then◌else◌}
use Rattle.std.specs.List.{count_by}
use Rattle.layout.specs.Sizes.{segment_pages}
use Rattle.segmented_store.specs.Room.{room}
use Rattle.fragments.specs.Sizes.{size}
use Rattle.fragments.specs.Values.{Values, value_of, live}
use Rattle.value_script.specs.Order as orders
use Rattle.value_script.specs.Order.{Order}

pub data Answer : Type 0 where
  WasSet : Answer
  Full : Answer
  -- the length of the value, and some of its bytes
  Value : ℕ → List ℕ → Answer
  Dropped : Answer
  Missing : Answer

-- a value is set where its bytes and the live ones, with the old value of the name, have room
abbrev pub set : ℕ → Values → ℕ → List ℕ → Values × Answer
set bytes values name value =
    if nat_lt bytes (live values + size (length value)) then (values, Full) else (slice_set values name (Some value), WasSet)

abbrev pub read : ℕ → ℕ → Option (List ℕ) → Answer
read at count None = Missing
read at count (Some value) = Value (length value) (take count (drop at value))

abbrev pub dropped : Option (List ℕ) → Answer
dropped None = Missing
dropped (Some value) = Dropped

-- what a command does to values that have room for so many bytes, and its answer
abbrev pub done : ℕ → Values → Order → Values × Answer
done bytes values (orders.Set name value) = set bytes values name value
done bytes values (orders.Read name at count) = (values, read at count (value_of values name))
done bytes values (orders.Drop name) = (slice_set values name None, dropped (value_of values name))

abbrev pub answer_text : Answer → List ℕ
answer_text WasSet = codes "set"
answer_text Full = codes "full"
answer_text (Value len bytes) = codes "value " ++ decimal len ++ codes " " ++ bytes
answer_text Dropped = codes "dropped"
answer_text Missing = codes "missing"

-- the text of a line, and its LF
abbrev pub line : List ℕ → List ℕ
line text = text ++ codes "\n"

-- the answer to the command with a number
abbrev pub answer_line : ℕ → Answer → List ℕ
answer_line number answer = line (decimal number ++ codes " " ++ answer_text answer)

-- how many names have a value, and the live bytes
abbrev pub last_line : Values → List ℕ
last_line values = line (codes "values " ++ decimal (count_by is_some values) ++ codes " live " ++ decimal (live values))

-- the answers to these commands, of which the first has this number, and the last line
abbrev pub text_from : ℕ → ℕ → Values → List Order → List ℕ
text_from bytes number values [] = last_line values
text_from bytes number values (order ∷ later) =
    answer_line number (done bytes values order).1 ++ text_from bytes (number + 1) (done bytes values order).0 later

-- no name has a value
abbrev pub no_values : Values
no_values = replicate orders.names None

-- the text of a script with so many pages, which are cut into segments
unfoldable pub values_text : List Order → ℕ → List ℕ
values_text script pages = text_from (room (pages / segment_pages)) 1 no_values script
