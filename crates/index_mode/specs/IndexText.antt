-- What is written of a trace whose puts set the numbers of keys in an index: an answer to each command, computed on the list of keys.
use Rattle.std.specs.Prelude.{ℕ, ◌/◌, nat_lt, if◌then◌else◌, List, [], ◌∷◌, ◌++◌, length, map, take, flat_map, codes, decimal, Option, None, Some, Result, Ok, Err}
use Rattle.layout.specs.Sizes.{segment_pages}
use Rattle.rows.specs.declared.kind.Kind.{Kind}
use Rattle.rows.specs.declared.kind.Kind.TheVariants as kinds
use Rattle.rows.specs.Operation.{Operation}
use Rattle.trace_text.specs.Trace.{Trace}
use Rattle.index_tree.specs.Indexes.{Index, from, number_of, with_number, without}
use Rattle.index_tree.specs.Sizes.{most}

-- A key is its bytes: a trace that names tables is not run.

-- what a command is answered; of a get the number of its key, of a scan the keys
pub data Answer : Type 0 where
  Stored : Answer
  Replaced : Answer
  Full : Answer
  At : ℕ → Answer
  Erased : Answer
  Missing : Answer
  Keys : List (List ℕ) → Answer

-- A put sets the number of its key. A key that is not there comes in where fewer are held than the most.
abbrev pub put : ℕ → Operation → Index → Option ℕ → Index × Answer
put bound operation index (Some number) = (with_number operation.key.bytes operation.number index, Replaced)
put bound operation index None =
    if nat_lt (length index) bound then (with_number operation.key.bytes operation.number index, Stored) else (index, Full)

-- the same, of what an insertion tells: the number that the key had, or that there is no room
abbrev pub put_answer : {E : Type 0} → Result (Option ℕ) E → Answer
put_answer (Ok None) = Stored
put_answer (Ok (Some number)) = Replaced
put_answer (Err e) = Full

abbrev pub found : Option ℕ → Answer
found None = Missing
found (Some number) = At number

abbrev pub erased : Option ℕ → Answer
erased None = Missing
erased (Some number) = Erased

-- the keys of a scan
abbrev pub scanned_keys : Operation → Index → List (List ℕ)
scanned_keys operation index = map (λ entry. entry.key) (take operation.count (from operation.key.bytes index))

-- what a command does to an index of so many keys at most, and its answer
abbrev pub done : Kind → ℕ → Operation → Index → Index × Answer
done kinds.Put bound operation index = put bound operation index (number_of operation.key.bytes index)
done kinds.Get bound operation index = (index, found (number_of operation.key.bytes index))
done kinds.Erase bound operation index = (without operation.key.bytes index, erased (number_of operation.key.bytes index))
done kinds.Scan bound operation index = (index, Keys (scanned_keys operation index))

-- the index behind these commands
abbrev pub index_after : ℕ → Index → List Operation → Index
index_after bound index [] = index
index_after bound index (operation ∷ operations) = index_after bound (done operation.kind bound operation index).0 operations

-- the index that a trace leaves, with so many pages for the nodes
unfoldable pub index_left : Trace → ℕ → Index
index_left trace pages = index_after (most (pages / segment_pages)) [] trace.operations

-- ---- the text

abbrev pub answer_text : Answer → List ℕ
answer_text Stored = codes "stored"
answer_text Replaced = codes "replaced"
answer_text Full = codes "full"
answer_text (At number) = codes "at " ++ decimal number
answer_text Erased = codes "erased"
answer_text Missing = codes "missing"
answer_text (Keys keys) = codes "keys" ++ flat_map (λ key. 32 ∷ key) keys

abbrev pub answer_line : ℕ → Answer → List ℕ
answer_line number answer = decimal number ++ codes " " ++ answer_text answer ++ codes "\n"

-- how many keys are held
abbrev pub last_line : Index → List ℕ
last_line index = codes "index " ++ decimal (length index) ++ codes "\n"

-- the answers to these commands, and the last line
abbrev pub text_from : ℕ → Index → List Operation → List ℕ
text_from bound index [] = last_line index
text_from bound index (operation ∷ operations) =
    answer_line operation.number (done operation.kind bound operation index).1
    ++ text_from bound (done operation.kind bound operation index).0 operations

-- the text of a trace, with so many pages for the nodes
unfoldable pub index_text : Trace → ℕ → List ℕ
index_text trace pages = text_from (most (pages / segment_pages)) [] trace.operations
