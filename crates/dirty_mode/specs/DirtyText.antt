-- What is written of a trace whose puts stay until they are flushed.
use Rattle.std.specs.Prelude.{ℕ, ◌+◌, ◌/◌, nat_le, if◌then◌else◌, List, [], ◌∷◌, ◌++◌, map, flat_map, codes, decimal, count_by, Option, None, Some}
use Rattle.layout.specs.Sizes.{segment_pages}
use Rattle.rows.specs.declared.kind.Kind.{Kind}
use Rattle.rows.specs.declared.kind.Kind.TheVariants.{Put, Get, Erase, Scan}
use Rattle.rows.specs.Key.{in_table}
use Rattle.rows.specs.Operation.{Operation, is_put}
use Rattle.trace_text.specs.Trace.{Trace}
use Rattle.rows.specs.Row.{Row, size, live}
use Rattle.segmented_store.specs.Room.{room}
use Rattle.dirty_region.specs.Lines.{newest, line as put_line}

-- ---- lines

-- a put that is flushed, or what a command is answered, with its number: the newest value of its key that is not flushed, that
-- there is none, or that the command is passed over
pub data Line : Type 0 where
  Flushed : Row → Line
  Unflushed : ℕ → List ℕ → Line
  Clean : ℕ → Line
  Passed : ℕ → Line

abbrev pub line_text : Line → List ℕ
line_text (Flushed put) = put_line put
line_text (Unflushed number value) = decimal number ++ codes " dirty " ++ value ++ codes "\n"
line_text (Clean number) = decimal number ++ codes " clean\n"
line_text (Passed number) = decimal number ++ codes " passed\n"

abbrev pub text_of : List Line → List ℕ
text_of lines = flat_map line_text lines

-- ---- the queue: the puts that are not flushed, oldest first

-- Before an object of so many bytes comes, the oldest puts are flushed while the bytes of the queue with the object's are more than
-- the most: those that go, and those that stay.
abbrev pub going : ℕ → ℕ → List Row → List Row
going most bytes [] = []
going most bytes (put ∷ puts) = if nat_le (live (put ∷ puts) + bytes) most then [] else put ∷ going most bytes puts

abbrev pub staying : ℕ → ℕ → List Row → List Row
staying most bytes [] = []
staying most bytes (put ∷ puts) = if nat_le (live (put ∷ puts) + bytes) most then put ∷ puts else staying most bytes puts

-- ---- the commands

-- A key is its bytes: all puts are of table 0, and a trace that names tables is not run.

abbrev pub row_of : Operation → Row
row_of operation = record { key = in_table 0 operation.key.bytes; value = operation.value; number = operation.number }

abbrev pub get_line : ℕ → Option (List ℕ) → Line
get_line number None = Clean number
get_line number (Some value) = Unflushed number value

-- the lines of a command, and the queue behind it
abbrev pub lines_of : Kind → ℕ → Operation → List Row → List Line
lines_of Put most operation puts = map Flushed (going most (size operation.key.bytes operation.value) puts)
lines_of Get most operation puts = get_line operation.number (newest operation.key.bytes puts) ∷ []
lines_of Erase most operation puts = Passed operation.number ∷ []
lines_of Scan most operation puts = Passed operation.number ∷ []

abbrev pub puts_after : Kind → ℕ → Operation → List Row → List Row
puts_after Put most operation puts = staying most (size operation.key.bytes operation.value) puts ++ row_of operation ∷ []
puts_after Get most operation puts = puts
puts_after Erase most operation puts = puts
puts_after Scan most operation puts = puts

-- the lines of commands, and at the end those of the puts that are left
abbrev pub lines_from : ℕ → List Operation → List Row → List Line
lines_from most [] puts = map Flushed puts
lines_from most (operation ∷ operations) puts =
    lines_of operation.kind most operation puts ++ lines_from most operations (puts_after operation.kind most operation puts)

-- ---- a trace, with so many pages for the puts

abbrev pub lines : Trace → ℕ → List Line
lines trace pages = lines_from (room (pages / segment_pages)) trace.operations []

abbrev pub put_count : Trace → ℕ
put_count trace = count_by (λ operation. is_put operation.kind) trace.operations

-- the lines, and how many puts there are
unfoldable pub dirty_text : Trace → ℕ → List ℕ
dirty_text trace pages = text_of (lines trace pages) ++ codes "dirty " ++ decimal (put_count trace) ++ codes "\n"
