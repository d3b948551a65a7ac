-- A field's offset in a part of a line, and in the line.
use Rattle.std.proofs.Common.{◌≡◌, ℕ, ◌+◌, ◌-◌, ◌≤◌, Bool, true, false, cond, leb, ltb, List, length, take, drop, get_or, Option, None, Some, Ok, All, arith, refl, sym, ◌∙◌}
use Rattle.std.proofs.lemmas.List.{drop-drop, drop-take, take-take}
use Rattle.std.proofs.lemmas.List.Elements.{All-map}
use Rattle.std.proofs.lemmas.Bool.Decides.{nat_tests}
use Rattle.std.proofs.lemmas.Bool.{and_parts, leb-true, le-ltb}
use Rattle.trace_text.specs.declared.command.Command.{Command}
use Rattle.trace_text.specs.declared.refusal.Cause.{Cause}
use Rattle.layout.specs.Sizes.{greatest_key, greatest_value}
use Rattle.trace_text.specs.inside.Found.{LiesAt, IsRestOf}
use Rattle.trace_text.specs.Line.{Fields, fields_of, key_fault, value_fault}
use Rattle.trace_text.specs.Reading.{line_reading, most_commands, numbered}
use Rattle.trace_text.specs.Operation.{operation, operations}
use Rattle.trace_text.specs.Parsed.{IsWellFormed, LiesWithin}

-- what lies in an end of the text lies so much further on in the text
pub lies_within : (text rest field : List ℕ) (at : ℕ) → IsRestOf text rest → LiesAt rest at field
    → LiesAt text (length text - length rest + at) field
lies_within text rest field at is lies = (omega arith, rw (← drop-drop at (length text - length rest) text, is.1) lies.1)

-- a part of the front of a list is that part of the list
part_of_front : (xs : List ℕ) (n m front : ℕ) → n + m ≤ front → take m (drop n (take front xs)) ≡ take m (drop n xs)
part_of_front xs n m front within =
    let e : front ≡ n + (front - n) = omega arith in
    let le : m ≤ front - n = omega arith in
    rw (e, drop-take n (front - n) xs, take-take m (front - n) (drop n xs) le) refl

-- what lies in a text that lies in another lies in the other
pub lies_in_outer : (outer_text text field : List ℕ) (start at : ℕ) → LiesAt outer_text start text → LiesAt text at field
    → LiesAt outer_text (start + at) field
lies_in_outer outer_text text field start at outer inner =
    let e : take (length field) (drop at (take (length text) (drop start outer_text))) ≡ field = rw outer.1 inner.1 in
    (omega arith, rw (← drop-drop at start outer_text) (sym (part_of_front (drop start outer_text) at (length field) (length text) inner.0) ∙ e))

fault_where : (fits : Bool) (inner : Option Cause) (cause : Cause) → cond fits inner (Some cause) ≡ None → fits ≡ true
fault_where true inner cause e = refl
fault_where false inner cause e = cc

pub key-some : (key : List ℕ) → key_fault key ≡ None → 1 ≤ length key
key-some key sound =
    let some : ltb 0 (length key) ≡ true = (and_parts (ltb 0 (length key)) (leb (length key) greatest_key) (fault_where _ _ _ sound)).0 in
    grind (arith, nat_tests)

pub key-most : (key : List ℕ) → key_fault key ≡ None → length key ≤ greatest_key
key-most key sound = leb-true _ _ (and_parts _ _ (fault_where _ _ _ sound)).1

pub value-most : (value : List ℕ) → value_fault value ≡ None → length value ≤ greatest_value
value-most value sound = leb-true _ _ (fault_where _ _ _ sound)

-- what is true of each command's fields is true of what the commands ask
pub well_formed : (bytes : List ℕ) (commands : List Command) → All (LiesWithin bytes) commands → All IsWellFormed (operations bytes commands)
well_formed bytes commands lie =
    All-map IsWellFormed (operation bytes) commands (λ k d within.
    let lies : LiesWithin bytes (get_or commands k d) = lie k d within in
    record {
      table = lies.table;
      key = lies.is_key;
      value = lies.is_value;
      fields = lies.fields;
      key_some = key-some _ lies.is_key;
      key_most = key-most _ lies.is_key;
      value_most = value-most _ lies.is_value;
    })

-- a line that asks this is line_reading to be its command
pub line_reading_is : (version number line : ℕ) (text : List ℕ) (fields : Fields) → number ≤ most_commands → Ok fields ≡ fields_of version text
    → line_reading version (number, (line, text)) ≡ Ok (numbered number fields)
line_reading_is version number line text fields few e = rw (le-ltb _ _ few, ← e) refl
