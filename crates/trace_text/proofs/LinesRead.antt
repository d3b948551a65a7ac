-- The loop over the lines of a trace.
use Rattle.std.proofs.Common.{◌≡◌, ℕ, ◌+◌, ◌-◌, ◌<◌, ◌≤◌, Bool, true, false, cond, not, List, [], ◌∷◌, ◌++◌, length, map, append_assoc, length-append, Result, Ok, Err, arith, refl, sym, ap, ◌∙◌, inl, inr}
use Rattle.std.proofs.lemmas.Bool.{cases_lt}
use Rattle.std.proofs.lemmas.List.{append-nil, drop-drop, map-append, get_or_append_left}
use Rattle.std.proofs.Math.Seq.{get_or-append_seam}
use Rattle.std.proofs.lemmas.List.Elements.{All-push}
use Rattle.std.specs.Prelude.{All}
use Rattle.trace_text.specs.declared.command.Command.{Command}
use Rattle.trace_text.specs.declared.refusal.Cause.{Cause}
use Rattle.trace_text.specs.declared.refusal.ParseRefusal.{ParseRefusal}
use Rattle.trace_text.specs.declared.refusal.ParseRefusal.TheVariants as refusals
use Rattle.trace_text.specs.inside.Found.{AddsLine, IsCommandAt, IsRestOf, LiesAt, RefusesLine}
use Rattle.trace_text.specs.Line.{Fields, fields_of, is_passed}
use Rattle.trace_text.specs.Parsed.{AreNumbered, AreSpelled, LiesWithin}
use Rattle.rows.specs.Operation.{Operation}
use Rattle.trace_text.specs.Operation.{operation, operations}
use Rattle.trace_text.specs.Reading.{Refusal, IsRefusedAs, numbered_reading, numbered, line_numbers, lines, lines_from, most_commands, operations_of, with_first, with_front}
use Rattle.trace_text.specs.inside.Version.{Begins, reading_in}
use Rattle.trace_text.proofs.Offsets.{lies_within}
use Rattle.trace_text.proofs.Versions.{begins_lines, begins_read}

-- on which line each command stands, and the numbers of lines
abbrev pub lines_of : List Command → List ℕ
lines_of commands = map (λ command. command.line) commands

abbrev pub numbers_of : List (ℕ × List ℕ) → List ℕ
numbers_of texts = map (λ line. line.0) texts

-- in a trace of this version, what was read, and behind it what the rest gives, is the reading of all lines
pub record Reads (version : ℕ) (bytes : List ℕ) (commands : List Command) (rest : List ℕ) (line : ℕ) : Type 0 where
  pub is_rest : IsRestOf bytes rest
  pub counted : line + length rest ≤ length bytes + 1
  pub numbered : AreNumbered commands
  pub placed : line_numbers bytes ≡ lines_of commands ++ numbers_of (lines_from line (lines rest))
  pub within : All (LiesWithin bytes) commands
  pub few : length commands ≤ most_commands
  pub joined : reading_in bytes
      ≡ with_front (operations bytes commands) (operations_of version (length commands + 1) (lines_from line (lines rest)))

-- a line that is passed over, and one that is not
pub lines_passed : (text : List ℕ) (texts : List (List ℕ)) (line : ℕ) → is_passed text ≡ true → lines_from line (text ∷ texts) ≡ lines_from (line + 1) texts
lines_passed text texts line e = ap (λ b. cond (not b) ((line, text) ∷ lines_from (line + 1) texts) (lines_from (line + 1) texts)) e

pub lines_kept : (text : List ℕ) (texts : List (List ℕ)) (line : ℕ) → is_passed text ≡ false
    → lines_from line (text ∷ texts) ≡ (line, text) ∷ lines_from (line + 1) texts
lines_kept text texts line e = ap (λ b. cond (not b) ((line, text) ∷ lines_from (line + 1) texts) (lines_from (line + 1) texts)) e

pub with_front-none : (later : Result (List Operation) Refusal) → with_front [] later ≡ later
with_front-none (Err refusal) = refl
with_front-none (Ok operations) = refl

pub with_front-with_front : (a b : List Operation) (later : Result (List Operation) Refusal)
    → with_front a (with_front b later) ≡ with_front (a ++ b) later
with_front-with_front a b (Err refusal) = refl
with_front-with_front a b (Ok operations) = ap Ok (sym (append_assoc a b operations))

-- an end of an end is an end
pub rest_of_rest : (a b c : List ℕ) → IsRestOf a b → IsRestOf b c → IsRestOf a c
rest_of_rest a b c outer inner =
    let e : length a - length c ≡ length a - length b + (length b - length c) = omega arith in
    (omega arith, rw (e, ← drop-drop (length b - length c) (length a - length b) a, outer.1) inner.1)

-- an operation that a line was line_reading to be has its number
number_read : (reading : Result Fields Cause) (number line : ℕ) (operation : Operation) → numbered_reading number line reading ≡ Ok operation
    → operation.number ≡ number
number_read (Err cause) number line operation e = cc
number_read (Ok fields) number line operation e =
    let same : numbered number fields ≡ operation = cc in ap (λ o. o.number) (sym same)

pub number_where : (full : Bool) (reading : Result Fields Cause) (number line : ℕ) (refusal : Refusal) (operation : Operation)
    → cond full (Err refusal) (numbered_reading number line reading) ≡ Ok operation → operation.number ≡ number
number_where true reading number line refusal operation e = cc
number_where false reading number line refusal operation e = number_read reading number line operation e

-- the next command has the next number
pub numbered_push : (commands : List Command) (command : Command) → AreNumbered commands → command.number ≡ length commands + 1
    → AreNumbered (commands ++ command ∷ [])
numbered_push commands command so_far next k d within =
    let le : k < length commands + 1 = rw length-append at within in
    elim (cases_lt k (length commands)) [
      | inl lt ↦ rw (get_or_append_left commands (command ∷ []) d k lt) (so_far k d lt)
      | inr past ↦ let here : k ≡ length commands = omega arith in rw (here, get_or-append_seam commands command [] d) next
    ]

-- before any line is read
pub reads_first : (bytes behind : List ℕ) (version : ℕ) → Begins bytes version behind → Reads version bytes [] behind version
reads_first bytes behind version begins = record {
  is_rest = begins.is_rest;
  counted = begins.counted;
  numbered = λ k d within. absurd (omega arith);
  placed = ap numbers_of (begins_lines bytes behind version begins);
  within = λ k d within. absurd (omega arith);
  few = omega arith;
  joined = begins_read bytes behind version begins
      ∙ sym (with_front-none (operations_of version 1 (lines_from version (lines behind))));
}

-- a line that is passed over
reads_passed : (version : ℕ) (bytes : List ℕ) (commands : List Command) (rest : List ℕ) (line : ℕ) (text after : List ℕ)
    → Reads version bytes commands rest line → lines_from line (lines rest) ≡ lines_from line (text ∷ lines after) → IsRestOf rest after
    → length after < length rest → is_passed text ≡ true → Reads version bytes commands after (line + 1)
reads_passed version bytes commands rest line text after reads first is_rest shorter passed = record {
  is_rest = rest_of_rest bytes rest after reads.is_rest is_rest;
  counted = let c = reads.counted in omega arith;
  numbered = reads.numbered;
  placed = reads.placed ∙ ap (λ texts. lines_of commands ++ numbers_of texts) (first ∙ lines_passed text (lines after) line passed);
  within = reads.within;
  few = reads.few;
  joined = reads.joined ∙ ap (λ texts. with_front (operations bytes commands) (operations_of version (length commands + 1) texts))
      (first ∙ lines_passed text (lines after) line passed);
}

-- a line that is a command
reads_command : (version : ℕ) (bytes : List ℕ) (commands : List Command) (rest : List ℕ) (line : ℕ) (text after : List ℕ) (command : Command)
    → Reads version bytes commands rest line → lines_from line (lines rest) ≡ lines_from line (text ∷ lines after)
    → IsRestOf rest after → LiesAt rest 0 text → length after < length rest → is_passed text ≡ false → length commands + 1 ≤ most_commands
    → IsCommandAt version text (length bytes - length rest) (length commands + 1) line command
    → Reads version bytes (commands ++ command ∷ []) after (line + 1)
reads_command version bytes commands rest line text after command reads first is_rest lies shorter kept room is =
    let zero : length bytes - length rest + 0 ≡ length bytes - length rest = omega arith in
    let at : LiesAt bytes (length bytes - length rest) text = rw zero at (lies_within bytes rest text 0 reads.is_rest lies) in
    let found = is bytes at in
    let number = length commands + 1 in
    let longer : length (commands ++ command ∷ []) ≡ number = rw length-append refl in
    let front = operations bytes commands in
    let here = operation bytes command in
    let later = operations_of version (number + 1) (lines_from (line + 1) (lines after)) in
    let before = lines_of commands in
    let behind = numbers_of (lines_from (line + 1) (lines after)) in
    record {
      is_rest = rest_of_rest bytes rest after reads.is_rest is_rest;
      counted = let c = reads.counted in omega arith;
      numbered = numbered_push commands command reads.numbered
          (number_where _ (fields_of version text) number line _ here found.0);
      placed = reads.placed
          ∙ ap (λ texts. before ++ numbers_of texts) (first ∙ lines_kept text (lines after) line kept)
          ∙ sym (append_assoc before (line ∷ []) behind)
          ∙ ap (λ l. (before ++ l ∷ []) ++ behind) (sym found.2)
          ∙ ap (λ all. all ++ behind) (sym (map-append (λ (c : Command). c.line) commands (command ∷ [])));
      within = All-push (LiesWithin bytes) commands command reads.within found.1;
      few = rw longer room;
      joined = reads.joined
          ∙ ap (λ texts. with_front front (operations_of version number texts)) (first ∙ lines_kept text (lines after) line kept)
          ∙ ap (λ reading. with_front front (with_first reading later)) found.0
          ∙ with_front-with_front front (here ∷ []) later
          ∙ ap (λ all. with_front all later) (sym (map-append (operation bytes) commands (command ∷ [])))
          ∙ ap (λ n. with_front (operations bytes (commands ++ command ∷ [])) (operations_of version (n + 1) (lines_from (line + 1) (lines after))))
          (sym longer);
    }

-- one line more
pub reads_more : (version : ℕ) (bytes : List ℕ) (commands more : List Command) (rest : List ℕ) (line : ℕ) (text after : List ℕ)
    → Reads version bytes commands rest line → lines_from line (lines rest) ≡ lines_from line (text ∷ lines after)
    → IsRestOf rest after → LiesAt rest 0 text → length after < length rest
    → AddsLine version text (length bytes - length rest) line commands more → length more ≤ most_commands
    → Reads version bytes more after (line + 1)
reads_more version bytes commands more rest line text after reads first is_rest lies shorter adds few = elim adds [
  | inl passed ↦ rw passed.1 (reads_passed version bytes commands rest line text after reads first is_rest shorter passed.0)
  | inr kept ↦
      let longer : length (commands ++ kept.1 ∷ []) ≡ length commands + 1 = rw length-append refl in
      let room : length commands + 1 ≤ most_commands = rw (kept.2, longer) at few in
      rw kept.2 (reads_command version bytes commands rest line text after kept.1 reads first is_rest lies shorter kept.0 room kept.3)
]

-- a line that is refused refuses the trace
pub reads_refused : (version : ℕ) (bytes : List ℕ) (commands : List Command) (rest : List ℕ) (line : ℕ) (text after : List ℕ) (refusal : ParseRefusal)
    → Reads version bytes commands rest line → lines_from line (lines rest) ≡ lines_from line (text ∷ lines after)
    → RefusesLine refusal version text (length commands + 1) line → IsRefusedAs refusal (reading_in bytes)
reads_refused version bytes commands rest line text after refusals.Memory reads first refused = tt
reads_refused version bytes commands rest line text after (refusals.Trace at cause) reads first refused =
    let number = length commands + 1 in
    let front = operations bytes commands in
    let later = operations_of version (number + 1) (lines_from (line + 1) (lines after)) in
    rw refused.0 (reads.joined
    ∙ ap (λ texts. with_front front (operations_of version number texts)) (first ∙ lines_kept text (lines after) line refused.1)
    ∙ ap (λ reading. with_front front (with_first reading later)) refused.2)

-- behind the last line
pub reads_all : (version : ℕ) (bytes : List ℕ) (commands : List Command) (rest : List ℕ) (line : ℕ) → Reads version bytes commands rest line
    → length rest ≡ 0 → AreSpelled bytes commands
reads_all version bytes commands [] line reads none = record {
  read = reads.joined ∙ ap Ok (append-nil (operations bytes commands));
  numbered = reads.numbered;
  placed = sym (reads.placed ∙ append-nil (lines_of commands));
  within = reads.within;
  few = reads.few;
}
reads_all version bytes commands (b ∷ rest) line reads none = absurd (omega arith)
