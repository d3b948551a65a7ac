-- The loop that cuts lines, and what it means that a stretch of them is read.
use Rattle.std.proofs.Common.{◌≡◌, ℕ, suc, ◌+◌, ◌-◌, ◌<◌, ◌≤◌, true, false, List, [], ◌∷◌, ◌++◌, length, map, take, drop, take_all, length-drop, length-take-le, append_assoc, length-append, Ok, arith, refl, subst, sym, ap, ◌∙◌, inl, inr}
use Rattle.std.proofs.lemmas.List.{append-nil, drop_all, map-append}
use Rattle.std.proofs.lemmas.List.Elements.{All-head, All-push, All-tail}
use Rattle.std.specs.Prelude.{All}
use Rattle.std.specs.List.{list_all}
use Rattle.trace_text.specs.declared.command.Command.{Command}
use Rattle.trace_text.specs.declared.cutting.Line.{Line}
use Rattle.trace_text.specs.declared.cutting.Line.TheVariants.{Cut, Read, Refused}
use Rattle.trace_text.specs.declared.cutting.Place.{Place}
use Rattle.trace_text.specs.inside.Found.{IsRestOf, LiesAt}
use Rattle.trace_text.specs.inside.Lines.{AddsPlace, AddsRead, AreRead, IsCut, IsPlace, IsPlaceOf, IsReadAs, Settles, commands_in, is_read, line_at}
use Rattle.trace_text.specs.Line.{fields_of, is_passed}
use Rattle.trace_text.specs.Operation.{operation, operations, part}
use Rattle.trace_text.specs.Parsed.{AreNumbered, AreSpelled, LiesWithin}
use Rattle.trace_text.specs.Reading.{command_lines, line_numbers, line_reading, lines, lines_from, most_commands, operations_of, version_in, with_first, with_front}
use Rattle.trace_text.specs.inside.Version.{Begins, reading_in}
use Rattle.trace_text.proofs.LinesRead.{lines_kept, lines_of, lines_passed, number_where, numbered_push, numbers_of, rest_of_rest, with_front-none, with_front-with_front}
use Rattle.trace_text.proofs.Offsets.{lies_within}
use Rattle.trace_text.proofs.Versions.{begins_lines}

-- ---- commands so far, and lines to come

-- in a trace of this version, what was read, and behind it what these lines give, is the reading of all lines
pub record Gathers (version : ℕ) (bytes : List ℕ) (commands : List Command) (texts : List (ℕ × List ℕ)) : Type 0 where
  pub numbered : AreNumbered commands
  pub placed : line_numbers bytes ≡ lines_of commands ++ numbers_of texts
  pub within : All (LiesWithin bytes) commands
  pub few : length commands ≤ most_commands
  pub joined : reading_in bytes ≡ with_front (operations bytes commands) (operations_of version (length commands + 1) texts)

-- before any line is read
gathers_first : (version : ℕ) (bytes : List ℕ) → version ≡ version_in bytes
    → Gathers version bytes [] (command_lines (version_in bytes) (lines bytes))
gathers_first version bytes is =
    let all = command_lines (version_in bytes) (lines bytes) in
    record {
      numbered = λ k d within. absurd (omega arith);
      placed = refl;
      within = λ k d within. absurd (omega arith);
      few = omega arith;
      joined = ap (λ v. operations_of v 1 all) (sym is) ∙ sym (with_front-none (operations_of version 1 all));
    }

-- one line is read
gathers_more : (version : ℕ) (bytes : List ℕ) (commands : List Command) (texts : List (ℕ × List ℕ)) (place : Place) (command : Command)
    → Gathers version bytes commands (line_at bytes place ∷ texts) → place.number ≡ length commands + 1 → length commands + 1 ≤ most_commands
    → IsReadAs version bytes place command → Gathers version bytes (commands ++ command ∷ []) texts
gathers_more version bytes commands texts place command gathers next room is =
    let number = length commands + 1 in
    let longer : length (commands ++ command ∷ []) ≡ number = rw length-append refl in
    let front = operations bytes commands in
    let here = operation bytes command in
    let later = operations_of version (number + 1) texts in
    let before = lines_of commands in
    let behind = numbers_of texts in
    let found : line_reading version (number, line_at bytes place) ≡ Ok here =
    subst (λ (n : ℕ). line_reading version (n, line_at bytes place) ≡ Ok here) next is.0 in
    record {
      numbered = numbered_push commands command gathers.numbered
          (number_where _ (fields_of version (part bytes place.text)) number place.line _ here found);
      placed = gathers.placed
          ∙ sym (append_assoc before (place.line ∷ []) behind)
          ∙ ap (λ l. (before ++ l ∷ []) ++ behind) (sym is.2)
          ∙ ap (λ all. all ++ behind) (sym (map-append (λ (c : Command). c.line) commands (command ∷ [])));
      within = All-push (LiesWithin bytes) commands command gathers.within is.1;
      few = rw longer room;
      joined = gathers.joined
          ∙ ap (λ reading. with_front front (with_first reading later)) found
          ∙ with_front-with_front front (here ∷ []) later
          ∙ ap (λ all. with_front all later) (sym (map-append (operation bytes) commands (command ∷ [])))
          ∙ ap (λ n. with_front (operations bytes (commands ++ command ∷ [])) (operations_of version (n + 1) texts)) (sym longer);
    }

-- ---- a stretch of lines that are cut

abbrev pub text_of : List ℕ → Line → ℕ × List ℕ
text_of bytes (Cut place) = line_at bytes place
text_of bytes (Read command) = (command.line, [])
text_of bytes Refused = (0, [])

abbrev pub number_of : Line → ℕ
number_of (Cut place) = place.number
number_of (Read command) = command.number
number_of Refused = 0

-- they are numbered, from this number on
abbrev pub AreNext : ℕ → List Line → Type 0
AreNext n [] = Unit {0}
AreNext n (line ∷ stretch) = (number_of line ≡ n) × AreNext (n + 1) stretch

next_push : (n : ℕ) (stretch : List Line) (line : Line) → AreNext n stretch → number_of line ≡ n + length stretch
    → AreNext n (stretch ++ line ∷ [])
next_push n [] line are is = (is ∙ omega arith, tt)
next_push n (first ∷ stretch) line are is = (are.0, next_push (n + 1) stretch line are.1 (is ∙ omega arith))

-- it is read, all of it
gathers_all : (version : ℕ) (bytes : List ℕ) (stretch read : List Line) (commands : List Command) (texts : List (ℕ × List ℕ))
    → length read ≡ length stretch → All (IsCut bytes) stretch → AreNext (length commands + 1) stretch
    → length commands + length stretch ≤ most_commands → AreRead version bytes stretch read → list_all is_read read ≡ true
    → Gathers version bytes commands (map (text_of bytes) stretch ++ texts) → Gathers version bytes (commands ++ commands_in read) texts
gathers_all version bytes [] [] commands texts many cut next room are all gathers =
    subst (λ (cs : List Command). Gathers version bytes cs texts) (sym (append-nil commands)) gathers
gathers_all version bytes [] (r ∷ read) commands texts many cut next room are all gathers = absurd (omega (arith, many))
gathers_all version bytes (l ∷ stretch) [] commands texts many cut next room are all gathers = absurd (omega (arith, many))
gathers_all version bytes (Read other ∷ stretch) (r ∷ read) commands texts many cut next room are all gathers =
    absurd (All-head (IsCut bytes) (Read other) stretch cut)
gathers_all version bytes (Refused ∷ stretch) (r ∷ read) commands texts many cut next room are all gathers =
    absurd (All-head (IsCut bytes) Refused stretch cut)
gathers_all version bytes (Cut place ∷ stretch) (Cut other ∷ read) commands texts many cut next room are all gathers =
    let never : false ≡ true = all in cc
gathers_all version bytes (Cut place ∷ stretch) (Refused ∷ read) commands texts many cut next room are all gathers =
    let never : false ≡ true = all in cc
gathers_all version bytes (Cut place ∷ stretch) (Read command ∷ read) commands texts many cut next room are all gathers =
    let longer : length (commands ++ command ∷ []) ≡ length commands + 1 = rw length-append refl in
    let here : IsReadAs version bytes place command = are 0 Refused (omega arith) in
    let more = gathers_more version bytes commands (map (text_of bytes) stretch ++ texts) place command gathers next.0 (omega (arith, room)) here in
    let rest = gathers_all version bytes stretch read (commands ++ command ∷ []) texts (omega (arith, many))
    (All-tail (IsCut bytes) (Cut place) stretch cut)
    (subst (λ (n : ℕ). AreNext (n + 1) stretch) (sym longer) next.1)
    (omega (arith, room, longer))
    (λ k d within. are (suc k) d (omega (arith, within))) all more in
    subst (λ (cs : List Command). Gathers version bytes cs texts) (append_assoc commands (command ∷ []) (commands_in read)) rest

-- ---- the loop

-- the commands so far, the stretch that is cut, and the lines that are left are all lines
pub record Cutting (version : ℕ) (bytes : List ℕ) (commands : List Command) (stretch : List Line) (rest : List ℕ) (line : ℕ) : Type 0 where
  pub is_rest : IsRestOf bytes rest
  pub counted : line + length rest ≤ length bytes + 1
  pub room : length commands + length stretch ≤ most_commands
  pub cut : All (IsCut bytes) stretch
  pub next : AreNext (length commands + 1) stretch
  pub gathers : Gathers version bytes commands (map (text_of bytes) stretch ++ lines_from line (lines rest))

-- before any line is cut
pub cutting_first : (bytes behind : List ℕ) (version : ℕ) → Begins bytes version behind → Cutting version bytes [] [] behind version
cutting_first bytes behind version begins = record {
  is_rest = begins.is_rest;
  counted = begins.counted;
  room = omega arith;
  cut = λ k d within. absurd (omega arith);
  next = tt;
  gathers = subst (Gathers version bytes []) (begins_lines bytes behind version begins) (gathers_first version bytes begins.version_is);
}

cutting_passed : (version : ℕ) (bytes : List ℕ) (commands : List Command) (stretch : List Line) (rest : List ℕ) (line : ℕ) (text after : List ℕ)
    → Cutting version bytes commands stretch rest line → lines_from line (lines rest) ≡ lines_from line (text ∷ lines after)
    → IsRestOf rest after → length after < length rest → is_passed text ≡ true → Cutting version bytes commands stretch after (line + 1)
cutting_passed version bytes commands stretch rest line text after cutting first is_rest shorter passed = record {
  is_rest = rest_of_rest bytes rest after cutting.is_rest is_rest;
  counted = let c = cutting.counted in omega arith;
  room = cutting.room;
  cut = cutting.cut;
  next = cutting.next;
  gathers = subst (λ (texts : List (ℕ × List ℕ)). Gathers version bytes commands (map (text_of bytes) stretch ++ texts))
      (first ∙ lines_passed text (lines after) line passed) cutting.gathers;
}

-- where a line lies, its place says so
part_is : (bytes text : List ℕ) (start number line : ℕ) (place : Place) → LiesAt bytes start text → IsPlaceOf text start number line place
    → part bytes place.text ≡ text
part_is bytes text start number line place at is = rw (is.len_is, is.start_is) at.1

cutting_kept : (version : ℕ) (bytes : List ℕ) (commands : List Command) (stretch : List Line) (rest : List ℕ) (line : ℕ) (text after : List ℕ) (place : Place)
    → Cutting version bytes commands stretch rest line → lines_from line (lines rest) ≡ lines_from line (text ∷ lines after)
    → IsRestOf rest after → LiesAt rest 0 text → length after < length rest → is_passed text ≡ false
    → length commands + length stretch + 1 ≤ most_commands
    → IsPlaceOf text (length bytes - length rest) (length commands + length stretch + 1) line place
    → Cutting version bytes commands (stretch ++ Cut place ∷ []) after (line + 1)
cutting_kept version bytes commands stretch rest line text after place cutting first is_rest lies shorter kept room is =
    let zero : length bytes - length rest + 0 ≡ length bytes - length rest = omega arith in
    let at : LiesAt bytes (length bytes - length rest) text = rw zero at (lies_within bytes rest text 0 cutting.is_rest lies) in
    let longer : length (stretch ++ Cut place ∷ []) ≡ length stretch + 1 = rw length-append refl in
    let is_part = part_is bytes text _ _ line place at is in
    let here : line_at bytes place ≡ (line, text) = ap (λ l. (l, part bytes place.text)) is.line_is ∙ ap (λ t. (line, t)) is_part in
    let before = map (text_of bytes) stretch in
    let later = lines_from (line + 1) (lines after) in
    let all : before ++ lines_from line (lines rest) ≡ map (text_of bytes) (stretch ++ Cut place ∷ []) ++ later =
    ap (λ texts. before ++ texts) (first ∙ lines_kept text (lines after) line kept)
    ∙ sym (append_assoc before ((line, text) ∷ []) later)
    ∙ ap (λ l. (before ++ l ∷ []) ++ later) (sym here)
    ∙ ap (λ texts. texts ++ later) (sym (map-append (text_of bytes) stretch (Cut place ∷ []))) in
    let stands : IsPlace bytes place = record {
      within = let start = is.start_is in let len = is.len_is in let ends = at.0 in omega (arith, start, len, ends);
      plain = λ some. rw is_part (is.plain some);
      number = let number = is.number_is in omega (arith, number, room);
    } in
    record {
      is_rest = rest_of_rest bytes rest after cutting.is_rest is_rest;
      counted = let c = cutting.counted in omega arith;
      room = omega (arith, longer, room);
      cut = All-push (IsCut bytes) stretch (Cut place) cutting.cut stands;
      next = next_push (length commands + 1) stretch (Cut place) cutting.next (is.number_is ∙ omega arith);
      gathers = subst (Gathers version bytes commands) all cutting.gathers;
    }

-- one line more
pub cutting_more : (version : ℕ) (bytes : List ℕ) (commands : List Command) (stretch more : List Line) (rest : List ℕ) (line : ℕ) (text after : List ℕ)
    → Cutting version bytes commands stretch rest line → lines_from line (lines rest) ≡ lines_from line (text ∷ lines after)
    → IsRestOf rest after → LiesAt rest 0 text → length after < length rest
    → AddsPlace text (length bytes - length rest) (length commands) line stretch more → length commands + length more ≤ most_commands
    → Cutting version bytes commands more after (line + 1)
cutting_more version bytes commands stretch more rest line text after cutting first is_rest lies shorter adds few = elim adds [
  | inl passed ↦ rw passed.1 (cutting_passed version bytes commands stretch rest line text after cutting first is_rest shorter passed.0)
  | inr kept ↦
      let longer : length (stretch ++ Cut kept.1 ∷ []) ≡ length stretch + 1 = rw length-append refl in
      let within : length commands + (length stretch + 1) ≤ most_commands = rw (kept.2, longer) at few in
      let room : length commands + length stretch + 1 ≤ most_commands = omega (arith, within) in
      rw kept.2 (cutting_kept version bytes commands stretch rest line text after kept.1 cutting first is_rest lies shorter kept.0 room kept.3)
]

-- the stretch is read
pub cutting_read : (version : ℕ) (bytes : List ℕ) (commands new : List Command) (stretch : List Line) (rest : List ℕ) (line : ℕ)
    → Cutting version bytes commands stretch rest line → AddsRead version bytes commands stretch new → Cutting version bytes new [] rest line
cutting_read version bytes commands new stretch rest line cutting adds =
    let gathers = gathers_all version bytes stretch adds.read commands (lines_from line (lines rest)) adds.many cutting.cut cutting.next
    cutting.room adds.are adds.adds.all cutting.gathers in
    let few = gathers.few in
    rw adds.adds.behind (record {
      is_rest = cutting.is_rest;
      counted = cutting.counted;
      room = omega (arith, few);
      cut = λ k d within. absurd (omega arith);
      next = tt;
      gathers = gathers;
    })

-- it is read where it has its length
pub cutting_settled : (version : ℕ) (bytes : List ℕ) (commands new : List Command) (stretch left : List Line) (rest : List ℕ) (line : ℕ)
    → Cutting version bytes commands stretch rest line → Settles version bytes commands stretch new left → Cutting version bytes new left rest line
cutting_settled version bytes commands new stretch left rest line cutting settles = elim settles [
  | inl same ↦ rw (same.0, same.1) cutting
  | inr read ↦ rw read.1 (cutting_read version bytes commands new stretch rest line cutting read.0)
]

-- behind the last line
spelled : (version : ℕ) (bytes : List ℕ) (commands : List Command) (rest : List ℕ) (line : ℕ) → Cutting version bytes commands [] rest line → length rest ≡ 0
    → AreSpelled bytes commands
spelled version bytes commands [] line cutting none =
    let g = cutting.gathers in
    record {
      read = g.joined ∙ ap Ok (append-nil (operations bytes commands));
      numbered = g.numbered;
      placed = sym (g.placed ∙ append-nil (lines_of commands));
      within = g.within;
      few = g.few;
    }
spelled version bytes commands (b ∷ rest) line cutting none = absurd (omega arith)

pub cutting_done : (version : ℕ) (bytes : List ℕ) (commands new : List Command) (stretch : List Line) (rest : List ℕ) (line : ℕ)
    → Cutting version bytes commands stretch rest line → length rest ≡ 0 → AddsRead version bytes commands stretch new → AreSpelled bytes new
cutting_done version bytes commands new stretch rest line cutting none adds =
    spelled version bytes new rest line (cutting_read version bytes commands new stretch rest line cutting adds) none

-- ---- places, and what is written

-- what lies at a place is its line
pub place_lies : (bytes : List ℕ) (place : Place) → IsPlace bytes place → LiesAt bytes place.text.start (part bytes place.text)
place_lies bytes place is =
    let ends = is.within in
    let behind : place.text.len ≤ length (drop place.text.start bytes) = rw length-drop (omega (arith, ends)) in
    let many : length (part bytes place.text) ≡ place.text.len = length-take-le place.text.len (drop place.text.start bytes) behind in
    (rw many ends, rw many refl)

-- a vector all of whose elements were written has what was written
pub written : {X : Type 0} (n : ℕ) (old new : List X) → length old ≡ n → length new ≡ n → take n (new ++ drop (length new) old) ≡ new
written n old new before after =
    let none : drop (length new) old ≡ [] = drop_all (length new) old (omega (arith, before, after)) in
    ap (λ rest. take n (new ++ rest)) none ∙ ap (take n) (append-nil new) ∙ take_all n new (omega (arith, after))
