-- The loop over the lines of a script.
use Rattle.std.proofs.Common.{◌≡◌, ℕ, ◌+◌, ◌-◌, ◌<◌, ◌≤◌, true, false, cond, not, List, [], ◌∷◌, ◌++◌, length, length-append, Result, Ok, Err, arith, refl, sym, ap, ◌∙◌, inl, inr}
use Rattle.std.specs.Prelude.{All}
use Rattle.std.proofs.lemmas.List.{drop-drop, map-append}
use Rattle.std.proofs.lemmas.List.Elements.{All-push}
use Rattle.trace_text.specs.Line.{is_passed}
use Rattle.trace_text.specs.Reading.{lines, lines_from, most_commands}
use Rattle.value_script.specs.declared.command.Command.{Command}
use Rattle.value_script.specs.declared.refusal.ScriptRefusal.{ScriptRefusal}
use Rattle.value_script.specs.declared.refusal.ScriptRefusal.TheVariants as refusals
use Rattle.value_script.specs.inside.Found.{AddsLine, IsCommandAt, IsRestOf, LiesAt, RefusesLine}
use Rattle.value_script.specs.Order.{Order}
use Rattle.value_script.specs.Commands.{order, orders}
use Rattle.value_script.specs.Reading.{Refusal, IsRefusedAs, orders_of, with_first, with_later}
use Rattle.value_script.specs.Script.{IsSound}

-- behind these orders, what the later lines ask
abbrev pub behind : List Order → Result (List Order) Refusal → Result (List Order) Refusal
behind [] later = later
behind (order ∷ front) later = with_later order (behind front later)

-- what was read, and behind it what the rest gives, is the reading of all lines
pub record Reads (bytes : List ℕ) (commands : List Command) (rest : List ℕ) (line : ℕ) : Type 0 where
  pub is_rest : IsRestOf bytes rest
  pub counted : line + length rest ≤ length bytes + 1
  pub sound : All (IsSound bytes) commands
  pub few : length commands ≤ most_commands
  pub joined : orders_of 0 (lines_from 1 (lines bytes))
      ≡ behind (orders bytes commands) (orders_of (length commands) (lines_from line (lines rest)))

-- a line that is passed over, and one that is not
lines_passed : (text : List ℕ) (texts : List (List ℕ)) (line : ℕ) → is_passed text ≡ true → lines_from line (text ∷ texts) ≡ lines_from (line + 1) texts
lines_passed text texts line e = ap (λ b. cond (not b) ((line, text) ∷ lines_from (line + 1) texts) (lines_from (line + 1) texts)) e

lines_kept : (text : List ℕ) (texts : List (List ℕ)) (line : ℕ) → is_passed text ≡ false
    → lines_from line (text ∷ texts) ≡ (line, text) ∷ lines_from (line + 1) texts
lines_kept text texts line e = ap (λ b. cond (not b) ((line, text) ∷ lines_from (line + 1) texts) (lines_from (line + 1) texts)) e

behind-append : (front : List Order) (o : Order) (later : Result (List Order) Refusal) → behind (front ++ o ∷ []) later ≡ behind front (with_later o later)
behind-append [] o later = refl
behind-append (x ∷ front) o later = ap (with_later x) (behind-append front o later)

behind-none : (front : List Order) → behind front (Ok []) ≡ Ok front
behind-none [] = refl
behind-none (x ∷ front) = ap (with_later x) (behind-none front)

behind-err : (front : List Order) (refusal : Refusal) → behind front (Err refusal) ≡ Err refusal
behind-err [] refusal = refl
behind-err (x ∷ front) refusal = ap (with_later x) (behind-err front refusal)

-- an end of an end is an end
rest_of_rest : (a b c : List ℕ) → IsRestOf a b → IsRestOf b c → IsRestOf a c
rest_of_rest a b c outer inner =
    let e : length a - length c ≡ length a - length b + (length b - length c) = omega arith in
    (omega arith, rw (e, ← drop-drop (length b - length c) (length a - length b) a, outer.1) inner.1)

-- what lies in an end of the text lies so much further on in the text
lies_within : (text rest field : List ℕ) (at : ℕ) → IsRestOf text rest → LiesAt rest at field
    → LiesAt text (length text - length rest + at) field
lies_within text rest field at is lies = (omega arith, rw (← drop-drop at (length text - length rest) text, is.1) lies.1)

-- before any line is read
pub reads_first : (bytes : List ℕ) → Reads bytes [] bytes 1
reads_first bytes =
    let none : length bytes - length bytes ≡ 0 = omega arith in
    record {
      is_rest = (omega arith, rw none refl);
      counted = omega arith;
      sound = λ k d within. absurd (omega arith);
      few = omega arith;
      joined = refl;
    }

-- a line that is passed over
reads_passed : (bytes : List ℕ) (commands : List Command) (rest : List ℕ) (line : ℕ) (text after : List ℕ)
    → Reads bytes commands rest line → lines_from line (lines rest) ≡ lines_from line (text ∷ lines after) → IsRestOf rest after
    → length after < length rest → is_passed text ≡ true → Reads bytes commands after (line + 1)
reads_passed bytes commands rest line text after reads first is_rest shorter passed = record {
  is_rest = rest_of_rest bytes rest after reads.is_rest is_rest;
  counted = let c = reads.counted in omega arith;
  sound = reads.sound;
  few = reads.few;
  joined = reads.joined ∙ ap (λ texts. behind (orders bytes commands) (orders_of (length commands) texts))
      (first ∙ lines_passed text (lines after) line passed);
}

-- a line that is a command
reads_command : (bytes : List ℕ) (commands : List Command) (rest : List ℕ) (line : ℕ) (text after : List ℕ) (command : Command)
    → Reads bytes commands rest line → lines_from line (lines rest) ≡ lines_from line (text ∷ lines after) → IsRestOf rest after → LiesAt rest 0 text
    → length after < length rest → is_passed text ≡ false → length commands + 1 ≤ most_commands
    → IsCommandAt text (length bytes - length rest) (length commands) line command
    → Reads bytes (commands ++ command ∷ []) after (line + 1)
reads_command bytes commands rest line text after command reads first is_rest lies shorter kept room is =
    let zero : length bytes - length rest + 0 ≡ length bytes - length rest = omega arith in
    let at : LiesAt bytes (length bytes - length rest) text = rw zero at (lies_within bytes rest text 0 reads.is_rest lies) in
    let found = is bytes at in
    let longer : length (commands ++ command ∷ []) ≡ length commands + 1 = rw length-append refl in
    let front = orders bytes commands in
    let here = order bytes command in
    let later = orders_of (length commands + 1) (lines_from (line + 1) (lines after)) in
    record {
      is_rest = rest_of_rest bytes rest after reads.is_rest is_rest;
      counted = let c = reads.counted in omega arith;
      sound = All-push (IsSound bytes) commands command reads.sound found.1;
      few = rw longer room;
      joined = reads.joined
          ∙ ap (λ texts. behind front (orders_of (length commands) texts)) (first ∙ lines_kept text (lines after) line kept)
          ∙ ap (λ reading. behind front (with_first reading later)) found.0
          ∙ sym (behind-append front here later)
          ∙ (rw (longer, map-append) refl);
    }

-- one line more
pub reads_more : (bytes : List ℕ) (commands more : List Command) (rest : List ℕ) (line : ℕ) (text after : List ℕ)
    → Reads bytes commands rest line → lines_from line (lines rest) ≡ lines_from line (text ∷ lines after) → IsRestOf rest after → LiesAt rest 0 text
    → length after < length rest → AddsLine text (length bytes - length rest) line commands more → length more ≤ most_commands
    → Reads bytes more after (line + 1)
reads_more bytes commands more rest line text after reads first is_rest lies shorter (inl (passed, same)) few =
    rw same (reads_passed bytes commands rest line text after reads first is_rest shorter passed)
reads_more bytes commands more rest line text after reads first is_rest lies shorter (inr (kept, command, longer, is)) few =
    let long : length more ≡ length commands + 1 = ap length longer ∙ (rw length-append refl) in
    rw longer (reads_command bytes commands rest line text after command reads first is_rest lies shorter kept (omega (arith, long, few)) is)

-- no line is left
pub reads_all : (bytes : List ℕ) (commands : List Command) (rest : List ℕ) (line : ℕ) → length rest ≡ 0 → Reads bytes commands rest line
    → orders_of 0 (lines_from 1 (lines bytes)) ≡ Ok (orders bytes commands)
reads_all bytes commands [] line none reads = reads.joined ∙ behind-none (orders bytes commands)
reads_all bytes commands (b ∷ rest) line none reads = absurd (omega (arith, none))

-- a line is refused
pub reads_refused : (bytes : List ℕ) (commands : List Command) (rest : List ℕ) (line : ℕ) (text after : List ℕ) (refusal : ScriptRefusal)
    → Reads bytes commands rest line → lines_from line (lines rest) ≡ lines_from line (text ∷ lines after)
    → RefusesLine refusal text (length commands) line → IsRefusedAs refusal (orders_of 0 (lines_from 1 (lines bytes)))
reads_refused bytes commands rest line text after (refusals.Script at cause) reads first (here, kept, refused) =
    rw here (reads.joined
    ∙ ap (λ texts. behind (orders bytes commands) (orders_of (length commands) texts)) (first ∙ lines_kept text (lines after) line kept)
    ∙ ap (λ reading. behind (orders bytes commands) (with_first reading (orders_of (length commands + 1) (lines_from (line + 1) (lines after))))) refused
    ∙ behind-err (orders bytes commands) _)
reads_refused bytes commands rest line text after refusals.Memory reads first refused = tt
