-- Commands that are numbered in order.
use Rattle.std.proofs.Common.{◌≡◌, ℕ, ◌+◌, ◌<◌, suc, zero, true, false, eqb, List, [], ◌∷◌, length, get_or, Some, arith, refl, ◌∙◌}
use Rattle.std.specs.List.{All}
use Rattle.std.proofs.lemmas.Bool.Decides.{nat_tests}
use Rattle.trace_text.specs.declared.command.Command.{Command}
use Rattle.rows.specs.Operation.{Operation}
use Rattle.trace_text.specs.Operation.{operation, operations}
use Rattle.trace_text.specs.Trace.{trace_with}
use Rattle.trace_text.specs.Parsed.{AreNumbered, IsWellFormed, Parsed, trace_in}
use Rattle.cache_model.specs.Bodies.{HasKeys}
use Rattle.cache_model.specs.Legal.{command_of}

-- commands are numbered in order, from n on
abbrev pub Numbered : ℕ → List Operation → Type 0
Numbered n [] = Unit {0}
Numbered n (operation ∷ operations) = (operation.number ≡ n) × Numbered (n + 1) operations

pub number_at : (n : ℕ) (trace : List Operation) (k : ℕ) (d : Operation) → Numbered n trace → k < length trace → (get_or trace k d).number ≡ n + k
number_at n [] k d numbered lt = absurd (omega arith)
number_at n (operation ∷ trace) zero d numbered lt = numbered.0 ∙ omega arith
number_at n (operation ∷ trace) (suc k) d numbered lt = number_at (n + 1) trace k d numbered.1 (omega arith) ∙ omega arith

eqb-below : (a b : ℕ) → a < b → eqb a b ≡ false
eqb-below a b h = grind (arith, nat_tests)

eqb-same : (a : ℕ) → eqb a a ≡ true
eqb-same a = grind (arith, nat_tests)

-- a command is found by its number, in a trace of each version alike
find_number : (n : ℕ) (trace : List Operation) (k : ℕ) (d : Operation) → Numbered n trace → k < length trace
    → command_of (trace_with 1 trace) (get_or trace k d).number ≡ Some (get_or trace k d)
find_number n [] k d numbered lt = absurd (omega arith)
find_number n (operation ∷ trace) zero d numbered lt = rw (eqb-same operation.number) refl
find_number n (operation ∷ trace) (suc k) d numbered lt =
    let within : k < length trace = omega arith in
    let later = number_at (n + 1) trace k d numbered.1 within in
    rw (eqb-below operation.number (get_or trace k d).number (omega (arith, numbered.0, later))) (find_number (n + 1) trace k d numbered.1 within)

pub command_at : (trace : List Operation) (k : ℕ) (d : Operation) → Numbered 1 trace → k < length trace
    → command_of (trace_with 1 trace) (get_or trace k d).number ≡ Some (get_or trace k d)
command_at trace k d numbered lt = find_number 1 trace k d numbered lt

-- ---- the commands of a trace that was read

numbered-from : (bytes : List ℕ) (n : ℕ) (commands : List Command)
    → ((k : ℕ) (d : Command) → k < length commands → (get_or commands k d).number ≡ n + k) → Numbered n (operations bytes commands)
numbered-from bytes n [] numbered = tt
numbered-from bytes n (command ∷ commands) numbered = (
  numbered 0 command (omega arith) ∙ omega arith,
  numbered-from bytes (n + 1) commands (λ k d lt. numbered (suc k) d (omega arith) ∙ omega arith),
)

pub numbered : (bytes : List ℕ) (commands : List Command) → AreNumbered commands → Numbered 1 (operations bytes commands)
numbered bytes commands are = numbered-from bytes 1 commands (λ k d lt. are k d lt ∙ omega arith)

-- each command is found by its number
pub commands_found : (parsed : Parsed) → AreNumbered parsed.commands
    → All (λ operation. command_of (trace_in parsed) operation.number ≡ Some operation) (trace_in parsed).operations
commands_found parsed numbers i d within = command_at (trace_in parsed).operations i d (numbered parsed.bytes parsed.commands numbers) within

-- and its key is one
pub keys_of : (parsed : Parsed) → All IsWellFormed (trace_in parsed).operations → HasKeys (trace_in parsed)
keys_of parsed formed i d within put = record { some = (formed i d within).key_some; short = (formed i d within).key_most }
