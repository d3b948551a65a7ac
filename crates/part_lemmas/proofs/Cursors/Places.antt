-- The places of the commands that one shard issues to another.
use Rattle.std.proofs.Common.{◌≡◌, ℕ, zero, suc, ◌+◌, ◌-◌, ◌<◌, ◌≤◌, ◌&&◌, ◌%◌, Bool, true, false, List, [], ◌∷◌, length, drop, get_or, arith, refl, sym, ap, ◌∙◌, add-zero, inl, inr}
use Rattle.std.specs.List.{filter}
use Rattle.std.proofs.Math.Nat.{mod-add-mod, mod-eq_of_lt, mod-lt, add-mod_right}
use Rattle.std.proofs.lemmas.Bool.{cases_lt, eq-eqb, ne_eqb}
use Rattle.std.proofs.lemmas.List.{drop_all}
use Rattle.trace_text.specs.declared.command.Command.{Command}
use Rattle.rows.specs.declared.kind.Kind.TheVariants.{Put}
use Rattle.rows.specs.Operation.{Operation}
use Rattle.trace_text.specs.Operation.{operation, operations}
use Rattle.trace_text.specs.Parsed.{AreNumbered, Parsed}
use Rattle.trace_text.specs.Parts.{has_part, origin}
use Rattle.part_lemmas.specs.Rest.{is_for, left_from}

-- a place less than n behind another has another remainder
pub apart : (n a d : ℕ) → 1 ≤ d → d < n → (a + d) % n ≡ a % n → ⊥
apart n a d some few same = elim (cases_lt (a % n + d) n) [
  | inl less ↦
      let e : (a % n + d) % n ≡ a % n + d = mod-eq_of_lt less in
      let f : (a % n + d) % n ≡ (a + d) % n = mod-add-mod a n d in
      omega (arith, e, f, same)
  | inr more ↦
      let r : a % n < n = mod-lt a (omega (arith, few)) in
      let m : (a % n + d - n) % n ≡ a % n + d - n = mod-eq_of_lt (omega (arith, r, few)) in
      let g : (a % n + d - n + n) % n ≡ (a % n + d - n) % n = add-mod_right (a % n + d - n) n in
      let h : a % n + d - n + n ≡ a % n + d = omega (arith, more) in
      let f : (a % n + d) % n ≡ (a + d) % n = mod-add-mod a n d in
      let k : (a % n + d - n + n) % n ≡ (a % n + d) % n = ap (λ x. x % n) h in
      omega (arith, m, g, k, f, same, r, few, more)
]

pub fails-first : {X : Type 0} (p : X → Bool) (xs : List X) (at : ℕ) → at < length xs → ((d : X) → p (get_or xs at d) ≡ false)
    → filter p (drop at xs) ≡ filter p (drop (suc at) xs)
fails-first p [] at within fails = absurd (omega (arith, within))
fails-first p (x ∷ xs) zero within fails = let e : p x ≡ false = fails x in rw e refl
fails-first p (x ∷ xs) (suc at) within fails = fails-first p xs at (omega (arith, within)) fails

-- what a filter drops at places that fail the test
pub gap : {X : Type 0} (p : X → Bool) (xs : List X) (from k : ℕ)
    → ((j : ℕ) (d : X) → from ≤ j → j < from + k → j < length xs → p (get_or xs j d) ≡ false)
    → filter p (drop from xs) ≡ filter p (drop (from + k) xs)
gap p xs from zero fails = rw add-zero refl
gap {X} p xs from (suc k) fails = elim (cases_lt from (length xs)) [
  | inl within ↦
      let more : filter p (drop (suc from) xs) ≡ filter p (drop (suc from + k) xs) =
      gap p xs (suc from) k (λ j d above below inside. fails j d (omega (arith, above)) (omega (arith, below)) inside) in
      let shift : suc from + k ≡ from + suc k = omega arith in
      fails-first p xs from within (λ d. fails from d (omega arith) (omega arith) within) ∙ more ∙ ap (λ n. filter p (drop n xs)) shift
  | inr ended ↦ ap (filter p) (drop_all from xs ended ∙ sym (drop_all (from + suc k) xs (omega (arith, ended))))
]

pub meets-first : {X : Type 0} (p : X → Bool) (xs : List X) (at : ℕ) (d : X) → at < length xs → p (get_or xs at d) ≡ true
    → filter p (drop at xs) ≡ get_or xs at d ∷ filter p (drop (suc at) xs)
meets-first p [] at d within meets = absurd (omega (arith, within))
meets-first p (x ∷ xs) zero d within meets = rw meets refl
meets-first p (x ∷ xs) (suc at) d within meets = meets-first p xs at d (omega (arith, within)) meets

-- commands are numbered from 1, in order
abbrev pub IsNumbered : List Operation → Type 0
IsNumbered operations = (k : ℕ) (d : Operation) → k < length operations → (get_or operations k d).number ≡ k + 1

-- less than n places before one of an origin stands none of it
pub other-origin : (operations : List Operation) (n o s j from : ℕ) (d : Operation) → IsNumbered operations → from % n ≡ o
    → j < from → from < j + n → j < length operations → is_for n o s (get_or operations j d) ≡ false
other-origin operations n o s j from d numbered here below above within =
    let number : (get_or operations j d).number ≡ j + 1 = numbered j d within in
    let is : origin (get_or operations j d).number n ≡ j % n = ap (λ i. (i - 1) % n) number ∙ ap (λ i. i % n) (omega arith) in
    let away : j + (from - j) ≡ from = omega (arith, below) in
    let other : origin (get_or operations j d).number n ≡ o → ⊥ =
    λ e. apart n j (from - j) (omega (arith, below)) (omega (arith, below, above)) (ap (λ i. i % n) away ∙ here ∙ sym e ∙ is) in
    ap (λ b. b && has_part n s (get_or operations j d)) (ne_eqb _ _ other)

pub skips : (operations : List Operation) (n o s j from : ℕ) → IsNumbered operations → from % n ≡ o → j ≤ from → from < j + n
    → filter (is_for n o s) (drop j operations) ≡ filter (is_for n o s) (drop from operations)
skips operations n o s j from numbered here below above =
    let away : j + (from - j) ≡ from = omega (arith, below) in
    gap (is_for n o s) operations j (from - j)
    (λ i d first last within. other-origin operations n o s i from d numbered here (omega (arith, last, below)) (omega (arith, first, above)) within)
    ∙ ap (λ i. filter (is_for n o s) (drop i operations)) away

pub round : (n o at : ℕ) → at % n ≡ o → (at + n) % n ≡ o
round n o at here = add-mod_right at n ∙ here

pub passes-other : (operations : List Operation) (n o s at : ℕ) → IsNumbered operations → 1 ≤ n → at % n ≡ o
    → ((d : Operation) → is_for n o s (get_or operations at d) ≡ false) → at < length operations
    → filter (is_for n o s) (drop (at + n) operations) ≡ filter (is_for n o s) (drop at operations)
passes-other operations n o s at numbered some here other within =
    sym (fails-first (is_for n o s) operations at within other
    ∙ skips operations n o s (suc at) (at + n) numbered (round n o at here) (omega (arith, some)) (omega arith))

-- the operations of a trace that was read
pub length-operations : (bytes : List ℕ) (commands : List Command) → length (operations bytes commands) ≡ length commands
length-operations bytes [] = refl
length-operations bytes (command ∷ commands) = ap suc (length-operations bytes commands)

pub operation-at : (bytes : List ℕ) (commands : List Command) (k : ℕ) (e : Command) (d : Operation) → k < length commands
    → get_or (operations bytes commands) k d ≡ operation bytes (get_or commands k e)
operation-at bytes [] k e d within = absurd (omega (arith, within))
operation-at bytes (command ∷ commands) zero e d within = refl
operation-at bytes (command ∷ commands) (suc k) e d within = operation-at bytes commands k e d (omega (arith, within))

pub numbered : (bytes : List ℕ) (commands : List Command) → AreNumbered commands → IsNumbered (operations bytes commands)
numbered bytes [] are k d within = absurd (omega (arith, within))
numbered bytes (command ∷ commands) are k d within =
    let inside : k < length (command ∷ commands) = rw (← length-operations bytes (command ∷ commands)) within in
    ap (λ operation. operation.number) (operation-at bytes (command ∷ commands) k command d inside) ∙ are k command inside

-- The same of a trace.

and-false : (a b : Bool) → b ≡ false → (a && b) ≡ false
and-false true b e = e
and-false false b e = refl

pub next-round : (trace : Parsed) (n o s at : ℕ) → AreNumbered trace.commands → 1 ≤ n → at % n ≡ o → at < length trace.commands
    → ((d : Operation) → has_part n s (get_or (operations trace.bytes trace.commands) at d) ≡ false)
    → left_from trace n o s (at + n) ≡ left_from trace n o s at
next-round trace n o s at are some here within other =
    let inside : at < length (operations trace.bytes trace.commands) = rw (length-operations trace.bytes trace.commands) within in
    passes-other (operations trace.bytes trace.commands) n o s at (numbered trace.bytes trace.commands are) some here
    (λ d. and-false _ _ (other d)) inside

pub here-at : (trace : Parsed) (n o s at : ℕ) (d : Operation) → AreNumbered trace.commands → at % n ≡ o → at < length trace.commands
    → has_part n s (get_or (operations trace.bytes trace.commands) at d) ≡ true
    → is_for n o s (get_or (operations trace.bytes trace.commands) at d) ≡ true
here-at trace n o s at d are here within there =
    let ops = operations trace.bytes trace.commands in
    let inside : at < length ops = rw (length-operations trace.bytes trace.commands) within in
    let from : origin (get_or ops at d).number n ≡ at % n =
    ap (λ k. (k - 1) % n) (numbered trace.bytes trace.commands are at d inside) ∙ ap (λ k. k % n) (omega arith) in
    ap (λ b. b && has_part n s (get_or ops at d)) (eq-eqb _ _ (from ∙ here)) ∙ there

pub from-places : (trace : Parsed) (n o s from : ℕ) → AreNumbered trace.commands → from % n ≡ o
    → (place : ℕ) → place ≤ from → from < place + n → left_from trace n o s from ≡ left_from trace n o s place
from-places trace n o s from are here place below above =
    sym (skips (operations trace.bytes trace.commands) n o s place from (numbered trace.bytes trace.commands are) here below above)

-- what stands at a place that is not behind the end is the first of what is left
pub left-first : (trace : Parsed) (n o s at : ℕ) (e : Command) (d : Operation) → at < length trace.commands
    → is_for n o s (get_or (operations trace.bytes trace.commands) at d) ≡ true
    → left_from trace n o s at ≡ operation trace.bytes (get_or trace.commands at e) ∷ left_from trace n o s (suc at)
left-first trace n o s at e d within here =
    let inside : at < length (operations trace.bytes trace.commands) = rw (length-operations trace.bytes trace.commands) within in
    meets-first (is_for n o s) (operations trace.bytes trace.commands) at d inside here
    ∙ ap (λ operation. operation ∷ left_from trace n o s (suc at)) (operation-at trace.bytes trace.commands at e d within)

pub none-left : (trace : Parsed) (n o s at : ℕ) → length trace.commands ≤ at → left_from trace n o s at ≡ []
none-left trace n o s at ended =
    ap (filter (is_for n o s)) (drop_all at (operations trace.bytes trace.commands) (rw (length-operations trace.bytes trace.commands) ended))

pub after-first : (trace : Parsed) (n o s at : ℕ) (e : Command) (d : Operation) → at < length trace.commands
    → is_for n o s (get_or (operations trace.bytes trace.commands) at d) ≡ true
    → left_from trace n o s (suc at) ≡ drop 1 (left_from trace n o s at)
after-first trace n o s at e d within here = sym (ap (drop 1) (left-first trace n o s at e d within here))

pub first-left : (trace : Parsed) (n o s at : ℕ) (e : Command) (d : Operation) → at < length trace.commands
    → is_for n o s (get_or (operations trace.bytes trace.commands) at d) ≡ true
    → left_from trace n o s at ≡ operation trace.bytes (get_or trace.commands at e) ∷ drop 1 (left_from trace n o s at)
first-left trace n o s at e d within here =
    left-first trace n o s at e d within here
    ∙ ap (λ left. operation trace.bytes (get_or trace.commands at e) ∷ left) (after-first trace n o s at e d within here)

-- for places behind the end
abbrev pub no_command : Command
no_command = record { number = 0; line = 0; kind = Put; table = 0; key = record { start = 0; len = 0 }; value = record { start = 0; len = 0 }; count = 0 }

abbrev pub no_operation : Operation
no_operation = operation [] no_command
