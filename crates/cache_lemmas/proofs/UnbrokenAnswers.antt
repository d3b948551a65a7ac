-- The keys and the values of a trace stay on one line, and so do the answers.
use Rattle.std.proofs.Common.{◌≡◌, ℕ, Bool, true, false, not, cond, eqb, ltb, List, [], ◌∷◌, get_or, Option, Some, None, arith, refl}
use Rattle.std.specs.List.{All, AllByRecursion as ByRecursion, filter_map, list_all}
use Rattle.std.specs.Option.{option_map}
use Rattle.std.proofs.lemmas.Bool.{and_parts}
use Rattle.std.proofs.lemmas.Bool.Decides.{nat_tests}
use Rattle.std.proofs.lemmas.List.Elements.{All-from_recursion}
use Rattle.rows.specs.Apply.{Reply}
use Rattle.rows.specs.Operation.{Operation}
use Rattle.trace_text.specs.declared.refusal.Cause.{Cause}
use Rattle.trace_text.specs.Line.{is_key_byte, is_value_byte, key_fault, value_fault}
use Rattle.trace_text.specs.Parsed.{IsWellFormed}
use Rattle.trace_text.specs.Trace.{Trace}
use Rattle.cache_model.specs.declared.entry.Entry.{Entry}
use Rattle.cache_model.specs.Answer.{answer}
use Rattle.cache_model.specs.Holds.{PutBytesHold}
use Rattle.cache_model.specs.Report.{answers}
use Rattle.cache_model.specs.Unbroken.{IsUnbroken, is_unbroken}
use Rattle.cache_lemmas.proofs.Laws.{replies_hold_what_was_put-answers}

-- neither a value of a trace nor a key has an LF
value_byte : (b : ℕ) → is_value_byte b ≡ true → not (eqb b 10) ≡ true
value_byte b is = let low = (and_parts (ltb 31 b) (not (eqb b 127)) is).0 in grind (arith, nat_tests)

value_bytes : (value : List ℕ) → list_all is_value_byte value ≡ true → is_unbroken value ≡ true
value_bytes [] is = refl
value_bytes (b ∷ value) is =
    let tests = and_parts (is_value_byte b) (list_all is_value_byte value) is in
    rw (value_byte b tests.0, value_bytes value tests.1) refl

key_byte : (b : ℕ) → is_key_byte b ≡ true → not (eqb b 10) ≡ true
key_byte b is = let low = (and_parts (ltb 32 b) (not (eqb b 127)) is).0 in grind (arith, nat_tests)

key_bytes : (key : List ℕ) → list_all is_key_byte key ≡ true → is_unbroken key ≡ true
key_bytes [] is = refl
key_bytes (b ∷ key) is =
    let tests = and_parts (is_key_byte b) (list_all is_key_byte key) is in
    rw (key_byte b tests.0, key_bytes key tests.1) refl

-- what is sound passes tests tests
passes : (fits pure : Bool) (length byte : Cause) → cond fits (cond pure None (Some byte)) (Some length) ≡ None → (fits ≡ true) × (pure ≡ true)
passes true true length byte e = (refl, refl)
passes true false length byte e = cc
passes false pure length byte e = cc

value-unbroken : (value : List ℕ) → value_fault value ≡ None → is_unbroken value ≡ true
value-unbroken value sound = value_bytes value (passes _ _ _ _ sound).1

key-unbroken : (key : List ℕ) → key_fault key ≡ None → is_unbroken key ≡ true
key-unbroken key sound = key_bytes key (passes _ _ _ _ sound).1

puts-hold : (trace : Trace) → All IsWellFormed trace.operations → PutBytesHold is_unbroken is_unbroken trace
puts-hold trace formed = λ i d within is.
    (key-unbroken (get_or trace.operations i d).key.bytes (formed i d within).key, value-unbroken (get_or trace.operations i d).value (formed i d within).value)

-- the answers that there are stay on their lines
all-unbroken : (answer_of : Operation → Option Reply) (operations : List Operation) → ((operation : Operation) (reply : Reply) → answer_of operation ≡ Some reply → IsUnbroken reply)
    → ByRecursion (λ (given : ℕ × Reply). IsUnbroken given.1) (filter_map (λ operation. option_map (λ reply. (operation.number, reply)) (answer_of operation)) operations)
all-unbroken answer_of [] unbroken = tt
all-unbroken answer_of (operation ∷ operations) unbroken = go (all-unbroken answer_of operations unbroken) (answer_of operation) refl
  where
    go : ByRecursion (λ (given : ℕ × Reply). IsUnbroken given.1) (filter_map (λ operation. option_map (λ reply. (operation.number, reply)) (answer_of operation)) operations)
        → (o : Option Reply) → answer_of operation ≡ o
        → ByRecursion (λ (given : ℕ × Reply). IsUnbroken given.1) (filter_map (λ operation. option_map (λ reply. (operation.number, reply)) (answer_of operation)) (operation ∷ operations))
    go rest None is = rw is rest
    go rest (Some reply) is = rw is (unbroken operation reply is, rest)

pub answers-unbroken : (trace : Trace) (n pages : ℕ) (journals : List (List Entry)) → All IsWellFormed trace.operations
    → All (λ (given : ℕ × Reply). IsUnbroken given.1) (answers trace n pages journals)
answers-unbroken trace n pages journals formed =
    All-from_recursion (λ (given : ℕ × Reply). IsUnbroken given.1) (answers trace n pages journals)
    (all-unbroken (answer trace n pages journals) trace.operations
    (λ operation reply is. replies_hold_what_was_put-answers is_unbroken is_unbroken trace n pages journals operation reply (puts-hold trace formed) is))
