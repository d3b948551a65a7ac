-- The next part of an origin: it is of a command of the trace, and was not done.
use mathlib.Core.List.{IsPrefix}
use Rattle.std.proofs.Common.{◌≡◌, ℕ, zero, suc, ◌+◌, ◌<◌, ◌==◌, ◌&&◌, ◌||◌, Bool, true, false, cond, List, [], ◌∷◌, ◌++◌, length, filter, take, get_or, slice_get, Some, None, arith, refl, sym, ap, ◌∙◌}
use Rattle.std.specs.List.{find, list_any}
use Rattle.std.specs.Option.{option_map}
use Rattle.std.proofs.Math.Seq.{take-append_seam}
use Rattle.std.proofs.lemmas.Bool.{eqb-true, ne_eqb}
use Rattle.std.proofs.lemmas.Bool.Decides.{nat_tests}
use Rattle.std.proofs.lemmas.List.{take_more}
use Rattle.std.proofs.lemmas.Option.{get_or_from_slice_get, slice_get-map, slice_get_within}
use Rattle.rows.specs.Operation.{Operation}
use Rattle.trace_text.specs.Parts.{has_part, origin, parts}
use Rattle.trace_text.specs.Trace.{Trace}
use Rattle.cache_model.specs.declared.entry.Entry.{Entry}
use Rattle.cache_model.specs.Legal.{command_of, done, is_done}
use Rattle.part_lemmas.specs.Due.{operations_for}
use Rattle.part_lemmas.specs.Exchange.{done_for}
use Rattle.part_lemmas.proofs.OwnParts.Growth.{done_for-more, then_done}
use Rattle.part_lemmas.proofs.OwnParts.LogPlaces.{Rises, parts-rise, risen-above}
use Rattle.part_lemmas.proofs.Cursors.Places.{IsNumbered}

no-part : {A B : Type 0} (x : A) → None ≡ Some x → B
no-part {A} {B} x e = absurd (let clash : None ≡ Some x = e in cc)

eqb-same : (n : ℕ) → (n == n) ≡ true
eqb-same n = grind (arith, nat_tests)

both : (a b : Bool) → (a && b) ≡ true → a ≡ true
both true b e = refl
both false b e = e

-- Its command.

-- the number of an operation that one shard issues to another is that of a part
pub part-at : (trace : Trace) (n o s k : ℕ) (operation : Operation) → slice_get (operations_for trace n o s) k ≡ Some operation
    → slice_get (parts trace n o s) k ≡ Some operation.number
part-at trace n o s k operation here =
    slice_get-map (λ (x : Operation). x.number) (operations_for trace n o s) k ∙ ap (option_map (λ (x : Operation). x.number)) here

-- what a filter keeps passes, and is of the list
record IsKept {X : Type 0} (p : X → Bool) (xs : List X) (x : X) : Type 0 where
  passes : p x ≡ true
  place : ℕ
  there : slice_get xs place ≡ Some x

kept : {X : Type 0} (p : X → Bool) (xs : List X) (k : ℕ) (x : X) → slice_get (filter p xs) k ≡ Some x → IsKept p xs x
kept p [] k x here = no-part x here
kept {X} p (first ∷ xs) k x here = go (p first) refl k here (λ j e. later (kept p xs j x e))
  where
    later : IsKept p xs x → IsKept p (first ∷ xs) x
    later rest = record { passes = rest.passes; place = suc rest.place; there = rest.there }

    go : (b : Bool) → p first ≡ b → (k : ℕ) → slice_get (cond b (first ∷ filter p xs) (filter p xs)) k ≡ Some x
        → ((j : ℕ) → slice_get (filter p xs) j ≡ Some x → IsKept p (first ∷ xs) x) → IsKept p (first ∷ xs) x
    go true is zero here rest = let same : first ≡ x = cc in record { passes = ap p (sym same) ∙ is; place = 0; there = here }
    go true is (suc j) here rest = rest j here
    go false is j here rest = rest j here

pub origin-at : (trace : Trace) (n o s k : ℕ) (operation : Operation) → slice_get (operations_for trace n o s) k ≡ Some operation → origin operation.number n ≡ o
origin-at trace n o s k operation here =
    let is = kept (λ x. origin x.number n == o && has_part n s x) trace.operations k operation here in
    eqb-true (origin operation.number n) o (both (origin operation.number n == o) (has_part n s operation) is.passes)

find-numbered : (m : ℕ) (operations : List Operation) (place : ℕ) (operation : Operation)
    → ((k : ℕ) (d : Operation) → k < length operations → (get_or operations k d).number ≡ m + k) → slice_get operations place ≡ Some operation
    → find (λ x. x.number == operation.number) operations ≡ Some operation
find-numbered m [] place operation numbered here = no-part operation here
find-numbered m (first ∷ operations) zero operation numbered here =
    let same : first ≡ operation = cc in
    let test : (first.number == operation.number) ≡ true = ap (λ (x : Operation). x.number == operation.number) same ∙ eqb-same operation.number in
    rw test here
find-numbered m (first ∷ operations) (suc place) operation numbered here =
    let within : place < length operations = slice_get_within operations place operation here in
    let is : get_or operations place first ≡ operation = get_or_from_slice_get operations place operation first here in
    let number : operation.number ≡ m + suc place = ap (λ (x : Operation). x.number) (sym is) ∙ numbered (suc place) first (omega (arith, within)) in
    let lower : first.number ≡ m + 0 = numbered 0 first (omega arith) in
    let test : (first.number == operation.number) ≡ false = ne_eqb first.number operation.number (λ e. omega (arith, e, number, lower)) in
    rw test (find-numbered (m + 1) operations place operation (λ k d below. let n = numbered (suc k) d (omega (arith, below)) in omega (arith, n)) here)

-- the command is found by its number
pub command-at : (trace : Trace) (n o s k : ℕ) (operation : Operation) → IsNumbered trace.operations → slice_get (operations_for trace n o s) k ≡ Some operation
    → command_of trace operation.number ≡ Some operation
command-at trace n o s k operation numbered here =
    let is = kept (λ x. origin x.number n == o && has_part n s x) trace.operations k operation here in
    find-numbered 1 trace.operations is.place operation (λ j d below. let e = numbered j d below in omega (arith, e)) is.there

-- It was not done.

not-taken : (m : ℕ) (numbers : List ℕ) (k i : ℕ) → Rises m numbers → slice_get numbers k ≡ Some i → list_any (λ j. j == i) (take k numbers) ≡ false
not-taken m [] k i rises here = no-part i here
not-taken m (first ∷ numbers) zero i rises here = refl
not-taken m (first ∷ numbers) (suc k) i rises here =
    let above = risen-above first numbers k i rises.1 here in
    let test : (first == i) ≡ false = ne_eqb first i (λ e. omega (arith, e, above)) in
    rw test (not-taken first numbers k i rises.1 here)

-- a number that passes is not in a list where it is not among those that pass
not-kept : (p : ℕ → Bool) (i : ℕ) (xs : List ℕ) → p i ≡ true → list_any (λ j. j == i) (filter p xs) ≡ false → list_any (λ j. j == i) xs ≡ false
not-kept p i [] passes none = refl
not-kept p i (x ∷ xs) passes none = go (p x) (x == i) refl refl none (not-kept p i xs passes)
  where
    true-false : {B : Type 0} → true ≡ false → B
    true-false {B} e = absurd (let clash : true ≡ false = e in cc)

    go : (b c : Bool) → p x ≡ b → (x == i) ≡ c → list_any (λ j. j == i) (cond b (x ∷ filter p xs) (filter p xs)) ≡ false
        → (list_any (λ j. j == i) (filter p xs) ≡ false → list_any (λ j. j == i) xs ≡ false) → (c || list_any (λ j. j == i) xs) ≡ false
    go true true tests is none rest = true-false (ap (λ c. c || list_any (λ j. j == i) (filter p xs)) (sym is) ∙ none)
    go false true tests is none rest = true-false (sym passes ∙ (ap p (sym (eqb-true x i is)) ∙ tests))
    go true false tests is none rest = rest (ap (λ c. c || list_any (λ j. j == i) (filter p xs)) (sym is) ∙ none)
    go false false tests is none rest = rest none

-- That what is done is told by its numbers is a law.
abbrev pub TellsNumbers : Type 0
TellsNumbers = (i : ℕ) (journal : List Entry) → list_any (is_done i) journal ≡ list_any (λ j. j == i) (done journal)

-- where so many parts of its origin are done, the next one is not
pub not-done : TellsNumbers → (trace : Trace) (n o s k : ℕ) (entries : List Entry) (operation : Operation) → IsNumbered trace.operations
    → done_for n o entries ≡ take k (parts trace n o s) → slice_get (operations_for trace n o s) k ≡ Some operation
    → list_any (is_done operation.number) entries ≡ false
not-done tells trace n o s k entries operation numbered so_far here =
    let i = operation.number in
    let of_origin : (origin i n == o) ≡ true = ap (λ q. origin i n == q) (sym (origin-at trace n o s k operation here)) ∙ eqb-same (origin i n) in
    let none : list_any (λ j. j == i) (done_for n o entries) ≡ false =
    ap (list_any (λ j. j == i)) so_far ∙ not-taken 0 (parts trace n o s) k i (parts-rise trace n o s numbered) (part-at trace n o s k operation here) in
    tells i entries ∙ not-kept (λ j. origin j n == o) i (done entries) of_origin none

-- And then it is.

pub taken-more : {X : Type 0} (xs : List X) (k : ℕ) (x : X) → slice_get xs k ≡ Some x → take (k + 1) xs ≡ take k xs ++ x ∷ []
taken-more xs k x here =
    take_more xs k x (slice_get_within xs k x here) ∙ ap (λ y. take k xs ++ y ∷ []) (get_or_from_slice_get xs k x x here)

pub then-served : (trace : Trace) (n o s k : ℕ) (entries : List Entry) (puts : List ℕ) (operation : Operation)
    → done_for n o entries ≡ take k (parts trace n o s) → slice_get (operations_for trace n o s) k ≡ Some operation
    → done_for n o (entries ++ then_done puts operation.number) ≡ take (k + 1) (parts trace n o s)
then-served trace n o s k entries puts operation so_far here =
    done_for-more n o entries puts operation.number (origin-at trace n o s k operation here)
    ∙ ap (λ list. list ++ operation.number ∷ []) so_far
    ∙ sym (taken-more (parts trace n o s) k operation.number (part-at trace n o s k operation here))

-- A front of a list is what is taken of it.

pub front-taken : {X : Type 0} (front xs : List X) → IsPrefix front xs → front ≡ take (length front) xs
front-taken front xs is = sym (ap (take (length front)) (sym is.1) ∙ take-append_seam front is.0)

pub taken-front : {X : Type 0} (k : ℕ) (xs : List X) → IsPrefix (take k xs) xs
taken-front zero xs = (xs, refl)
taken-front (suc k) [] = ([], refl)
taken-front (suc k) (x ∷ xs) = let rest = taken-front k xs in (rest.0, ap (λ list. x ∷ list) rest.1)
