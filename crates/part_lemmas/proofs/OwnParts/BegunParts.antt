-- The parts that a shard issues, where one more is begun: which ones each shard does, and of which command the next one is.
use Rattle.std.proofs.Common.{◌≡◌, ◌≢◌, ℕ, zero, suc, ◌+◌, ◌<◌, ◌==◌, ◌&&◌, Bool, true, false, not, cond, List, [], ◌∷◌, ◌++◌, length, map, take, get_or}
use Rattle.std.proofs.Common.{inl, inr, Option, Some, None, slice_get, arith, refl, sym, ap, subst, ◌∙◌, append-nil}
use Rattle.std.specs.List.{All, Contains, count_by, filter, find}
use Rattle.std.specs.Option.{option_map}
use Rattle.std.proofs.lemmas.Bool.{cases_order, eq-eqb, ne_eqb}
use Rattle.std.proofs.lemmas.List.{length-map}
use Rattle.std.proofs.lemmas.List.Elements.{All-filter, filter_more}
use Rattle.std.proofs.lemmas.List.Sums.{count_by_more_no, count_by_more_yes, length-filter}
use Rattle.std.proofs.lemmas.Option.{get_or_from_slice_get, same_Some, slice_get-get_or, slice_get-map, slice_get_within}
use Rattle.trace_text.specs.declared.command.Command.{Command}
use Rattle.rows.specs.Operation.{Operation}
use Rattle.trace_text.specs.Operation.{operation, operations}
use Rattle.trace_text.specs.Parsed.{AreNumbered, Parsed, trace_in}
use Rattle.trace_text.specs.Parts.{has_part, origin, parts}
use Rattle.trace_text.specs.Trace.{Trace}
use Rattle.cache_model.specs.Legal.{command_of}
use Rattle.cache_model.specs.OwnParts.{issued_parts}
use Rattle.part_lemmas.specs.Due.{operations_for}
use Rattle.part_lemmas.proofs.OwnParts.IssuedParts.{AreOfPeers}
use Rattle.part_lemmas.proofs.OwnParts.LogPlaces.{Rises, number-at, parts-rise, place_at, risen-above}
use Rattle.part_lemmas.proofs.Cursors.Places.{IsNumbered, length-operations, numbered, operation-at}

-- One part more of a list of parts, which shard q does.

pub begun-more : (q : ℕ) (log : List (ℕ × ℕ)) (k i : ℕ) → slice_get log k ≡ Some (i, q)
    → filter (λ part. part.1 == q) (take (k + 1) log) ≡ filter (λ part. part.1 == q) (take k log) ++ (i, q) ∷ []
begun-more q log k i next =
    let p : ℕ × ℕ → Bool = λ part. part.1 == q in
    let is : get_or log k (i, q) ≡ (i, q) = get_or_from_slice_get log k (i, q) (i, q) next in
    filter_more p log k (i, q) (slice_get_within log k (i, q) next)
    ∙ ap (λ part. filter p (take k log) ++ cond (p part) (part ∷ []) []) is
    ∙ ap (λ b. filter p (take k log) ++ cond b ((i, q) ∷ []) []) (eq-eqb q q refl)

pub begun-other : (q r : ℕ) (log : List (ℕ × ℕ)) (k i : ℕ) → slice_get log k ≡ Some (i, q) → r ≢ q
    → filter (λ part. part.1 == r) (take (k + 1) log) ≡ filter (λ part. part.1 == r) (take k log)
begun-other q r log k i next other =
    let p : ℕ × ℕ → Bool = λ part. part.1 == r in
    let is : get_or log k (i, q) ≡ (i, q) = get_or_from_slice_get log k (i, q) (i, q) next in
    filter_more p log k (i, q) (slice_get_within log k (i, q) next)
    ∙ ap (λ part. filter p (take k log) ++ cond (p part) (part ∷ []) []) is
    ∙ ap (λ b. filter p (take k log) ++ cond b ((i, q) ∷ []) []) (ne_eqb q r (λ e. other (sym e)))
    ∙ append-nil (filter p (take k log))

-- how many of them one shard does
pub place-more : (q : ℕ) (log : List (ℕ × ℕ)) (k i : ℕ) → slice_get log k ≡ Some (i, q) → place_at q log (k + 1) ≡ place_at q log k + 1
place-more q log k i next =
    count_by_more_yes (λ part. part.1 == q) log k (i, q) (slice_get_within log k (i, q) next)
    (ap (λ (part : ℕ × ℕ). part.1 == q) (get_or_from_slice_get log k (i, q) (i, q) next) ∙ eq-eqb q q refl)

pub place-other : (q r : ℕ) (log : List (ℕ × ℕ)) (k i : ℕ) → slice_get log k ≡ Some (i, q) → r ≢ q → place_at r log (k + 1) ≡ place_at r log k
place-other q r log k i next other =
    count_by_more_no (λ part. part.1 == r) log k (i, q) (slice_get_within log k (i, q) next)
    (ap (λ (part : ℕ × ℕ). part.1 == r) (get_or_from_slice_get log k (i, q) (i, q) next) ∙ ne_eqb q r (λ e. other (sym e)))

-- and how many the shards other than s do
pub asked-more : (q s : ℕ) (log : List (ℕ × ℕ)) (k i : ℕ) → slice_get log k ≡ Some (i, q) → q ≢ s
    → count_by (λ part. not (part.1 == s)) (take (k + 1) log) ≡ count_by (λ part. not (part.1 == s)) (take k log) + 1
asked-more q s log k i next other =
    count_by_more_yes (λ part. not (part.1 == s)) log k (i, q) (slice_get_within log k (i, q) next)
    (ap (λ (part : ℕ × ℕ). not (part.1 == s)) (get_or_from_slice_get log k (i, q) (i, q) next) ∙ ap not (ne_eqb q s other))

pub asked-same : (s : ℕ) (log : List (ℕ × ℕ)) (k i : ℕ) → slice_get log k ≡ Some (i, s)
    → count_by (λ part. not (part.1 == s)) (take (k + 1) log) ≡ count_by (λ part. not (part.1 == s)) (take k log)
asked-same s log k i next =
    count_by_more_no (λ part. not (part.1 == s)) log k (i, s) (slice_get_within log k (i, s) next)
    (ap (λ (part : ℕ × ℕ). not (part.1 == s)) (get_or_from_slice_get log k (i, s) (i, s) next) ∙ ap not (eq-eqb s s refl))

-- The commands of a trace.

find-at : {X : Type 0} (p : X → Bool) (xs : List X) (k : ℕ) (x : X) → ((j : ℕ) (d : X) → j < k → p (get_or xs j d) ≡ false)
    → slice_get xs k ≡ Some x → p x ≡ true → find p xs ≡ Some x
find-at p [] k x none here passes = absurd (let e : None ≡ Some x = here in cc)
find-at {X} p (first ∷ xs) zero x none here passes =
    let is : first ≡ x = cc in
    rw (ap p is ∙ passes) here
find-at p (first ∷ xs) (suc k) x none here passes =
    let fails : p first ≡ false = none 0 first (omega arith) in
    rw fails (find-at p xs k x (λ j d below. none (suc j) d (omega (arith, below))) here passes)

-- each is found by its number
pub commands-found : (trace : Trace) → IsNumbered trace.operations → All (λ operation. command_of trace operation.number ≡ Some operation) trace.operations
commands-found trace are k d below =
    let ops = trace.operations in
    let one = get_or ops k d in
    find-at (λ operation. operation.number == one.number) ops k one
    (λ j e before.
    let lower = are j e (omega (arith, before, below)) in
    let here = are k d below in
    ne_eqb (get_or ops j e).number one.number (λ same. omega (arith, same, lower, here, before)))
    (slice_get-get_or ops k d below) (eq-eqb one.number one.number refl)

-- What a shard issues to another.

pub parts-are : (trace : Trace) (n o s : ℕ) → parts trace n o s ≡ map (λ operation. operation.number) (operations_for trace n o s)
parts-are trace n o s = refl

pub issued-are : AreOfPeers → (trace : Trace) (n o q : ℕ) → q < n
    → map (λ part. part.0) (filter (λ part. part.1 == q) (issued_parts trace n o)) ≡ map (λ operation. operation.number) (operations_for trace n o q)
issued-are peers trace n o q below = peers trace n o q below

pub count-issued : AreOfPeers → (trace : Trace) (n o q : ℕ) → q < n → count_by (λ part. part.1 == q) (issued_parts trace n o) ≡ length (operations_for trace n o q)
count-issued peers trace n o q below =
    let log = issued_parts trace n o in
    sym (length-filter (λ (part : ℕ × ℕ). part.1 == q) log)
    ∙ sym (length-map (filter (λ (part : ℕ × ℕ). part.1 == q) log) (λ part. part.0))
    ∙ ap length (peers trace n o q below)
    ∙ length-map (operations_for trace n o q) (λ operation. operation.number)

-- the operation of a part: as many of its shard stand before it
pub operation-of : AreOfPeers → (trace : Trace) (n o q k i : ℕ) → q < n → slice_get (issued_parts trace n o) k ≡ Some (i, q)
    → (operation : Operation) × (slice_get (operations_for trace n o q) (place_at q (issued_parts trace n o) k) ≡ Some operation) × (operation.number ≡ i)
operation-of peers trace n o q k i below next =
    let c = place_at q (issued_parts trace n o) k in
    let number : option_map (λ (operation : Operation). operation.number) (slice_get (operations_for trace n o q) c) ≡ Some i =
    sym (slice_get-map (λ (operation : Operation). operation.number) (operations_for trace n o q) c)
    ∙ ap (λ list. slice_get list c) (sym (peers trace n o q below))
    ∙ number-at q (issued_parts trace n o) k i next in
    of-some (slice_get (operations_for trace n o q) c) number
  where
    of-some : (found : Option Operation) → option_map (λ (operation : Operation). operation.number) found ≡ Some i
        → (operation : Operation) × (found ≡ Some operation) × (operation.number ≡ i)
    of-some None number = absurd (let e : None ≡ Some i = number in cc)
    of-some (Some operation) number = (operation, refl, same_Some _ _ number)

found-there : (trace : Trace) (n o s k : ℕ) (operation : Operation) → IsNumbered trace.operations → slice_get (operations_for trace n o s) k ≡ Some operation
    → command_of trace operation.number ≡ Some operation
found-there trace n o s k operation are here =
    let list = operations_for trace n o s in
    let is : get_or list k operation ≡ operation = get_or_from_slice_get list k operation operation here in
    subst (λ (x : Operation). command_of trace x.number ≡ Some x) is
    (All-filter (λ x. origin x.number n == o && has_part n s x) (λ x. command_of trace x.number ≡ Some x) trace.operations (commands-found trace are) k operation (slice_get_within list k operation here))

-- and where the part is of this command, it is this one
pub next-for : AreOfPeers → (trace : Trace) (n o q k : ℕ) (operation : Operation) → IsNumbered trace.operations → command_of trace operation.number ≡ Some operation → q < n
    → slice_get (issued_parts trace n o) k ≡ Some (operation.number, q) → slice_get (operations_for trace n o q) (place_at q (issued_parts trace n o) k) ≡ Some operation
next-for peers trace n o q k operation are found below next =
    let there = operation-of peers trace n o q k operation.number below next in
    let other : command_of trace there.0.number ≡ Some there.0 = found-there trace n o q (place_at q (issued_parts trace n o) k) there.0 are there.1 in
    let same : Some there.0 ≡ Some operation = sym other ∙ ap (command_of trace) there.2 ∙ found in
    there.1 ∙ same

-- Their numbers rise.

rises-by : (m : ℕ) (numbers : List ℕ) (j k a b : ℕ) → Rises m numbers → slice_get numbers j ≡ Some a → slice_get numbers k ≡ Some b → j < k → a < b
rises-by m [] j k a b rises one two before = absurd (let e : None ≡ Some a = one in cc)
rises-by m (i ∷ numbers) j zero a b rises one two before = absurd (omega (arith, before))
rises-by m (i ∷ numbers) zero (suc k) a b rises one two before =
    let is : i ≡ a = cc in
    let above = risen-above i numbers k b rises.1 two in
    omega (arith, is, above)
rises-by m (i ∷ numbers) (suc j) (suc k) a b rises one two before = rises-by i numbers j k a b rises.1 one two (omega (arith, before))

pub numbers-rise : (trace : Trace) (n o s j k : ℕ) (a b : Operation) → IsNumbered trace.operations → slice_get (operations_for trace n o s) j ≡ Some a
    → slice_get (operations_for trace n o s) k ≡ Some b → j < k → a.number < b.number
numbers-rise trace n o s j k a b are one two before =
    let number : Operation → ℕ = λ x. x.number in
    let list = operations_for trace n o s in
    rises-by 0 (parts trace n o s) j k a.number b.number (parts-rise trace n o s are)
    (slice_get-map number list j ∙ ap (option_map number) one) (slice_get-map number list k ∙ ap (option_map number) two) before

pub same-place : (trace : Trace) (n o s j k : ℕ) (a b : Operation) → IsNumbered trace.operations → slice_get (operations_for trace n o s) j ≡ Some a
    → slice_get (operations_for trace n o s) k ≡ Some b → a.number ≡ b.number → j ≡ k
same-place trace n o s j k a b are one two same = elim (cases_order j k) [
  | inl is ↦ is
  | inr (inl before) ↦ (let less = numbers-rise trace n o s j k a b are one two before in absurd (omega (arith, less, same)))
  | inr (inr behind) ↦ (let less = numbers-rise trace n o s k j b a are two one behind in absurd (omega (arith, less, same)))
]

-- The same of a trace that was read.

pub command-found : (trace : Parsed) (command : Command) → AreNumbered trace.commands → Contains trace.commands command
    → command_of (trace_in trace) command.number ≡ Some (operation trace.bytes command)
command-found trace command are there =
    let k = there.0 in
    let ops = operations trace.bytes trace.commands in
    let inside : k < length ops = rw (length-operations trace.bytes trace.commands) there.1 in
    let is : get_or ops k (operation trace.bytes command) ≡ operation trace.bytes command =
    operation-at trace.bytes trace.commands k command (operation trace.bytes command) there.1 ∙ ap (operation trace.bytes) there.2 in
    subst (λ (x : Operation). command_of (trace_in trace) x.number ≡ Some x) is
    (commands-found (trace_in trace) (numbered trace.bytes trace.commands are) k (operation trace.bytes command) inside)

pub next-command : AreOfPeers → (trace : Parsed) (n o q k : ℕ) (command : Command) → AreNumbered trace.commands → Contains trace.commands command → q < n
    → slice_get (issued_parts (trace_in trace) n o) k ≡ Some (command.number, q)
    → slice_get (operations_for (trace_in trace) n o q) (place_at q (issued_parts (trace_in trace) n o) k) ≡ Some (operation trace.bytes command)
next-command peers trace n o q k command are there below next =
    next-for peers (trace_in trace) n o q k (operation trace.bytes command) (numbered trace.bytes trace.commands are) (command-found trace command are there) below next
