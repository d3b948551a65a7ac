-- What one node asked of another, where both are done: all that was sent was received, and all of it was done.
use mathlib.Core.List.{IsPrefix}
use Rattle.std.proofs.Common.{◌≡◌, ℕ, zero, suc, ◌+◌, ◌≤◌, ◌<◌, ◌==◌, ◌&&◌, ◌||◌, Bool, true, false, true≢false, cond, List, [], ◌∷◌, ◌++◌, length, map, take, fold, get_or, slice_get, inl, inr, arith, refl, sym, ap, ◌∙◌}
use Rattle.std.proofs.Common.{Option, Some, None, is_some, IsSome}
use Rattle.std.specs.List.{All, before_first, count_by, filter, list_any}
use Rattle.std.specs.Option.{option_map}
use Rattle.std.proofs.lemmas.Bool.{and_parts, cases_lt, eqb-true, ne_eqb}
use Rattle.std.proofs.lemmas.List.{length-append, length-map, take_all}
use Rattle.std.proofs.lemmas.List.Elements.{All-map, All-weaker, filter_passes}
use Rattle.std.proofs.lemmas.List.Sums.{sum_by-cons}
use Rattle.std.proofs.lemmas.Option.{slice_get-get_or}
use Rattle.rows.specs.Operation.{Operation}
use Rattle.trace_text.specs.Parts.{has_part, origin, parts}
use Rattle.trace_text.specs.Trace.{Trace}
use Rattle.cache_model.specs.declared.entry.Entry.{Entry}
use Rattle.cache_model.specs.Legal.{cache_after, command_of, done, is_done, reply_at, reply_on}
use Rattle.rows.specs.Spelled.{spelled}
use Rattle.shard_rings.specs.Request.{request}
use Rattle.shard_rings.specs.declared.link.Packet.{Packet}
use Rattle.shard_rings.specs.declared.link.Packet.TheVariants.{Block as InBlock, Bye}
use Rattle.part_lemmas.specs.Due.{due, is_next, operations_for, requests_taken, said, then_taken}
use Rattle.part_lemmas.specs.Exchange.{blocks, done_for, is_block}
use Rattle.part_lemmas.proofs.OwnParts.LogPlaces.{Rises, parts-rise, risen-above}
use Rattle.part_lemmas.proofs.OwnParts.NextPart.{TellsNumbers}
use Rattle.part_lemmas.proofs.Cursors.Places.{IsNumbered}
use Rattle.part_lemmas.proofs.Together.Lists.{all-unmapped, prefix-whole}

-- The lane of requests.

-- no more are taken than were received
taken-from : (dues : List (Option (List ℕ))) (k : ℕ) (packets : List Packet) → fold (then_taken dues) k packets ≤ k + length packets
taken-from dues k [] = omega arith
taken-from dues k (packet ∷ packets) =
    let one = go (is_next dues k packet) in
    let more = taken-from dues (then_taken dues k packet) packets in
    omega (arith, one, more)
  where
    go : (b : Bool) → cond b (k + 1) k ≤ k + 1
    go true = omega arith
    go false = omega arith

pub requests-received : (dues : List (Option (List ℕ))) (sent received : List Packet) → IsPrefix received sent
    → map said sent ≡ dues → requests_taken dues received ≡ length dues → received ≡ sent
requests-received dues sent received front told heard =
    let few = taken-from dues 0 received in
    let all : length sent ≡ length dues = sym (length-map sent said) ∙ ap length told in
    prefix-whole received sent front (omega (arith, few, all, heard))

-- all that is due are the requests, and Bye
pub due-length : (trace : Trace) (n o s : ℕ) → length (due trace n o s) ≡ length (parts trace n o s) + 1
due-length trace n o s =
    let operations = operations_for trace n o s in
    let requests = map (λ (x : Operation). Some (request x)) operations in
    let all = length-append requests (None ∷ []) in
    let those = length-map operations (λ (x : Operation). Some (request x)) in
    let numbers = length-map operations (λ (x : Operation). x.number) in
    omega (arith, all, those, numbers)

pub all-served : (trace : Trace) (n o s k : ℕ) (numbers : List ℕ) → numbers ≡ take k (parts trace n o s) → k ≡ length (due trace n o s)
    → numbers ≡ parts trace n o s
all-served trace n o s k numbers served heard =
    let all = due-length trace n o s in
    served ∙ take_all k (parts trace n o s) (omega (arith, all, heard))

-- the blocks among them
said-block : (packet : Packet) → is_some (said packet) ≡ is_block packet
said-block (InBlock block) = refl
said-block Bye = refl

blocks-said : (packets : List Packet) → blocks packets ≡ count_by is_some (map said packets)
blocks-said [] = refl
blocks-said (packet ∷ packets) =
    let here : ◌≡◌ {A = ℕ} (cond (is_some (said packet)) 1 0) (cond (is_block packet) 1 0) = ap (λ b. cond b 1 0) (said-block packet) in
    let rest = blocks-said packets in
    let left = sum_by-cons (λ p. cond (is_block p) 1 0) packet packets in
    let right = sum_by-cons (λ (o : Option (List ℕ)). cond (is_some o) 1 0) (said packet) (map said packets) in
    omega (arith, here, rest, left, right)

count-requests : (operations : List Operation) → count_by is_some (map (λ operation. Some (request operation)) operations ++ None ∷ []) ≡ length operations
count-requests [] = refl
count-requests (first ∷ operations) =
    let rest = count-requests operations in
    let all = sum_by-cons (λ (o : Option (List ℕ)). cond (is_some o) 1 0) (Some (request first)) (map (λ (x : Operation). Some (request x)) operations ++ None ∷ []) in
    omega (arith, rest, all)

pub blocks-told : (trace : Trace) (n o s : ℕ) (sent : List Packet) → map said sent ≡ due trace n o s → blocks sent ≡ length (parts trace n o s)
blocks-told trace n o s sent told =
    blocks-said sent
    ∙ ap (count_by is_some) told
    ∙ count-requests (operations_for trace n o s)
    ∙ sym (length-map (operations_for trace n o s) (λ (x : Operation). x.number))

-- Own parts: where each has a reply in the journal, all of them are done.

-- a number of a list that rises is not among those before it
not-before : (m : ℕ) (numbers : List ℕ) (k i : ℕ) → Rises m numbers → slice_get numbers k ≡ Some i → list_any (λ j. j == i) (take k numbers) ≡ false
not-before m [] k i rises here = absurd (let clash : None ≡ Some i = here in cc)
not-before m (x ∷ numbers) zero i rises here = refl
not-before m (x ∷ numbers) (suc k) i rises here =
    let above : x < i = risen-above x numbers k i rises.1 here in
    rw (ne_eqb x i (λ same. omega (arith, same, above))) (not-before x numbers k i rises.1 here)

-- what stands among numbers stands among those that pass a test, if it passes
any-kept : (p : ℕ → Bool) (i : ℕ) (numbers : List ℕ) → p i ≡ true → list_any (λ j. j == i) numbers ≡ true → list_any (λ j. j == i) (filter p numbers) ≡ true
any-kept p i [] passes there = there
any-kept p i (x ∷ numbers) passes there = go (x == i) refl (p x) refl there (any-kept p i numbers passes)
  where
    go : (a : Bool) → (x == i) ≡ a → (b : Bool) → p x ≡ b → (a || list_any (λ j. j == i) numbers) ≡ true
        → (list_any (λ j. j == i) numbers ≡ true → list_any (λ j. j == i) (filter p numbers) ≡ true)
        → list_any (λ j. j == i) (cond b (x ∷ filter p numbers) (filter p numbers)) ≡ true
    go true is true keeps there rest = rw is refl
    go true is false fails there rest = absurd (true≢false (sym passes ∙ ap p (sym (eqb-true x i is)) ∙ fails))
    go false is true keeps there rest = rw is (rest there)
    go false is false fails there rest = rest there

parts-origin : (trace : Trace) (n o s : ℕ) → All (λ i. (origin i n == o) ≡ true) (parts trace n o s)
parts-origin trace n o s =
    let test : Operation → Bool = λ x. origin x.number n == o && has_part n s x in
    All-map (λ i. (origin i n == o) ≡ true) (λ (x : Operation). x.number) (operations_for trace n o s)
    (All-weaker (λ x. test x ≡ true) (λ x. (origin x.number n == o) ≡ true)
    (λ x passes. (and_parts (origin x.number n == o) (has_part n s x) passes).0) (operations_for trace n o s) (filter_passes test trace.operations))

-- a reply is there only of a command that was done
some-done : (trace : Trace) (pages i : ℕ) (entries : List Entry) → IsSome (option_map spelled (reply_at trace pages entries i)) → list_any (is_done i) entries ≡ true
some-done trace pages i entries is = go (list_any (is_done i) entries) refl is
  where
    go : (b : Bool) → list_any (is_done i) entries ≡ b
        → IsSome (option_map spelled (cond b (reply_on (command_of trace i) (cache_after trace pages (before_first (is_done i) entries))) None)) → list_any (is_done i) entries ≡ true
    go true there is = there
    go false none is = absurd (true≢false (sym is))

pub own-all : TellsNumbers → (trace : Trace) (n s pages k : ℕ) (entries : List Entry) → IsNumbered trace.operations → done_for n s entries ≡ take k (parts trace n s s)
    → All IsSome (map (λ i. option_map spelled (reply_at trace pages entries i)) (parts trace n s s)) → done_for n s entries ≡ parts trace n s s
own-all tells trace n s pages k entries are own answered = elim (cases_lt k (length (parts trace n s s))) [
  | inl less ↦
      let numbers = parts trace n s s in
      let i = get_or numbers k 0 in
      let there : list_any (is_done i) entries ≡ true = some-done trace pages i entries (all-unmapped IsSome (λ j. option_map spelled (reply_at trace pages entries j)) numbers answered k 0 less) in
      let among : list_any (λ j. j == i) (done entries) ≡ true = sym (tells i entries) ∙ there in
      let kept : list_any (λ j. j == i) (done_for n s entries) ≡ true = any-kept (λ j. origin j n == s) i (done entries) (parts-origin trace n s s k 0 less) among in
      let before : list_any (λ j. j == i) (take k numbers) ≡ true = ap (list_any (λ j. j == i)) (sym own) ∙ kept in
      absurd (true≢false (sym before ∙ not-before 0 numbers k i (parts-rise trace n s s are) (slice_get-get_or numbers k 0 less)))
  | inr all ↦ own ∙ take_all k (parts trace n s s) all
]
