-- A log, shard by shard: what it has of the parts that each shard does, where one part more is logged.
use Rattle.std.proofs.Common.{◌≡◌, ◌≢◌, ℕ, zero, suc, ◌+◌, ◌-◌, ◌<◌, ◌≤◌, ◌==◌, ◌&&◌, Bool, true, false, cond, List, [], ◌∷◌, ◌++◌, length, map, take, replicate, get_or}
use Rattle.std.proofs.Common.{slice_set, slice_get, append_assoc, Option, Some, None, arith, refl, sym, ap, ◌∙◌}
use Rattle.std.specs.List.{count_by, filter, zip}
use Rattle.std.specs.Option.{option_map}
use Rattle.std.proofs.Math.Seq.{set-append_seam}
use Rattle.std.proofs.lemmas.Bool.{eqb-true, ne_eqb}
use Rattle.std.proofs.lemmas.Bool.Decides.{nat_tests}
use Rattle.std.proofs.lemmas.List.{length-map, length_push, map_push}
use Rattle.std.proofs.lemmas.List.Sums.{sum_by-cons}
use Rattle.rows.specs.Operation.{Operation}
use Rattle.trace_text.specs.Trace.{Trace}
use Rattle.trace_text.specs.Parts.{has_part, origin, parts}
use Rattle.rows.specs.declared.reply_kind.ReplyKind.{ReplyKind}
use Rattle.rows.specs.Apply.{Reply}
use Rattle.cache_model.specs.OwnParts.{issued_parts}
use Rattle.rows.specs.Spelled.{spelled}
use Rattle.part_lemmas.proofs.Cursors.Places.{IsNumbered}

-- what a log has of the parts that shard q does, in order
abbrev pub at_shard : {A : Type 0} → ℕ → List (ℕ × ℕ) → List A → List A
at_shard q parts log = map (λ entry. entry.1) (filter (λ entry. entry.0.1 == q) (zip parts log))

-- how many of the parts before a place shard q does
abbrev pub place_at : ℕ → List (ℕ × ℕ) → ℕ → ℕ
place_at q parts j = count_by (λ part. part.1 == q) (take j parts)

one-more : (n : ℕ) → 1 + n ≡ suc n
one-more n = omega arith

none-more : (n : ℕ) → 0 + n ≡ n
none-more n = omega arith

eqb-same : (n : ℕ) → (n == n) ≡ true
eqb-same n = grind (arith, nat_tests)

pub at-cons : {A : Type 0} (q : ℕ) (part : ℕ × ℕ) (parts : List (ℕ × ℕ)) (first : A) (log : List A)
    → at_shard q (part ∷ parts) (first ∷ log) ≡ cond (part.1 == q) (first ∷ at_shard q parts log) (at_shard q parts log)
at-cons {A} q part parts first log = go (part.1 == q) (filter (λ entry. entry.0.1 == q) (zip parts log))
  where
    go : (b : Bool) (rest : List ((ℕ × ℕ) × A)) → map (λ (entry : (ℕ × ℕ) × A). entry.1) (cond b ((part, first) ∷ rest) rest)
        ≡ cond b (first ∷ map (λ (entry : (ℕ × ℕ) × A). entry.1) rest) (map (λ (entry : (ℕ × ℕ) × A). entry.1) rest)
    go true rest = refl
    go false rest = refl

place-next : (q : ℕ) (part : ℕ × ℕ) (parts : List (ℕ × ℕ)) (j : ℕ) → place_at q (part ∷ parts) (suc j) ≡ cond (part.1 == q) 1 0 + place_at q parts j
place-next q part parts j = sum_by-cons (λ (p : ℕ × ℕ). cond (p.1 == q) 1 0) part (take j parts)

-- how much of a log is of shard q
pub at-length : {A : Type 0} (q : ℕ) (parts : List (ℕ × ℕ)) (log : List A) → length log ≡ length parts
    → length (at_shard q parts log) ≡ count_by (λ part. part.1 == q) parts
at-length q [] [] same = refl
at-length q [] (first ∷ log) same = absurd (omega (arith, same))
at-length q (part ∷ parts) [] same = absurd (omega (arith, same))
at-length {A} q (part ∷ parts) (first ∷ log) same =
    ap length (at-cons q part parts first log)
    ∙ go (part.1 == q) (at_shard q parts log)
    ∙ ap (λ n. cond (part.1 == q) 1 0 + n) (at-length q parts log (omega (arith, same)))
    ∙ sym (sum_by-cons (λ (p : ℕ × ℕ). cond (p.1 == q) 1 0) part parts)
  where
    go : (b : Bool) (rest : List A) → length (cond b (first ∷ rest) rest) ≡ cond b 1 0 + length rest
    go true rest = omega arith
    go false rest = omega arith

-- one part of shard q more is logged
pub set-at : {A : Type 0} (q : ℕ) (parts : List (ℕ × ℕ)) (log : List A) (j i : ℕ) (v : A) → length log ≡ length parts → slice_get parts j ≡ Some (i, q)
    → at_shard q parts (slice_set log j v) ≡ slice_set (at_shard q parts log) (place_at q parts j) v
set-at q [] log j i v same here = absurd (let e : None ≡ Some (i, q) = here in cc)
set-at q (part ∷ parts) [] j i v same here = absurd (omega (arith, same))
set-at q (part ∷ parts) (first ∷ log) zero i v same here =
    let is : part ≡ (i, q) = cc in
    let there : (part.1 == q) ≡ true = ap (λ (p : ℕ × ℕ). p.1 == q) is ∙ eqb-same q in
    rw there refl
set-at {A} q (part ∷ parts) (first ∷ log) (suc j) i v same here =
    at-cons q part parts first (slice_set log j v)
    ∙ ap (λ list. cond (part.1 == q) (first ∷ list) list) (set-at q parts log j i v (omega (arith, same)) here)
    ∙ go (part.1 == q) (at_shard q parts log) (place_at q parts j)
    ∙ ap (λ k. slice_set (cond (part.1 == q) (first ∷ at_shard q parts log) (at_shard q parts log)) k v) (sym (place-next q part parts j))
    ∙ ap (λ list. slice_set list (place_at q (part ∷ parts) (suc j)) v) (sym (at-cons q part parts first log))
  where
    go : (b : Bool) (rest : List A) (k : ℕ) → cond b (first ∷ slice_set rest k v) (slice_set rest k v) ≡ slice_set (cond b (first ∷ rest) rest) (cond b 1 0 + k) v
    go true rest k = rw (one-more k) refl
    go false rest k = rw (none-more k) refl

-- and nothing of the others is
pub set-other : {A : Type 0} (q r : ℕ) (parts : List (ℕ × ℕ)) (log : List A) (j i : ℕ) (v : A) → slice_get parts j ≡ Some (i, q) → r ≢ q
    → at_shard r parts (slice_set log j v) ≡ at_shard r parts log
set-other q r [] log j i v here other = refl
set-other q r (part ∷ parts) [] j i v here other = refl
set-other q r (part ∷ parts) (first ∷ log) zero i v here other =
    let is : part ≡ (i, q) = cc in
    let away : (part.1 == r) ≡ false = ap (λ (p : ℕ × ℕ). p.1 == r) is ∙ ne_eqb q r (λ e. other (sym e)) in
    rw away refl
set-other q r (part ∷ parts) (first ∷ log) (suc j) i v here other =
    at-cons r part parts first (slice_set log j v)
    ∙ ap (λ list. cond (part.1 == r) (first ∷ list) list) (set-other q r parts log j i v here other)
    ∙ sym (at-cons r part parts first log)

-- Replies that came.

-- a list of what is known, and of what is not yet: one more is known
pub known-more : {X A : Type 0} (f : X → Option A) (xs : List X) (y : X) (m : ℕ) → 1 ≤ m
    → slice_set (map f xs ++ replicate m None) (length xs) (f y) ≡ map f (xs ++ y ∷ []) ++ replicate (m - 1) None
known-more f xs y zero some = absurd (omega arith)
known-more f xs y (suc m) some =
    let fewer : suc m - 1 ≡ m = omega arith in
    ap (λ k. slice_set (map f xs ++ None ∷ replicate m None) k (f y)) (sym (length-map xs f))
    ∙ set-append_seam (map f xs) None (replicate m None) (f y)
    ∙ sym (append_assoc (map f xs) (f y ∷ []) (replicate m None))
    ∙ ap (λ list. list ++ replicate m None) (sym (map_push f xs y))
    ∙ ap (λ k. map f (xs ++ y ∷ []) ++ replicate k None) (sym fewer)

-- the log of one reply more, where shard q does so many of the parts
pub reply-logged : (q : ℕ) (parts : List (ℕ × ℕ)) (log : List (Option (ReplyKind × List ℕ))) (j i len : ℕ) (replies : List Reply) (reply : Reply)
    → length log ≡ length parts → slice_get parts j ≡ Some (i, q) → place_at q parts j ≡ length replies → length replies < len
    → at_shard q parts log ≡ map (λ reply. Some (spelled reply)) replies ++ replicate (len - length replies) None
    → at_shard q parts (slice_set log j (Some (spelled reply)))
    ≡ map (λ reply. Some (spelled reply)) (replies ++ reply ∷ []) ++ replicate (len - length (replies ++ reply ∷ [])) None
reply-logged q parts log j i len replies reply same here place below logged =
    let fewer : len - length replies - 1 ≡ len - length (replies ++ reply ∷ []) = (let longer = length_push replies reply in omega (arith, longer)) in
    set-at q parts log j i (Some (spelled reply)) same here
    ∙ ap (λ list. slice_set list (place_at q parts j) (Some (spelled reply))) logged
    ∙ ap (λ k. slice_set (map (λ (r : Reply). Some (spelled r)) replies ++ replicate (len - length replies) None) k (Some (spelled reply))) place
    ∙ known-more (λ (r : Reply). Some (spelled r)) replies reply (len - length replies) (omega (arith, below))
    ∙ ap (λ k. map (λ (r : Reply). Some (spelled r)) (replies ++ reply ∷ []) ++ replicate k None) fewer

-- Own parts.

-- numbers that rise, each above m
abbrev pub Rises : ℕ → List ℕ → Type 0
Rises m [] = Unit {0}
Rises m (i ∷ numbers) = (m < i) × Rises i numbers

rises-below : (k m : ℕ) (numbers : List ℕ) → k ≤ m → Rises m numbers → Rises k numbers
rises-below k m [] low rises = tt
rises-below k m (i ∷ numbers) low rises = (let above = rises.0 in omega (arith, above, low), rises.1)

-- the numbers of commands that pass a test, where commands are numbered from m + 1
numbers-rise : (p : Operation → Bool) (m : ℕ) (operations : List Operation) → ((k : ℕ) (d : Operation) → k < length operations → (get_or operations k d).number ≡ m + k + 1)
    → Rises m (map (λ operation. operation.number) (filter p operations))
numbers-rise p m [] numbered = tt
numbers-rise p m (operation ∷ operations) numbered =
    let first : operation.number ≡ m + 1 = (let n = numbered 0 operation (omega arith) in omega (arith, n)) in
    let rest : Rises (m + 1) (map (λ o. o.number) (filter p operations)) =
    numbers-rise p (m + 1) operations (λ k d below. let n = numbered (suc k) d (omega (arith, below)) in omega (arith, n)) in
    go (p operation) first rest
  where
    go : (b : Bool) → operation.number ≡ m + 1 → Rises (m + 1) (map (λ (o : Operation). o.number) (filter p operations))
        → Rises m (map (λ (o : Operation). o.number) (cond b (operation ∷ filter p operations) (filter p operations)))
    go true first rest = (omega (arith, first), rw first rest)
    go false first rest = rises-below m (m + 1) (map (λ (o : Operation). o.number) (filter p operations)) (omega arith) rest

pub parts-rise : (trace : Trace) (n o s : ℕ) → IsNumbered trace.operations → Rises 0 (parts trace n o s)
parts-rise trace n o s numbered =
    numbers-rise (λ operation. origin operation.number n == o && has_part n s operation) 0 trace.operations (λ k d below. let e = numbered k d below in omega (arith, e))

same-above : {X : Type 0} (f g : ℕ → X) (i : ℕ) (numbers : List ℕ) → Rises i numbers → ((k : ℕ) → k ≢ i → g k ≡ f k) → map g numbers ≡ map f numbers
same-above f g i numbers rises same = go i numbers (omega arith) rises
  where
    go : (m : ℕ) (ks : List ℕ) → i ≤ m → Rises m ks → map g ks ≡ map f ks
    go m [] low rise = refl
    go m (k ∷ ks) low rise =
        let above = rise.0 in
        let here : g k ≡ f k = same k (λ e. omega (arith, e, above, low)) in
        rw here (ap (λ list. f k ∷ list) (go k ks (omega (arith, above, low)) rise.1))

pub risen-above : (m : ℕ) (numbers : List ℕ) (c i : ℕ) → Rises m numbers → slice_get numbers c ≡ Some i → m < i
risen-above m [] c i rises here = absurd (let e : None ≡ Some i = here in cc)
risen-above m (k ∷ numbers) zero i rises here = let is : k ≡ i = cc in let above = rises.0 in omega (arith, is, above)
risen-above m (k ∷ numbers) (suc c) i rises here = let above = rises.0 in let later = risen-above k numbers c i rises.1 here in omega (arith, above, later)

-- what is told of the numbers changes at one of them
told-at : {X : Type 0} (f g : ℕ → X) (m : ℕ) (numbers : List ℕ) (c i : ℕ) → Rises m numbers → slice_get numbers c ≡ Some i → ((k : ℕ) → k ≢ i → g k ≡ f k)
    → slice_set (map f numbers) c (g i) ≡ map g numbers
told-at f g m [] c i rises here same = refl
told-at f g m (k ∷ numbers) zero i rises here same =
    let is : k ≡ i = cc in
    let later : Rises i numbers = rw (← is) rises.1 in
    rw is (ap (λ list. g i ∷ list) (sym (same-above f g i numbers later same)))
told-at f g m (k ∷ numbers) (suc c) i rises here same =
    let above = risen-above k numbers c i rises.1 here in
    let other : g k ≡ f k = same k (λ e. omega (arith, e, above)) in
    rw other (ap (λ list. f k ∷ list) (told-at f g k numbers c i rises.1 here same))

-- the number of a part, among those of its shard
pub number-at : (q : ℕ) (parts : List (ℕ × ℕ)) (j i : ℕ) → slice_get parts j ≡ Some (i, q)
    → slice_get (map (λ part. part.0) (filter (λ part. part.1 == q) parts)) (place_at q parts j) ≡ Some i
number-at q [] j i here = absurd (let e : None ≡ Some (i, q) = here in cc)
number-at q (part ∷ parts) zero i here =
    let is : part ≡ (i, q) = cc in
    let there : (part.1 == q) ≡ true = ap (λ (p : ℕ × ℕ). p.1 == q) is ∙ eqb-same q in
    rw there (ap (λ (p : ℕ × ℕ). Some p.0) is)
number-at q (part ∷ parts) (suc j) i here =
    ap (slice_get (map (λ (p : ℕ × ℕ). p.0) (filter (λ p. p.1 == q) (part ∷ parts)))) (place-next q part parts j)
    ∙ go (part.1 == q) (filter (λ p. p.1 == q) parts) (place_at q parts j)
    ∙ number-at q parts j i here
  where
    go : (b : Bool) (rest : List (ℕ × ℕ)) (k : ℕ)
        → slice_get (map (λ (p : ℕ × ℕ). p.0) (cond b (part ∷ rest) rest)) (cond b 1 0 + k) ≡ slice_get (map (λ (p : ℕ × ℕ). p.0) rest) k
    go true rest k = rw (one-more k) refl
    go false rest k = rw (none-more k) refl

-- The log of the parts that shard o issues, where one of those that shard s does was done more: the replies to the others are those that
-- they were. That the numbers of the parts for one peer are its parts is a law.
pub part-logged : (trace : Trace) (n o s j i : ℕ) (log : List (Option (ReplyKind × List ℕ))) (reply reply' : ℕ → Option Reply) (answer : Reply)
    → IsNumbered trace.operations → map (λ part. part.0) (filter (λ part. part.1 == s) (issued_parts trace n o)) ≡ parts trace n o s
    → length log ≡ length (issued_parts trace n o) → slice_get (issued_parts trace n o) j ≡ Some (i, s)
    → reply' i ≡ Some answer → ((k : ℕ) → k ≢ i → reply' k ≡ reply k)
    → at_shard s (issued_parts trace n o) log ≡ map (λ k. option_map spelled (reply k)) (parts trace n o s)
    → at_shard s (issued_parts trace n o) (slice_set log j (Some (spelled answer))) ≡ map (λ k. option_map spelled (reply' k)) (parts trace n o s)
part-logged trace n o s j i log reply reply' answer numbered peer same here answered others logged =
    let f : ℕ → Option (ReplyKind × List ℕ) = λ k. option_map spelled (reply k) in
    let g : ℕ → Option (ReplyKind × List ℕ) = λ k. option_map spelled (reply' k) in
    let is : g i ≡ Some (spelled answer) = ap (option_map spelled) answered in
    let among : slice_get (parts trace n o s) (place_at s (issued_parts trace n o) j) ≡ Some i =
    ap (λ list. slice_get list (place_at s (issued_parts trace n o) j)) (sym peer) ∙ number-at s (issued_parts trace n o) j i here in
    set-at s (issued_parts trace n o) log j i (Some (spelled answer)) same here
    ∙ ap (λ list. slice_set list (place_at s (issued_parts trace n o) j) (Some (spelled answer))) logged
    ∙ ap (slice_set (map f (parts trace n o s)) (place_at s (issued_parts trace n o) j)) (sym is)
    ∙ told-at f g 0 (parts trace n o s) (place_at s (issued_parts trace n o) j) i (parts-rise trace n o s numbered) among (λ k other. ap (option_map spelled) (others k other))

-- the same of the own parts of shard s
pub own-logged : (trace : Trace) (n s j i : ℕ) (log : List (Option (ReplyKind × List ℕ))) (reply reply' : ℕ → Option Reply) (answer : Reply)
    → IsNumbered trace.operations → map (λ part. part.0) (filter (λ part. part.1 == s) (issued_parts trace n s)) ≡ parts trace n s s
    → length log ≡ length (issued_parts trace n s) → slice_get (issued_parts trace n s) j ≡ Some (i, s)
    → reply' i ≡ Some answer → ((k : ℕ) → k ≢ i → reply' k ≡ reply k)
    → at_shard s (issued_parts trace n s) log ≡ map (λ k. option_map spelled (reply k)) (parts trace n s s)
    → at_shard s (issued_parts trace n s) (slice_set log j (Some (spelled answer))) ≡ map (λ k. option_map spelled (reply' k)) (parts trace n s s)
own-logged trace n s j i log reply reply' answer numbered peer same here answered others logged =
    part-logged trace n s s j i log reply reply' answer numbered peer same here answered others logged

-- What is told of the commands of one origin stays where it changes at no command of it.
pub told-of : {X : Type 0} (f g : ℕ → X) (trace : Trace) (n o s : ℕ) → ((k : ℕ) → origin k n ≡ o → g k ≡ f k) → map g (parts trace n o s) ≡ map f (parts trace n o s)
told-of {X} f g trace n o s same = each trace.operations
  where
    p : Operation → Bool
    p operation = origin operation.number n == o && has_part n s operation

    both : (a b : Bool) → (a && b) ≡ true → a ≡ true
    both true b e = refl
    both false b e = e

    go : (operation : Operation) (operations : List Operation) (b : Bool) → p operation ≡ b
        → map g (map (λ (x : Operation). x.number) (filter p operations)) ≡ map f (map (λ (x : Operation). x.number) (filter p operations))
        → map g (map (λ (x : Operation). x.number) (cond b (operation ∷ filter p operations) (filter p operations)))
        ≡ map f (map (λ (x : Operation). x.number) (cond b (operation ∷ filter p operations) (filter p operations)))
    go operation operations true is rest =
        let here : g operation.number ≡ f operation.number = same operation.number (eqb-true (origin operation.number n) o (both _ _ is)) in
        rw here (ap (λ list. f operation.number ∷ list) rest)
    go operation operations false is rest = rest

    each : (operations : List Operation) → map g (map (λ (x : Operation). x.number) (filter p operations)) ≡ map f (map (λ (x : Operation). x.number) (filter p operations))
    each [] = refl
    each (operation ∷ operations) = go operation operations (p operation) refl (each operations)

-- So the log of the own parts of shard s stays what it is, where the replies to them do.
pub own-stays : (trace : Trace) (n s : ℕ) (log : List (Option (ReplyKind × List ℕ))) (reply reply' : ℕ → Option Reply) → ((k : ℕ) → origin k n ≡ s → reply' k ≡ reply k)
    → at_shard s (issued_parts trace n s) log ≡ map (λ k. option_map spelled (reply k)) (parts trace n s s)
    → at_shard s (issued_parts trace n s) log ≡ map (λ k. option_map spelled (reply' k)) (parts trace n s s)
own-stays trace n s log reply reply' same logged =
    logged ∙ sym (told-of (λ k. option_map spelled (reply k)) (λ k. option_map spelled (reply' k)) trace n s s (λ k e. ap (option_map spelled) (same k e)))
