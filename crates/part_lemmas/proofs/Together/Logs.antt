-- The log of a node that is done, from what it has of the parts that each shard does.
use Rattle.std.proofs.Common.{◌≡◌, ◌≢◌, ℕ, ◌<◌, ◌==◌, ◌&&◌, Bool, true, false, true≢false, cond, List, [], ◌∷◌, length, map, replicate, slice_get, slice_set, get_or, arith, refl, sym, ap, ◌∙◌, inl, inr}
use Rattle.std.proofs.Common.{Option, Some, None}
use Rattle.std.specs.List.{All, filter, flat_map, range_with_len}
use Rattle.std.specs.Option.{option_map}
use Rattle.std.proofs.Math.Nat.{mod-lt}
use Rattle.std.proofs.lemmas.Bool.{and_from, cases_eq, eq-eqb, eqb-true}
use Rattle.std.proofs.lemmas.List.{length-map, length-set}
use Rattle.std.proofs.lemmas.List.Elements.{All-append, All-cons, All-head, All-map, All-nil, All-same, All-tail}
use Rattle.std.proofs.lemmas.List.FromFn.{get_or-range_with_len, length-range_with_len}
use Rattle.rows.specs.Operation.{Operation, is_scan}
use Rattle.trace_text.specs.Parts.{has_part, origin, owner, parts}
use Rattle.trace_text.specs.Trace.{Trace}
use Rattle.rows.specs.declared.reply_kind.ReplyKind.{ReplyKind}
use Rattle.rows.specs.Apply.{Reply}
use Rattle.cache_model.specs.OwnParts.{HoldsReplies, issued_parts, parts_of}
use Rattle.rows.specs.Spelled.{spelled}
use Rattle.part_lemmas.specs.Due.{operations_for}
use Rattle.part_lemmas.proofs.OwnParts.IssuedParts.{AreOfPeers}
use Rattle.part_lemmas.proofs.Cursors.Places.{IsNumbered}
use Rattle.part_lemmas.proofs.OwnParts.LogPlaces.{at-cons, at_shard, part-logged, set-other, told-of}
use Rattle.part_lemmas.proofs.Together.Lists.{all-unfiltered, all-unmapped}

-- Parts.

-- what holds of the part of each shard that does one holds of all parts of a command
each-part : (P : ℕ × ℕ → Type 0) (n i own : ℕ) (scan : Bool) → own < n → ((s : ℕ) → s < n → cond scan true (own == s) ≡ true → P (i, s))
    → All P (cond scan (map (λ s. (i, s)) (range_with_len 0 n)) ((i, own) ∷ []))
each-part P n i own true below each = All-map P (λ s. (i, s)) (range_with_len 0 n)
    (λ k d within.
    let many = length-range_with_len 0 n in
    let is = get_or-range_with_len 0 n k d (omega (arith, many, within)) in
    each (get_or (range_with_len 0 n) k d) (omega (arith, many, is, within)) refl)
each-part P n i own false below each = All-cons P (i, own) [] (each own below (eq-eqb own own refl)) (All-nil P)

below-all : (n : ℕ) (operations : List Operation) → 0 < n → All (λ (part : ℕ × ℕ). part.1 < n) (flat_map (parts_of n) operations)
below-all n [] some = All-nil (λ (part : ℕ × ℕ). part.1 < n)
below-all n (x ∷ xs) some =
    All-append (λ (part : ℕ × ℕ). part.1 < n) (parts_of n x) (flat_map (parts_of n) xs)
    (each-part (λ part. part.1 < n) n x.number (owner x.key.bytes n) (is_scan x.kind) (mod-lt _ some) (λ s below has. below)) (below-all n xs some)

pub issued-below : (trace : Trace) (n o : ℕ) → 0 < n → All (λ (part : ℕ × ℕ). part.1 < n) (issued_parts trace n o)
issued-below trace n o some = below-all n (filter (λ x. origin x.number n == o) trace.operations) some

-- what holds of the parts of each shard from each origin holds of all parts of all commands
pub of-all-parts : (P : ℕ × ℕ → Type 0) (trace : Trace) (n : ℕ) → 0 < n → ((o s : ℕ) → o < n → s < n → All (λ i. P (i, s)) (parts trace n o s))
    → All (λ operation. All P (parts_of n operation)) trace.operations
of-all-parts P trace n some each k d below =
    let operations = trace.operations in
    let x = get_or operations k d in
    let o = origin x.number n in
    each-part P n x.number (owner x.key.bytes n) (is_scan x.kind) (mod-lt _ some)
    (λ s less has.
    all-unfiltered (λ y. P (y.number, s)) (λ y. origin y.number n == o && has_part n s y) operations
    (all-unmapped (λ i. P (i, s)) (λ (y : Operation). y.number) (operations_for trace n o s) (each o s (mod-lt _ some) less)) k d below
    (and_from (o == o) (has_part n s x) (eq-eqb o o refl) has))

-- Logs.

-- what holds of a log holds of what it has of one shard
pub all-at-shard : {A : Type 0} (P : A → Type 0) (q : ℕ) (parts : List (ℕ × ℕ)) (log : List A) → All P log → All P (at_shard q parts log)
all-at-shard P q [] log all = All-nil P
all-at-shard P q (part ∷ parts) [] all = All-nil P
all-at-shard {A} P q (part ∷ parts) (a ∷ log) all =
    All-same P _ _ (at-cons q part parts a log) (go (part.1 == q) (at_shard q parts log) (All-head P a log all) (all-at-shard P q parts log (All-tail P a log all)))
  where
    go : (b : Bool) (rest : List A) → P a → All P rest → All P (cond b (a ∷ rest) rest)
    go true rest first those = All-cons P a rest first those
    go false rest first those = those

-- two logs that have the same of each shard are one
pub same-log : {A : Type 0} (n : ℕ) (parts : List (ℕ × ℕ)) (xs ys : List A) → length xs ≡ length parts → length ys ≡ length parts → All (λ (part : ℕ × ℕ). part.1 < n) parts
    → ((q : ℕ) → q < n → at_shard q parts xs ≡ at_shard q parts ys) → xs ≡ ys
same-log n [] [] [] left right below same = refl
same-log n [] [] (y ∷ ys) left right below same = absurd (omega (arith, right))
same-log n [] (x ∷ xs) ys left right below same = absurd (omega (arith, left))
same-log n (part ∷ parts) [] ys left right below same = absurd (omega (arith, left))
same-log n (part ∷ parts) (x ∷ xs) [] left right below same = absurd (omega (arith, right))
same-log {A} n (part ∷ parts) (x ∷ xs) (y ∷ ys) left right below same =
    let both : (q : ℕ) → q < n → cond (part.1 == q) (x ∷ at_shard q parts xs) (at_shard q parts xs) ≡ cond (part.1 == q) (y ∷ at_shard q parts ys) (at_shard q parts ys) =
    λ q less. sym (at-cons q part parts x xs) ∙ same q less ∙ at-cons q part parts y ys in
    let own = All-head (λ (p : ℕ × ℕ). p.1 < n) part parts below in
    let first : x ≡ y = head-of (part.1 == part.1) (eq-eqb part.1 part.1 refl) (at_shard part.1 parts xs) (at_shard part.1 parts ys) (both part.1 own) in
    let rest : xs ≡ ys =
    same-log n parts xs ys (omega (arith, left)) (omega (arith, right)) (All-tail (λ (p : ℕ × ℕ). p.1 < n) part parts below)
    (λ q less. tail-of (part.1 == q) (at_shard q parts xs) (at_shard q parts ys) (both q less)) in
    ap (λ z. z ∷ xs) first ∙ ap (λ zs. y ∷ zs) rest
  where
    head-of : (b : Bool) → b ≡ true → (us vs : List A) → cond b (x ∷ us) us ≡ cond b (y ∷ vs) vs → x ≡ y
    head-of true is us vs e = cc
    head-of false is us vs e = absurd (true≢false (sym is))

    tail-of : (b : Bool) (us vs : List A) → cond b (x ∷ us) us ≡ cond b (y ∷ vs) vs → us ≡ vs
    tail-of true us vs e = cc
    tail-of false us vs e = e

-- what is told of each part
at-told : {A : Type 0} (f : ℕ × ℕ → A) (q : ℕ) (parts : List (ℕ × ℕ)) → at_shard q parts (map f parts) ≡ map (λ i. f (i, q)) (map (λ part. part.0) (filter (λ part. part.1 == q) parts))
at-told f q [] = refl
at-told {A} f q (part ∷ parts) =
    at-cons q part parts (f part) (map f parts)
    ∙ ap (λ list. cond (part.1 == q) (f part ∷ list) list) (at-told f q parts)
    ∙ go (part.1 == q) refl (filter (λ (p : ℕ × ℕ). p.1 == q) parts)
  where
    go : (b : Bool) → (part.1 == q) ≡ b → (rest : List (ℕ × ℕ))
        → cond b (f part ∷ map (λ i. f (i, q)) (map (λ (p : ℕ × ℕ). p.0) rest)) (map (λ i. f (i, q)) (map (λ (p : ℕ × ℕ). p.0) rest))
        ≡ map (λ i. f (i, q)) (map (λ (p : ℕ × ℕ). p.0) (cond b (part ∷ rest) rest))
    go true is rest = ap (λ s. f (part.0, s) ∷ map (λ i. f (i, q)) (map (λ (p : ℕ × ℕ). p.0) rest)) (eqb-true part.1 q is)
    go false is rest = refl

-- so a log holds the replies where it has those of each shard
pub holds-replies : AreOfPeers → (trace : Trace) (n o : ℕ) (reply : ℕ × ℕ → Option Reply) (log : List (Option (ReplyKind × List ℕ))) → 0 < n
    → length log ≡ length (issued_parts trace n o)
    → ((q : ℕ) → q < n → at_shard q (issued_parts trace n o) log ≡ map (λ i. option_map spelled (reply (i, q))) (parts trace n o q))
    → HoldsReplies trace n o reply log
holds-replies peers trace n o reply log some many each =
    let issued = issued_parts trace n o in
    let f : ℕ × ℕ → Option (ReplyKind × List ℕ) = λ part. option_map spelled (reply part) in
    same-log n issued log (map f issued) many (length-map issued f) (issued-below trace n o some)
    (λ q below. each q below ∙ ap (map (λ i. f (i, q))) (sym (peers trace n o q below)) ∙ sym (at-told f q issued))

map-same : {X Y : Type 0} (f g : X → Y) (xs : List X) → ((x : X) → g x ≡ f x) → map f xs ≡ map g xs
map-same f g [] same = refl
map-same f g (x ∷ xs) same = rw same (ap (λ ys. f x ∷ ys) (map-same f g xs same))

-- A log that holds replies holds them with one reply more, to the part of command i that shard s does, where the others are those that
-- they were.
pub holds-more : AreOfPeers → (trace : Trace) (n o s j i : ℕ) (reply reply' : ℕ × ℕ → Option Reply) (answer : Reply) (log : List (Option (ReplyKind × List ℕ)))
    → 0 < n → s < n → IsNumbered trace.operations → slice_get (issued_parts trace n o) j ≡ Some (i, s)
    → reply' (i, s) ≡ Some answer → ((k : ℕ) → k ≢ i → reply' (k, s) ≡ reply (k, s)) → ((q : ℕ) → q ≢ s → (k : ℕ) → reply' (k, q) ≡ reply (k, q))
    → HoldsReplies trace n o reply log → HoldsReplies trace n o reply' (slice_set log j (Some (spelled answer)))
holds-more peers trace n o s j i reply reply' answer log some below numbered there answered same others holds =
    holds-replies peers trace n o reply' (slice_set log j (Some (spelled answer))) some (length-set log j (Some (spelled answer)) ∙ many)
    (λ q less. elim (cases_eq q s) [
      | inl is ↦ rw is (part-logged trace n o s j i log (λ k. reply (k, s)) (λ k. reply' (k, s)) answer numbered (peers trace n o s below) many there answered same (at s below))
      | inr other ↦
          set-other s q issued log j i (Some (spelled answer)) there other
          ∙ at q less
          ∙ map-same (λ k. option_map spelled (reply (k, q))) (λ k. option_map spelled (reply' (k, q))) (parts trace n o q) (λ k. ap (option_map spelled) (others q other k))
    ])
  where
    issued : List (ℕ × ℕ)
    issued = issued_parts trace n o

    text : ℕ × ℕ → Option (ReplyKind × List ℕ)
    text part = option_map spelled (reply part)

    many : length log ≡ length issued
    many = ap length holds ∙ length-map issued text

    at : (q : ℕ) → q < n → at_shard q issued log ≡ map (λ k. option_map spelled (reply (k, q))) (parts trace n o q)
    at q less = ap (at_shard q issued) holds ∙ at-told text q issued ∙ ap (map (λ k. text (k, q))) (peers trace n o q less)

-- The log of an origin holds what it held, where replies changed that are not of its commands.
pub holds-other : AreOfPeers → (trace : Trace) (n o : ℕ) (reply reply' : ℕ × ℕ → Option Reply) (log : List (Option (ReplyKind × List ℕ))) → 0 < n
    → ((k q : ℕ) → origin k n ≡ o → reply' (k, q) ≡ reply (k, q)) → HoldsReplies trace n o reply log → HoldsReplies trace n o reply' log
holds-other peers trace n o reply reply' log some same holds =
    let issued = issued_parts trace n o in
    let text : ℕ × ℕ → Option (ReplyKind × List ℕ) = λ part. option_map spelled (reply part) in
    holds-replies peers trace n o reply' log some (ap length holds ∙ length-map issued text)
    (λ q less.
    ap (at_shard q issued) holds ∙ at-told text q issued ∙ ap (map (λ k. text (k, q))) (peers trace n o q less)
    ∙ sym (told-of (λ k. option_map spelled (reply (k, q))) (λ k. option_map spelled (reply' (k, q))) trace n o q (λ k e. ap (option_map spelled) (same k q e))))

-- a log that holds none holds none yet
pub holds-none : (trace : Trace) (n o : ℕ) (reply : ℕ × ℕ → Option Reply) → ((part : ℕ × ℕ) → reply part ≡ None) → (m : ℕ) → m ≡ length (issued_parts trace n o)
    → HoldsReplies trace n o reply (replicate m None)
holds-none trace n o reply none m many = ap (λ k. replicate k None) many ∙ go (issued_parts trace n o)
  where
    go : (parts : List (ℕ × ℕ)) → replicate (length parts) None ≡ map (λ part. option_map spelled (reply part)) parts
    go [] = refl
    go (part ∷ parts) = let here : reply part ≡ None = none part in rw here (ap (λ list. None ∷ list) (go parts))

-- the same replies under other names
pub holds-same : (trace : Trace) (n o : ℕ) (reply reply' : ℕ × ℕ → Option Reply) (log : List (Option (ReplyKind × List ℕ))) → ((part : ℕ × ℕ) → reply' part ≡ reply part)
    → HoldsReplies trace n o reply log → HoldsReplies trace n o reply' log
holds-same trace n o reply reply' log same holds =
    holds ∙ map-same (λ part. option_map spelled (reply part)) (λ part. option_map spelled (reply' part)) (issued_parts trace n o) (λ part. ap (option_map spelled) (same part))
