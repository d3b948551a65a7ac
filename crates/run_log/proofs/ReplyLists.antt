-- The lists of a reply log.
use Rattle.std.proofs.Common.{◌≡◌, ◌∙◌, sym, ℕ, ◌+◌, ◌≤◌, zero, suc, List, [], ◌∷◌, ◌++◌, length, take, drop, map, Option, Some, None, arith, refl, ap, subst, replicate, slice_set}
use Rattle.std.specs.Prelude.{All}
use Rattle.std.proofs.lemmas.List.{map-set, drop-append-le, take-append-le, length-drop, take-append-drop}
use Rattle.std.proofs.lemmas.List.Elements.{All-head, All-set, All-tail, All-weaker}
use Rattle.std.proofs.lemmas.Option.{same_Some}
use Rattle.rows.specs.declared.reply_kind.ReplyKind.{ReplyKind}
use Rattle.run_log.specs.declared.bodies.Holder.{Holder}
use Rattle.run_log.specs.declared.bodies.Holder.TheVariants as holders
use Rattle.run_log.specs.declared.reply_log.Recorded.{Recorded}
use Rattle.run_log.specs.inside.Recorded.{BodiesState, bytes_of, reply_in, LiesIn, StandsAt}

pub unanswered : (bodies : BodiesState) (n : ℕ) → map (reply_in bodies) (replicate n None) ≡ replicate n None
unanswered bodies zero = refl
unanswered bodies (suc n) = ap (λ rs. None ∷ rs) (unanswered bodies n)

-- bytes added at the end leave each body that lies before them
same_part : (bytes more : List ℕ) (start len : ℕ) → start + len ≤ length bytes → take len (drop start (bytes ++ more)) ≡ take len (drop start bytes)
same_part bytes more start len within =
    let from : start ≤ length bytes = omega (arith, within) in
    let room : len ≤ length (drop start bytes) = rw length-drop (omega (arith, within)) in
    rw (drop-append-le start bytes more from, take-append-le len (drop start bytes) more room) refl

-- the bytes of a body stay where the log's grow at the end and the trace's are the same
same_bytes : (old new : BodiesState) (holder : Holder) (start len : ℕ) → take (length old.bytes) new.bytes ≡ old.bytes → new.trace ≡ old.trace
    → start + len ≤ length (bytes_of holder old) → take len (drop start (bytes_of holder new)) ≡ take len (drop start (bytes_of holder old))
same_bytes old new holders.Log start len before told within =
    let whole : old.bytes ++ drop (length old.bytes) new.bytes ≡ new.bytes =
    ap (λ xs. xs ++ drop (length old.bytes) new.bytes) (sym before) ∙ take-append-drop (length old.bytes) new.bytes in
    ap (λ (xs : List ℕ). take len (drop start xs)) (sym whole) ∙ same_part old.bytes (drop (length old.bytes) new.bytes) start len within
same_bytes old new holders.Trace start len before told within = ap (λ (xs : List ℕ). take len (drop start xs)) told

same_body : (old new : BodiesState) (recorded : Option Recorded) → take (length old.bytes) new.bytes ≡ old.bytes → new.trace ≡ old.trace
    → LiesIn old recorded → reply_in new recorded ≡ reply_in old recorded
same_body old new None before told lies = refl
same_body old new (Some r) before told lies =
    ap (λ body. Some (r.kind, body)) (same_bytes old new r.holder r.start r.len before told (lies r refl))

same_bodies : (old new : BodiesState) (recorded : List (Option Recorded)) → take (length old.bytes) new.bytes ≡ old.bytes → new.trace ≡ old.trace
    → All (LiesIn old) recorded → map (reply_in new) recorded ≡ map (reply_in old) recorded
same_bodies old new [] before told lie = refl
same_bodies old new (r ∷ rs) before told lie =
    rw (same_body old new r before told (All-head (LiesIn old) r rs lie))
    (ap (λ xs. reply_in old r ∷ xs) (same_bodies old new rs before told (All-tail (LiesIn old) r rs lie)))

-- what is recorded last has its body where it stands
pub recorded_last : (old new : BodiesState) (body : List ℕ) (recorded : List (Option Recorded)) (i start len : ℕ) (kind : ReplyKind) (holder : Holder)
    → take (length old.bytes) new.bytes ≡ old.bytes → new.trace ≡ old.trace → StandsAt (bytes_of holder new) body start → len ≡ length body
    → All (LiesIn old) recorded
    → map (reply_in new) (slice_set recorded i (Some (record { kind = kind; holder = holder; start = start; len = len })))
    ≡ slice_set (map (reply_in old) recorded) i (Some (kind, body))
recorded_last old new body recorded i start len kind holder before told stands len_is lie =
    let same = same_bodies old new recorded before told lie in
    rw (len_is, map-set, same, stands.1) refl

longer : (old new : BodiesState) (holder : Holder) → length old.bytes ≤ length new.bytes → new.trace ≡ old.trace
    → length (bytes_of holder old) ≤ length (bytes_of holder new)
longer old new holders.Log more told = more
longer old new holders.Trace more told =
    let same : length new.trace ≡ length old.trace = ap (λ (xs : List ℕ). length xs) told in
    let long : length old.trace ≤ length new.trace = omega (arith, same) in
    long

lies_on : (old new : BodiesState) (recorded : Option Recorded) → length old.bytes ≤ length new.bytes → new.trace ≡ old.trace
    → LiesIn old recorded → LiesIn new recorded
lies_on old new recorded more told lies = λ r is. (let before = lies r is in let far = longer old new r.holder more told in omega (arith, before, far))

lies_here : (bodies : BodiesState) (r : Recorded) → r.start + r.len ≤ length (bytes_of r.holder bodies) → LiesIn bodies (Some r)
lies_here bodies r within = λ x is. subst (λ (y : Recorded). y.start + y.len ≤ length (bytes_of y.holder bodies)) (same_Some r x is) within

-- each body lies where it lay, and so does the one that is recorded last
pub all_lie : (old new : BodiesState) (recorded : List (Option Recorded)) (i start len : ℕ) (kind : ReplyKind) (holder : Holder)
    → length old.bytes ≤ length new.bytes → new.trace ≡ old.trace → start + len ≤ length (bytes_of holder new) → All (LiesIn old) recorded
    → All (LiesIn new) (slice_set recorded i (Some (record { kind = kind; holder = holder; start = start; len = len })))
all_lie old new recorded i start len kind holder more told within lie =
    let last : Recorded = record { kind = kind; holder = holder; start = start; len = len } in
    All-set (LiesIn new) recorded i (Some last) (lies_here new last within)
    (All-weaker (LiesIn old) (LiesIn new) (λ r lies. lies_on old new r more told lies) recorded lie)
