-- The answer to one command, as its replies stand in a log.
use Rattle.std.proofs.Common.{◌≡◌, ◌⊎◌, ℕ, ◌+◌, ◌<◌, ◌≤◌, Bool, true, false, List, [], ◌∷◌, length, map, get_or, Some, inl, inr, refl, subst, sym, ap, ◌∙◌, arith}
use Rattle.std.specs.Ordering.{nat_cmp}
use Rattle.std.specs.Cmp.Lexicographic.{slice_cmp}
use Rattle.std.specs.List.{slice_get}
use Rattle.std.specs.List.Sorted.{IsStrictlySortedBy}
use Rattle.std.specs.Prelude.{All}
use Rattle.std.proofs.lemmas.List.{get_or-map, length-map}
use Rattle.std.proofs.lemmas.List.Elements.{All-head, All-map}
use Rattle.rows.specs.declared.kind.Kind.{Kind}
use Rattle.rows.specs.declared.kind.Kind.TheVariants as kinds
use Rattle.rows.specs.Key.{Key}
use Rattle.rows.specs.Operation.{Operation, is_scan}
use Rattle.rows.specs.declared.reply_kind.ReplyKind.{ReplyKind}
use Rattle.cache_model.specs.Answer.{answer_from, answer_kind, join, keys_in}
use Rattle.rows.specs.Apply.{Reply, Stored, Replaced, Value, Missing, Erased, Keys}
use Rattle.rows.specs.Fits.{Fits, FitsKind}
use Rattle.rows.specs.Spelled.{IsKey, spelled}
use Rattle.cache_model.specs.ReadOff.{AreJoined, HasReplies, IsRead}
use Rattle.cache_model.specs.OwnParts.{Log}
use Rattle.report_text.specs.inside.Found.{HasFound}
use Rattle.report_text.specs.inside.Spells.{HasLegalKeys}

-- ---- what holds with one shard

abbrev pub FittingStays : Type 0
FittingStays = (longest : ℕ) (operation : Operation) (reply : Reply) → Fits longest operation reply → answer_from 1 operation (Some reply ∷ []) ≡ Some reply

-- ---- replies that fit

pub fits-legal : (kind : Kind) (longest : ℕ) (key : Key) (count : ℕ) (reply : Reply) → FitsKind kind longest key count reply → HasLegalKeys reply
fits-legal kind longest key count Stored fits = tt
fits-legal kind longest key count Replaced fits = tt
fits-legal kind longest key count (Value value) fits = tt
fits-legal kind longest key count Missing fits = tt
fits-legal kind longest key count Erased fits = tt
fits-legal kinds.Put longest key count (Keys keys) fits = absurd fits
fits-legal kinds.Get longest key count (Keys keys) fits = absurd fits
fits-legal kinds.Erase longest key count (Keys keys) fits = absurd fits
fits-legal kinds.Scan longest key count (Keys keys) fits = fits.lengths

abbrev keys-of : Reply → List (List ℕ)
keys-of reply = keys_in (Some reply)

-- a reply to a scan
record IsOfScan (count : ℕ) (reply : Reply) : Type 0 where
  is : reply ≡ Keys (keys-of reply)
  few : length (keys-of reply) ≤ count
  rising : IsStrictlySortedBy (slice_cmp nat_cmp) (keys-of reply)
  legal : All IsKey (keys-of reply)

of-scan : (kind : Kind) (longest : ℕ) (key : Key) (count : ℕ) (reply : Reply) → is_scan kind ≡ true → FitsKind kind longest key count reply → IsOfScan count reply
of-scan kinds.Put longest key count reply scan fits = cc scan
of-scan kinds.Get longest key count reply scan fits = cc scan
of-scan kinds.Erase longest key count reply scan fits = cc scan
of-scan kinds.Scan longest key count (Keys keys) scan fits = record { is = refl; few = fits.few; rising = fits.rising; legal = fits.lengths }
of-scan kinds.Scan longest key count Stored scan fits = absurd fits
of-scan kinds.Scan longest key count Replaced scan fits = absurd fits
of-scan kinds.Scan longest key count (Value value) scan fits = absurd fits
of-scan kinds.Scan longest key count Missing scan fits = absurd fits
of-scan kinds.Scan longest key count Erased scan fits = absurd fits

-- ---- an answer that is one reply

-- the answer is spelled there
pub record IsAt (log : Log) (first : ℕ) (answer : Reply) : Type 0 where
  pub recorded : slice_get log first ≡ Some (Some (spelled answer))
  pub legal : HasLegalKeys answer

alone-at : (longest : ℕ) (operation : Operation) (log : Log) (first : ℕ) (replies : List Reply) (answer : Reply) → HasReplies log first replies → All (Fits longest operation) replies
    → replies ≡ answer ∷ [] → IsAt log first answer
alone-at longest operation log first replies answer logged fit is =
    let there : HasReplies log first (answer ∷ []) = subst (HasReplies log first) is logged in
    let fits : Fits longest operation answer = All-head (Fits longest operation) answer [] (subst (All (Fits longest operation)) is fit) in
    let start : first + 0 ≡ first = omega arith in
    record {
      recorded = ap (slice_get log) (sym start) ∙ there 0 answer (omega arith);
      legal = fits-legal operation.kind longest operation.key operation.count answer fits;
    }

-- one shard's reply to a scan
one-joined : FittingStays → (kind : Kind) (longest : ℕ) (operation : Operation) (replies : List Reply) (answer : Reply) → operation.kind ≡ kind → is_scan kind ≡ true
    → length replies ≡ 1 → All (Fits longest operation) replies → answer ≡ Keys (join operation.count (map keys-of replies)) → replies ≡ answer ∷ []
one-joined stays kinds.Put longest operation replies answer kind-is scan one fit is = cc scan
one-joined stays kinds.Get longest operation replies answer kind-is scan one fit is = cc scan
one-joined stays kinds.Erase longest operation replies answer kind-is scan one fit is = cc scan
one-joined stays kinds.Scan longest operation [] answer kind-is scan one fit is = absurd (omega (arith, one))
one-joined stays kinds.Scan longest operation (reply ∷ []) answer kind-is scan one fit is =
    let joined : answer_kind kinds.Scan 1 operation (Some reply ∷ []) ≡ Some reply =
    ap (λ (k : Kind). answer_kind k 1 operation (Some reply ∷ [])) (sym kind-is) ∙ stays longest operation reply (All-head (Fits longest operation) reply [] fit) in
    let same : Some answer ≡ Some reply = ap Some is ∙ joined in
    let answer-is : answer ≡ reply = cc in
    ap (λ r. r ∷ []) (sym answer-is)
one-joined stays kinds.Scan longest operation (reply ∷ other ∷ replies) answer kind-is scan one fit is = absurd (omega (arith, one))

one-reply : FittingStays → (longest n : ℕ) (operation : Operation) (replies : List Reply) (answer : Reply) → (is_scan operation.kind ≡ false) ⊎ (n ≡ 1) → All (Fits longest operation) replies
    → AreJoined (is_scan operation.kind) n operation.count replies answer → replies ≡ answer ∷ []
one-reply stays longest n operation replies answer (inl plain) fit joined = rw plain at joined
one-reply stays longest n operation replies answer (inr one) fit joined = go (is_scan operation.kind) refl joined
  where
    go : (scan : Bool) → is_scan operation.kind ≡ scan → AreJoined scan n operation.count replies answer → replies ≡ answer ∷ []
    go false is joined = joined
    go true is joined = one-joined stays operation.kind longest operation replies answer refl is (joined.0 ∙ one) fit joined.1

pub read_one : FittingStays → (longest n : ℕ) (operation : Operation) (log : Log) (first : ℕ) (answer : ℕ × Reply) → (is_scan operation.kind ≡ false) ⊎ (n ≡ 1)
    → IsRead longest n operation log first answer → IsAt log first answer.1
read_one stays longest n operation log first answer alone p =
    alone-at longest operation log first p.replies answer.1 p.logged p.fit (one-reply stays longest n operation p.replies answer.1 alone p.fit p.joined)

-- ---- an answer that is joined

pub record IsJoined (n count : ℕ) (log : Log) (first : ℕ) (answer : Reply) : Type 0 where
  pub lists : List (List (List ℕ))
  pub found : HasFound log first n lists
  pub joined : answer ≡ Keys (join count lists)

pub read_joined : (longest n : ℕ) (operation : Operation) (log : Log) (first : ℕ) (answer : ℕ × Reply) → is_scan operation.kind ≡ true → operation.count ≤ 32
    → IsRead longest n operation log first answer → IsJoined n operation.count log first answer.1
read_joined longest n operation log first answer scan few p =
    let joined : AreJoined true n operation.count p.replies answer.1 = rw scan at p.joined in
    let each : All (IsOfScan operation.count) p.replies =
    λ k d below. of-scan operation.kind longest operation.key operation.count (get_or p.replies k d) scan (p.fit k d below) in
    record {
      lists = map keys-of p.replies;
      found = record {
        many = length-map p.replies keys-of ∙ joined.0;
        logged = λ k d below.
            let within : k < length p.replies = omega (arith, below, length-map p.replies keys-of) in
            let reply = get_or p.replies k Stored in
            p.logged k Stored within ∙ ap (λ r. Some (Some (spelled r))) ((each k Stored within).is)
            ∙ ap (λ keys. Some (Some (spelled (Keys keys)))) (sym (get_or-map keys-of p.replies k Stored d within));
        few = All-map (λ (keys : List (List ℕ)). length keys ≤ 32) keys-of p.replies (λ k d below. omega (arith, (each k d below).few, few));
        rising = All-map (IsStrictlySortedBy (slice_cmp nat_cmp)) keys-of p.replies (λ k d below. (each k d below).rising);
        legal = All-map (All IsKey) keys-of p.replies (λ k d below. (each k d below).legal);
      };
      joined = joined.1;
    }

-- ---- the kind of an answer

-- the first reply, whose kind is the answer's
pub record IsKindAt (log : Log) (first : ℕ) (answer : Reply) : Type 0 where
  pub part : ReplyKind × List ℕ
  pub recorded : slice_get log first ≡ Some (Some part)
  pub same : part.0 ≡ (spelled answer).0

pub read_kind : (longest n : ℕ) (operation : Operation) (log : Log) (first : ℕ) (answer : ℕ × Reply) → 1 ≤ n → IsRead longest n operation log first answer → IsKindAt log first answer.1
read_kind longest n operation log first answer some p = go (is_scan operation.kind) refl p.joined
  where
    go : (scan : Bool) → is_scan operation.kind ≡ scan → AreJoined scan n operation.count p.replies answer.1 → IsKindAt log first answer.1
    go false is joined =
        let here = alone-at longest operation log first p.replies answer.1 p.logged p.fit joined in
        record { part = spelled answer.1; recorded = here.recorded; same = refl }
    go true is joined =
        let within : 0 < length p.replies = omega (arith, joined.0) in
        let reply = get_or p.replies 0 Stored in
        let scan = of-scan operation.kind longest operation.key operation.count reply is (p.fit 0 Stored within) in
        let start : first + 0 ≡ first = omega arith in
        record {
          part = spelled reply;
          recorded = ap (slice_get log) (sym start) ∙ p.logged 0 Stored within;
          same = ap (λ r. (spelled r).0) scan.is ∙ sym (ap (λ r. (spelled r).0) joined.1);
        }

pub answer-pair : (answer : ℕ × Reply) (number : ℕ) (reply : Reply) → answer.0 ≡ number → answer.1 ≡ reply → (number, reply) ≡ answer
answer-pair answer number reply p q = ap (λ k. (k, reply)) (sym p) ∙ ap (λ r. (answer.0, r)) (sym q)
