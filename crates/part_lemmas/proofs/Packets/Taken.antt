-- One packet more was received.
use Rattle.std.proofs.Common.{◌≡◌, ℕ, suc, List, [], ◌∷◌, ◌++◌, length, drop, inl, inr, Option, slice_get, refl, sym, ap, subst}
use Rattle.std.proofs.lemmas.List.Sums.{fold-append}
use Rattle.rows.specs.Operation.{Operation}
use Rattle.trace_text.specs.Trace.{Trace}
use Rattle.rows.specs.Apply.{Reply}
use Rattle.shard_rings.specs.declared.link.Packet.{Packet}
use Rattle.part_lemmas.specs.Due.{Answers, AnswersNot, Takes, requests_taken, then_taken}

-- on the lane of requests: it is taken where it is the next one
pub requests_more : (due : List (Option (List ℕ))) (packets : List Packet) (packet : Packet)
    → requests_taken due (packets ++ packet ∷ []) ≡ then_taken due (requests_taken due packets) packet
requests_more due packets packet = fold-append (then_taken due) 0 packets (packet ∷ [])

next_of : {A : Type 0} (xs : List A) (k : ℕ) → slice_get (drop 1 xs) k ≡ slice_get xs (suc k)
next_of [] k = refl
next_of (x ∷ xs) k = refl

-- on the lane of replies: it was a reply to the next of the operations
pub takes_one : (trace : Trace) (operations : List Operation) (packets : List Packet) (replies : List Reply) (packet : Packet) (reply : Reply)
    → Takes trace operations packets replies → Answers trace (slice_get operations (length replies)) packet reply
    → Takes trace operations (packets ++ packet ∷ []) (replies ++ reply ∷ [])
takes_one trace operations [] replies packet reply takes answers =
    inl (reply, [], ap (λ rs. rs ++ reply ∷ []) takes, subst (λ (rs : List Reply). Answers trace (slice_get operations (length rs)) packet reply) takes answers, refl)
takes_one trace operations (first ∷ packets) replies packet reply (inl taken) answers =
    let here : Answers trace (slice_get operations (suc (length taken.1))) packet reply =
    subst (λ (rs : List Reply). Answers trace (slice_get operations (length rs)) packet reply) taken.2 answers in
    inl (
      taken.0,
      taken.1 ++ reply ∷ [],
      ap (λ rs. rs ++ reply ∷ []) taken.2,
      taken.3,
      takes_one trace (drop 1 operations) packets taken.1 packet reply taken.4
          (subst (λ o. Answers trace o packet reply) (sym (next_of operations (length taken.1))) here),
    )
takes_one trace operations (first ∷ packets) replies packet reply (inr stray) answers =
    inr (stray.0, takes_one trace operations packets replies packet reply stray.1 answers)

-- it was none, and was set aside
pub takes_none : (trace : Trace) (operations : List Operation) (packets : List Packet) (replies : List Reply) (packet : Packet)
    → Takes trace operations packets replies → AnswersNot trace (slice_get operations (length replies)) packet
    → Takes trace operations (packets ++ packet ∷ []) replies
takes_none trace operations [] replies packet takes none =
    inr (subst (λ (rs : List Reply). AnswersNot trace (slice_get operations (length rs)) packet) takes none, takes)
takes_none trace operations (first ∷ packets) replies packet (inl taken) none =
    let here : AnswersNot trace (slice_get operations (suc (length taken.1))) packet =
    subst (λ (rs : List Reply). AnswersNot trace (slice_get operations (length rs)) packet) taken.2 none in
    inl (
      taken.0,
      taken.1,
      taken.2,
      taken.3,
      takes_none trace (drop 1 operations) packets taken.1 packet taken.4
          (subst (λ o. AnswersNot trace o packet) (sym (next_of operations (length taken.1))) here),
    )
takes_none trace operations (first ∷ packets) replies packet (inr stray) none =
    inr (stray.0, takes_none trace operations packets replies packet stray.1 none)
