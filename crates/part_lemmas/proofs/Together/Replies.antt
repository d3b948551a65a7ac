-- What one node replied to another, where both are done: all that was sent was received, and each packet holds the reply that
-- stands in the journal.
use mathlib.Core.List.{IsPrefix}
use Rattle.std.proofs.Common.{◌≡◌, ℕ, zero, suc, ◌-◌, ◌≤◌, true≢false, List, [], ◌∷◌, ◌++◌, length, map, drop, replicate, inl, inr, arith, refl, sym, ap, subst, ◌∙◌}
use Rattle.std.proofs.Common.{Option, Some, None, IsSome, append-nil}
use Rattle.std.specs.List.{All}
use Rattle.std.specs.Option.{option_map}
use Rattle.std.proofs.lemmas.List.{length-map}
use Rattle.std.proofs.lemmas.List.Elements.{All-cons, All-head, All-nil, All-tail}
use Rattle.rows.specs.Operation.{Operation}
use Rattle.trace_text.specs.Trace.{Trace}
use Rattle.rows.specs.declared.reply_kind.ReplyKind.{ReplyKind}
use Rattle.rows.specs.Apply.{Reply}
use Rattle.rows.specs.Spelled.{spelled}
use Rattle.shard_rings.specs.Reply.{HoldsReply}
use Rattle.shard_rings.specs.declared.link.Packet.{Packet}
use Rattle.shard_rings.specs.declared.link.Packet.TheVariants.{Block as InBlock, Bye}
use Rattle.part_lemmas.specs.Due.{Takes}
use Rattle.part_lemmas.specs.Exchange.{AreReplies}
use Rattle.part_lemmas.proofs.Together.Lists.{prefix-whole}

-- That bytes hold at most one reply is a law.
abbrev pub IsOneReply : Type 0
IsOneReply = (bytes : List ℕ) (i j : ℕ) (reply other : Reply) → HoldsReply bytes i reply → HoldsReply bytes j other → reply ≡ other

-- no more replies are taken than packets were received
pub takes-few : (trace : Trace) (operations : List Operation) (packets : List Packet) (replies : List Reply) → Takes trace operations packets replies
    → length replies ≤ length packets
takes-few trace operations [] replies takes = let none = ap length takes in omega (arith, none)
takes-few trace operations (packet ∷ packets) replies (inl taken) =
    let is = ap length taken.2 in
    let rest = takes-few trace (drop 1 operations) packets taken.1 taken.4 in
    omega (arith, is, rest)
takes-few trace operations (packet ∷ packets) replies (inr stray) =
    let rest = takes-few trace operations packets replies stray.1 in
    omega (arith, rest)

pub replies-received : (trace : Trace) (operations : List Operation) (sent received : List Packet) (replies : List Reply) → IsPrefix received sent
    → Takes trace operations received replies → length sent ≡ length replies → received ≡ sent
replies-received trace operations sent received replies front takes many =
    let few = takes-few trace operations received replies takes in
    prefix-whole received sent front (omega (arith, few, many))

-- as many replies were taken as packets came, so that none was set aside
pub replies-told : IsOneReply → (reply : ℕ → Option Reply) (trace : Trace) (operations : List Operation) (packets : List Packet) (replies : List Reply)
    → Takes trace operations packets replies → length replies ≡ length packets → length operations ≡ length packets
    → AreReplies reply packets (map (λ operation. operation.number) operations)
    → map (λ answer. Some (spelled answer)) replies ≡ map (λ i. option_map spelled (reply i)) (map (λ operation. operation.number) operations)
replies-told one reply trace [] [] replies takes all many are = ap (map (λ (answer : Reply). Some (spelled answer))) takes
replies-told one reply trace (operation ∷ operations) [] replies takes all many are = absurd (omega (arith, many))
replies-told one reply trace [] (packet ∷ packets) replies takes all many are = absurd (omega (arith, many))
replies-told one reply trace (operation ∷ operations) (InBlock block ∷ packets) replies (inl taken) all many are =
    let is = ap length taken.2 in
    let same : taken.0 ≡ are.0.0 = one block.piece.bytes operation.number operation.number taken.0 are.0.0 taken.3.0 are.0.2 in
    let here : Some (spelled taken.0) ≡ option_map spelled (reply operation.number) =
    ap (λ r. Some (spelled r)) same ∙ ap (option_map spelled) (sym are.0.1) in
    let rest = replies-told one reply trace operations packets taken.1 taken.4 (omega (arith, is, all)) (omega (arith, many)) are.1 in
    ap (map (λ (answer : Reply). Some (spelled answer))) taken.2
    ∙ ap (λ o. o ∷ map (λ (answer : Reply). Some (spelled answer)) taken.1) here
    ∙ ap (λ list. option_map spelled (reply operation.number) ∷ list) rest
replies-told one reply trace (operation ∷ operations) (InBlock block ∷ packets) replies (inr stray) all many are =
    absurd (let few = takes-few trace (operation ∷ operations) packets replies stray.1 in omega (arith, few, all))
replies-told one reply trace (operation ∷ operations) (Bye ∷ packets) replies takes all many are = absurd are

-- A log of what came, of which nothing is missing.
none-missing : {A : Type 0} (xs : List (Option A)) (m : ℕ) → All IsSome (xs ++ replicate m None) → m ≡ 0
none-missing [] zero all = refl
none-missing [] (suc m) all = absurd (true≢false (sym (All-head IsSome None (replicate m None) all)))
none-missing (x ∷ xs) m all = none-missing xs m (All-tail IsSome x (xs ++ replicate m None) all)

pub all-taken : (replies : List Reply) (m : ℕ) (log : List (Option (ReplyKind × List ℕ))) → All IsSome log → length log ≡ m
    → log ≡ map (λ answer. Some (spelled answer)) replies ++ replicate (m - length replies) None
    → (log ≡ map (λ answer. Some (spelled answer)) replies) × (length replies ≡ m)
all-taken replies m log answered many is =
    let f : Reply → Option (ReplyKind × List ℕ) = λ answer. Some (spelled answer) in
    let k = m - length replies in
    let none : k ≡ 0 = none-missing (map f replies) k (subst (All IsSome) is answered) in
    let some = length-map replies f in
    let whole : log ≡ map f replies = is ∙ ap (λ j. map f replies ++ replicate j None) none ∙ append-nil (map f replies) in
    let count = ap length whole in
    (whole, omega (arith, count, some, many))

-- Each number that was replied to has its reply.
pub replies-there : (reply : ℕ → Option Reply) (packets : List Packet) (numbers : List ℕ) → AreReplies reply packets numbers → length packets ≡ length numbers
    → All (λ i. IsSome (reply i)) numbers
replies-there reply [] [] are many = All-nil (λ i. IsSome (reply i))
replies-there reply [] (i ∷ numbers) are many = absurd (omega (arith, many))
replies-there reply (InBlock block ∷ packets) [] are many = absurd are
replies-there reply (InBlock block ∷ packets) (i ∷ numbers) are many =
    All-cons (λ j. IsSome (reply j)) i numbers (subst IsSome (sym are.0.1) refl) (replies-there reply packets numbers are.1 (omega (arith, many)))
replies-there reply (Bye ∷ packets) numbers are many = absurd are
