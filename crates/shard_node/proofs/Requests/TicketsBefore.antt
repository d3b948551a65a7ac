-- A request was lent a block, and as many blocks are home: no ticket of a reply is idle that was not.
use Rattle.std.proofs.Common.{◌≡◌, ℕ, zero, suc, ◌-◌, ◌*◌, ◌^◌, ◌<◌, ◌≤◌, not, ◌==◌, cond, List, [], ◌∷◌, length, slice_get, slice_set, is_some, Option, Some, None, inl, inr}
use Rattle.std.proofs.Common.{arith, refl, sym, ap, ◌∙◌}
use Rattle.std.specs.Prelude.{◌⊎◌}
use Rattle.std.proofs.lemmas.List.{length-set, length-take}
use Rattle.std.proofs.lemmas.List.Sums.{count_by-le-length, sum_by-cons}
use Rattle.std.proofs.lemmas.Option.{slice_get_within, slice_get-get_or}
use Rattle.layout.specs.Sizes.{tickets}
use Rattle.trace_text.specs.Parts.{most_shards, origin}
use Rattle.trace_text.specs.Reading.{most_commands}
use Rattle.cache_model.specs.declared.entry.Entry.{Entry}
use Rattle.cache_model.specs.declared.entry.Entry.TheVariants.{Done, Evicted}
use Rattle.cache_model.specs.Legal.{done}
use Rattle.cache_model.specs.OwnParts.{issued_parts}
use Rattle.foreign_list.specs.Blocks.{Block, piece_id_of}
use Rattle.foreign_list.specs.declared.piece_id.PieceId.{PieceId}
use Rattle.layout.specs.Counts.{raised}
use Rattle.shard_memory.specs.Tickets.{BecomeIdle, HasIdle, IsIdle, Tickets, tickets_out}
use Rattle.shard_memory.specs.declared.share.Share.TheVariants.{Request, Reply}
use Rattle.shard_rings.specs.Lanes.{Traffic}
use Rattle.shard_store.specs.Lending.{LendsBlock}
use Rattle.shard_store.specs.Stores.{StoreState}
use Rattle.shard_node.specs.Nodes.{NodeState}
use Rattle.shard_node.specs.Standing.{InStanding, begun_parts}
use Rattle.shard_node.proofs.Replies.TakesReplies.{get_set_other}

abbrev one_out : Option PieceId → ℕ
one_out o = cond (is_some o) 1 0

some_not : {X : Type 0} (x : X) → Some x ≡ None → ⊥
some_not {X} x e = let clash : Some x ≡ None = e in cc

-- no more are out
no_more_out : (lent now : Tickets) → BecomeIdle lent now → tickets_out now ≤ tickets_out lent
no_more_out lent [] become = omega arith
no_more_out [] (y ∷ ys) become =
    let rest = no_more_out [] ys (λ t. become (suc t)) in
    let cons = sum_by-cons one_out y ys in
    elim (become 0) [
      | inl e ↦ absurd (some_not y e)
      | inr idle ↦ let none : y ≡ None = (let e : Some y ≡ Some None = idle in cc) in let zero = ap one_out none in omega (arith, rest, cons, zero)
    ]
no_more_out (x ∷ xs) (y ∷ ys) become =
    let rest = no_more_out xs ys (λ t. become (suc t)) in
    let a = sum_by-cons one_out x xs in
    let b = sum_by-cons one_out y ys in
    elim (become 0) [
      | inl e ↦ let same : y ≡ x = (let f : Some y ≡ Some x = e in cc) in let is = ap one_out same in omega (arith, rest, a, b, is)
      | inr idle ↦ let none : y ≡ None = (let e : Some y ≡ Some None = idle in cc) in let zero = ap one_out none in omega (arith, rest, a, b, zero)
    ]

-- where as many are out, an idle one was idle
idle_before : (lent now : Tickets) (t : ℕ) → BecomeIdle lent now → tickets_out lent ≤ tickets_out now → t < length lent → IsIdle now t → IsIdle lent t
idle_before [] now t become out below idle = absurd (omega (arith, below))
idle_before (x ∷ xs) [] t become out below idle = absurd (elim (become 0) [
  | inl e ↦ some_not x (sym e)
  | inr e ↦ (let clash : None ≡ Some None = e in cc)
])
idle_before (x ∷ xs) (y ∷ ys) zero become out below idle =
    let rest = no_more_out xs ys (λ t. become (suc t)) in
    let a = sum_by-cons one_out x xs in
    let b = sum_by-cons one_out y ys in
    let none : y ≡ None = (let e : Some y ≡ Some None = idle in cc) in
    let zero = ap one_out none in
    ap Some (is_none x (omega (arith, rest, a, b, zero, out)))
  where
    is_none : (o : Option PieceId) → one_out o ≤ 0 → o ≡ None
    is_none None few = refl
    is_none (Some p) few = absurd (omega (arith, few))
idle_before (x ∷ xs) (y ∷ ys) (suc t) become out below idle =
    let rest = no_more_out xs ys (λ t. become (suc t)) in
    let a = sum_by-cons one_out x xs in
    let b = sum_by-cons one_out y ys in
    let first : one_out y ≤ one_out x = (elim (become 0) [
      | inl e ↦ let same : y ≡ x = (let f : Some y ≡ Some x = e in cc) in let is = ap one_out same in omega (arith, is)
      | inr none ↦ let same : y ≡ None = (let e : Some y ≡ Some None = none in cc) in let zero = ap one_out same in omega (arith, zero)
    ]) in
    idle_before xs ys t (λ t. become (suc t)) (omega (arith, a, b, first, out)) (omega (arith, below)) idle

still_there : (lent now : Tickets) (t : ℕ) → BecomeIdle lent now → t < length lent → t < length now
still_there lent now t become below = go (slice_get lent t) refl (become t)
  where
    go : (o : Option (Option PieceId)) → slice_get lent t ≡ o → (slice_get now t ≡ slice_get lent t) ⊎ IsIdle now t → t < length now
    go (Some p) is (inl same) = slice_get_within now t p (same ∙ is)
    go None is same = absurd (some_not _ (sym (slice_get-get_or lent t None below) ∙ is))
    go (Some p) is (inr idle) = slice_get_within now t None idle

set_long : (lent : Tickets) (at : ℕ) (x : Option PieceId) (t : ℕ) → t < length lent → t < length (slice_set lent at x)
set_long lent at x t below = let e = length-set lent at x in omega (arith, e, below)

pub tickets_before : (old new : StoreState) (block : Block) → old.lends < 2 ^ 64 - 1 → length old.lent ≡ tickets → old.lends ≡ raised old.backs (tickets_out old.lent)
    → LendsBlock Request old new block → new.backs ≡ old.backs → HasIdle new.lent Reply → HasIdle old.lent Reply
tickets_before old new block few many out lends same has =
    let t = has.0 in
    let a = lends.came in
    let b = lends.behind in
    let ao = a.out in
    let ab = a.backs in
    let bo = b.out in
    let bb = b.backs in
    let share = has.1 in
    let of_share = lends.of_share in
    let set = slice_set lends.before block.ticket (Some (piece_id_of block.piece)) in
    let inside : t < length old.lent = omega (arith, many, share) in
    let between : t < length lends.before = still_there old.lent lends.before t a.idle inside in
    let one : IsIdle set t = idle_before set new.lent t b.idle (omega (arith, bo, bb, ao, ab, few, out, same)) (set_long lends.before block.ticket _ t between) has.2 in
    let two : IsIdle lends.before t = sym (get_set_other lends.before block.ticket t _ (λ e. omega (arith, e, share, of_share))) ∙ one in
    (t, share, idle_before old.lent lends.before t a.idle (omega (arith, bo, bb, ao, ab, few, out, same)) inside two)

few_done : (entries : List Entry) → length (done entries) ≤ length entries
few_done [] = omega arith
few_done (Done i ∷ entries) = let e = few_done entries in omega (arith, e)
few_done (Evicted q ∷ entries) = let e = few_done entries in omega (arith, e)

-- a node in standing lent fewer blocks than can be counted
pub few_lent : {L G : Type 0} (traffic : L → Traffic) (node : NodeState L G) → InStanding traffic node → node.begun ≤ most_commands * most_shards → length node.journal.entries < 2 ^ 32
    → node.store.lends < 2 ^ 64 - 1
few_lent traffic node stands begun few =
    let lends = stands.lent.lends in
    let a = count_by-le-length (λ (part : ℕ × ℕ). not (part.1 == node.shard)) (begun_parts node) in
    let b = length-take node.begun (issued_parts node.trace node.shards node.shard) in
    let c = count_by-le-length (λ i. not (origin i node.shards == node.shard)) (done node.journal.entries) in
    let d = few_done node.journal.entries in
    omega (arith, lends, a, b, c, d, begun, few)
