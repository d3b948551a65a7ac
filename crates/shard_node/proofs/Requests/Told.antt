-- What a journal was told, and what was done behind it.
use Rattle.std.proofs.Common.{◌≡◌, ◌⊎◌, inr, true, ℕ, ◌+◌, ◌-◌, ◌<◌, ◌≤◌, ◌^◌, List, [], ◌∷◌, ◌++◌, length, map, filter, take, drop, refl, sym, ap, ◌∙◌, subst, append_assoc, length-append, length-take, arith}
use Rattle.std.specs.List.{refill}
use Rattle.std.proofs.lemmas.List.{length-map, map-append}
use Rattle.layout.specs.Sizes.{most_keys}
use Rattle.rows.specs.Key.{Key}
use Rattle.rows.specs.Operation.{Operation}
use Rattle.cache_model.specs.declared.entry.Entry.{Entry}
use Rattle.cache_model.specs.declared.entry.Entry.TheVariants.{Done, Evicted}
use Rattle.rows.specs.declared.reply_kind.ReplyKind.{ReplyKind}
use Rattle.rows.specs.Row.{Row}
use Rattle.rows.specs.Apply.{Reply, Stored, Replaced, Value, Missing, Erased, Keys, apply, has, in_order, is_at_most, keys_in, scanned}
use Rattle.rows.specs.Evictions.{Evicts}
use Rattle.rows.specs.Spelled.{spelled}
use Rattle.run_log.specs.JournalState.{JournalState}
use Rattle.rows.specs.Shown.{key_count}
use Rattle.shard_rings.specs.Reply.{IsSendable}
use Rattle.run_log.specs.Recorded.{Records, RecordsEviction}
use Rattle.shard_store.specs.Stores.{StoreState, IsSameStore}
use Rattle.rows.specs.Told.{AreTold}
use Rattle.shard_store.specs.Works as works
use Rattle.shard_store.specs.Works.{floor_of}
use Rattle.shard_node.specs.inside.Bare.{IsBare}
use Rattle.shard_node.specs.inside.Did.{DoesAbove, EvictsForBlock}

-- what a journal is told it records
abbrev pub RecordsTold : Type 0
RecordsTold = (old new : JournalState) (tags : List ℕ) → AreTold RecordsEviction old tags new → Records old new (map (λ tag. Evicted tag) tags)

-- entries that were written in two goes
records-both : (old now new : JournalState) (first second : List Entry) → Records old now first → Records now new second → Records old new (first ++ second)
records-both old now new first second a b = record {
  entries = b.entries ∙ ap (λ xs. xs ++ second) a.entries ∙ append_assoc old.entries first second;
  spare = let f = a.spare in let s = b.spare in omega (arith, f, s, length-append first second);
}

-- so many entries of evictions leave room for the others
pub spare-left : (old new : JournalState) (tags : List ℕ) (rest rows : List Row) → Records old new (map (λ tag. Evicted tag) tags) → length tags + length rest ≡ length rows → length rows + 1 ≤ old.spare
    → length rest + 1 ≤ new.spare
spare-left old new tags rest rows recorded count room =
    let spare = recorded.spare in let entries = length-map tags (λ (tag : ℕ). Evicted tag) in omega (arith, spare, entries, count, room)

module _ (told : RecordsTold) where
  -- what the store did, with the command written down behind it
  pub noted : (bound : ℕ) (operation : Operation) (does : List Row → List Row × Reply) (answer : Reply) (old new : StoreState) (before now after : JournalState)
      → ((rows : List Row) → apply operation rows ≡ does rows) → works.DoesAbove RecordsEviction bound does answer old new before now → Records now after (Done operation.number ∷ [])
      → DoesAbove bound operation answer old new before after
  noted bound operation does answer old new before now after is h one = record {
    evicted = h.evicted;
    rest = h.rest;
    evicts = h.evicts;
    recorded = records-both before now after (map (λ tag. Evicted tag) h.evicted) (Done operation.number ∷ []) (told before now h.evicted h.told) one;
    rows = h.rows ∙ ap (λ (d : List Row × Reply). d.0) (sym (is h.rest));
    reply = h.reply ∙ ap (λ (d : List Row × Reply). d.1) (sym (is h.rest));
    same = h.same;
  }

  pub evicted : (old new : StoreState) (before after : JournalState) → works.EvictsForBlock RecordsEviction old new before after → EvictsForBlock old new before after
  evicted old new before after h = record { evicted = h.evicted; evicts = h.evicts; recorded = told before after h.evicted h.told; same = h.same }

-- evictions behind evictions
evicts-both : (low high : ℕ) (rows mid rest : List Row) (first second : List ℕ) → low ≤ high → Evicts low rows first mid → Evicts high mid second rest → Evicts low rows (first ++ second) rest
unfolding Evicts
evicts-both low high rows mid rest [] [] less a b = b ∙ a
evicts-both low high rows mid rest [] (tag ∷ second) less a b =
    subst (λ (r : List Row). Evicts low r (tag ∷ second) rest) a
    (b.0, (let above = b.1 in omega (arith, less, above)), evicts-both low high (take (length mid - 1) mid) (take (length mid - 1) mid) rest [] second less refl b.2)
evicts-both low high rows mid rest (tag ∷ first) second less a b = (a.0, a.1, evicts-both low high (take (length rows - 1) rows) mid rest first second less a.2 b)

pub same-store : (s : StoreState) → IsSameStore s s
same-store s = record { shard = refl; pages = refl; regions = refl; room = refl; list = refl; guards = λ g. refl }

same-both : (old mid new : StoreState) → IsSameStore old mid → IsSameStore mid new → IsSameStore old new
same-both old mid new a b = record {
  shard = b.shard ∙ a.shard;
  pages = b.pages ∙ a.pages;
  regions = b.regions ∙ a.regions;
  room = b.room ∙ a.room;
  list = b.list ∙ a.list;
  guards = λ g. b.guards g ∙ a.guards g;
}

-- what was done behind a block
pub done-behind : (high : ℕ) (operation : Operation) (answer : Reply) (old mid new : StoreState) (before now after : JournalState) → floor_of old.pages old.lent old.regions ≤ high
    → EvictsForBlock old mid before now → DoesAbove high operation answer mid new now after → DoesAbove (floor_of old.pages old.lent old.regions) operation answer old new before after
done-behind high operation answer old mid new before now after less e h = record {
  evicted = e.evicted ++ h.evicted;
  rest = h.rest;
  evicts = evicts-both (floor_of old.pages old.lent old.regions) high old.rows mid.rows h.rest e.evicted h.evicted less e.evicts h.evicts;
  recorded = subst (Records before after)
      (sym (append_assoc (map (λ tag. Evicted tag) e.evicted) (map (λ tag. Evicted tag) h.evicted) (Done operation.number ∷ [])) ∙ ap (λ xs. xs ++ Done operation.number ∷ []) (sym (map-append (λ tag. Evicted tag) e.evicted h.evicted)))
      (records-both before now after (map (λ tag. Evicted tag) e.evicted) (map (λ tag. Evicted tag) h.evicted ++ Done operation.number ∷ []) e.recorded h.recorded);
  rows = h.rows;
  reply = h.reply;
  same = same-both old mid new e.same h.same;
}

-- the same, where it evicted nothing
pub quiet-behind : (operation : Operation) (answer : Reply) (rows : List Row) (old mid new : StoreState) (before now after : JournalState) → EvictsForBlock old mid before now → Records now after (Done operation.number ∷ [])
    → apply operation mid.rows ≡ (rows, answer) → new.rows ≡ rows → IsSameStore mid new → DoesAbove (floor_of old.pages old.lent old.regions) operation answer old new before after
quiet-behind operation answer rows old mid new before now after e one does is same = record {
  evicted = e.evicted;
  rest = mid.rows;
  evicts = e.evicts;
  recorded = records-both before now after (map (λ tag. Evicted tag) e.evicted) (Done operation.number ∷ []) e.recorded one;
  rows = is ∙ ap (λ (d : List Row × Reply). d.0) (sym does);
  reply = ap (λ (d : List Row × Reply). d.1) (sym does);
  same = same-both old mid new e.same same;
}

-- a new row has a place as before
pub place-kept : (bound most : ℕ) (key : Key) (rows mid : List Row) (tags : List ℕ) → Evicts bound rows tags mid → length tags + length mid ≡ length rows → length rows ≤ most
    → (has key rows ≡ true) ⊎ (length rows < most) → (has key mid ≡ true) ⊎ (length mid < most)
unfolding Evicts
place-kept bound most key rows mid [] evicts count few either = subst (λ (r : List Row). (has key r ≡ true) ⊎ (length r < most)) (sym evicts) either
place-kept bound most key rows mid (tag ∷ tags) evicts count few either = inr (omega (arith, count, few))

-- a scan finds few keys
pub few-scanned : (key : Key) (count : ℕ) (rows : List Row) → count ≤ most_keys → length (scanned key count rows) < 2 ^ 16
few-scanned key count rows few =
    let taken = length-take count (in_order (filter (is_at_most key.bytes) (keys_in key.table rows))) in omega (arith, taken, few)

-- a reply without a body
pub bare-sent : (answer : Reply) (kind : ReplyKind) (bytes : List ℕ) → IsBare answer → (spelled answer).0 ≡ kind → IsSendable answer × (spelled answer ≡ (kind, take 0 bytes)) × (key_count answer ≡ 0)
bare-sent Stored kind bytes bare is = (tt, ap (λ k. (k, [])) is, refl)
bare-sent Replaced kind bytes bare is = (tt, ap (λ k. (k, [])) is, refl)
bare-sent Missing kind bytes bare is = (tt, ap (λ k. (k, [])) is, refl)
bare-sent Erased kind bytes bare is = (tt, ap (λ k. (k, [])) is, refl)
bare-sent (Value value) kind bytes bare is = absurd bare
bare-sent (Keys keys) kind bytes bare is = absurd bare

-- bytes that fill a block are the block's
pub refill-whole : (old bytes : List ℕ) → length bytes ≡ length old → refill (length old) old bytes ≡ bytes
refill-whole old bytes same =
    let front : take (length bytes) (bytes ++ drop (length bytes) old) ≡ bytes = take-front bytes (drop (length bytes) old) in
    subst (λ k. take k (bytes ++ drop (length bytes) old) ≡ bytes) same front where
      take-front : (xs ys : List ℕ) → take (length xs) (xs ++ ys) ≡ xs
      take-front [] ys = refl
      take-front (x ∷ xs) ys = ap (λ l. x ∷ l) (take-front xs ys)
