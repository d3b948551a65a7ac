-- Own parts that evict nothing, and what they leave as it was.
use Rattle.std.proofs.Common.{◌≡◌, inl, ℕ, ◌+◌, ◌<◌, ◌^◌, Bool, cond, List, [], ◌∷◌, length, slice_set, Option, Some, None, refl, sym, ap, subst, ◌∙◌, arith}
use Rattle.rows.specs.Key.{Key}
use Rattle.rows.specs.Operation.{Operation}
use Rattle.cache_model.specs.declared.entry.Entry.TheVariants.{Done}
use Rattle.rows.specs.Row.{Row}
use Rattle.rows.specs.Apply.{Reply, Value, Missing, Erased, apply, get, get_where, has, row_of, without}
use Rattle.rows.specs.Evictions.{Evicts}
use Rattle.rows.specs.Spelled.{spelled}
use Rattle.run_log.specs.JournalState.{JournalState}
use Rattle.run_log.specs.Replies.{Replies}
use Rattle.regions.specs.Segments.{group_at}
use Rattle.regions.specs.Shapes.{Shape, guards_of, shape}
use Rattle.layout.specs.Counts.{raised}
use Rattle.shard_memory.specs.Tickets.{BecomeIdle, tickets_out}
use Rattle.rows.specs.Operations.{erase_of, get_of}
use Rattle.shard_store.specs.Lending.{TakesBack}
use Rattle.shard_store.specs.Stores.{StoreState, IsSameStore, with_rows}
use Rattle.run_log.specs.Recorded.{Records}
use Rattle.shard_node.specs.inside.Parts.{DoesPart}

pub got_some : (number : ℕ) (key : Key) (cache : List Row) (row : Row) → row_of key cache ≡ Some row
    → apply (get_of number key) cache ≡ ((get key cache).0, Value row.value)
got_some number key cache row found =
    let same = ap (λ (o : Option Row). get_where o key cache) found in
    same ∙ ap (λ (rows : List Row). (rows, Value row.value)) (sym (ap (λ (did : List Row × Reply). did.0) same))

pub got_none : (number : ℕ) (key : Key) (cache : List Row) → row_of key cache ≡ None → apply (get_of number key) cache ≡ ((get key cache).0, Missing)
got_none number key cache found =
    let same = ap (λ (o : Option Row). get_where o key cache) found in
    same ∙ ap (λ (rows : List Row). (rows, Missing)) (sym (ap (λ (did : List Row × Reply). did.0) same))

pub erased : (number : ℕ) (key : Key) (cache : List Row) (found : Bool) → has key cache ≡ found
    → apply (erase_of number key) cache ≡ (without key cache, cond found Erased Missing)
erased number key cache found has_it = ap (λ (b : Bool). (without key cache, cond b Erased Missing)) has_it

raised-none : (n : ℕ) → n < 2 ^ 64 → n ≡ raised n 0
raised-none n small = grind (arith, small)

-- no block came home
pub none_came : (old new : StoreState) → old.backs < 2 ^ 64 → new.lent ≡ old.lent → new.lends ≡ old.lends → new.backs ≡ old.backs → new.looks ≡ old.looks → TakesBack old new
none_came old new small lent lends backs looks = record {
  home = record {
    count = 0;
    idle = subst (BecomeIdle old.lent) (sym lent) (λ ticket. inl refl);
    out = let out = ap tickets_out lent in omega (arith, out);
    backs = backs ∙ raised-none old.backs small;
  };
  lends = lends;
  looks = omega (arith, looks);
}

-- a part that evicts nothing
pub quiet_does : (part : ℕ) (operation : Operation) (reply : Reply) (rows : List Row) (old new : StoreState) (before after : JournalState) (log logged : Replies)
    → apply operation old.rows ≡ (rows, reply) → Records before after (Done operation.number ∷ []) → new.rows ≡ rows → IsSameStore old new → TakesBack old new
    → logged.replies ≡ slice_set log.replies part (Some (spelled reply)) → logged.room + length (spelled reply).1 ≡ log.room
    → DoesPart part operation old new before after log logged
unfolding Evicts
quiet_does part operation reply rows old new before after log logged does recorded is same came replies room =
    let cache : (apply operation old.rows).0 ≡ rows = ap (λ part. part.0) does in
    let answer : (apply operation old.rows).1 ≡ reply = ap (λ part. part.1) does in
    record {
      reply = reply;
      works = record { evicted = []; rest = old.rows; evicts = refl; recorded = recorded; rows = rw cache is; reply = sym answer; same = same };
      came = came;
      logs = record { replies = replies; room = room };
    }

-- the store is the one that it was but for its rows
pub same_but_rows : (old new : StoreState) (rows : List Row) → new ≡ with_rows old rows → old.backs < 2 ^ 64 → (new.rows ≡ rows) × IsSameStore old new × TakesBack old new
same_but_rows old new rows is small = (
  ap (λ (s : StoreState). s.rows) is,
  record {
    shard = ap (λ (s : StoreState). s.shard) is;
    pages = ap (λ (s : StoreState). s.pages) is;
    regions = ap (λ (s : StoreState). s.regions) is;
    room = ap (λ (s : StoreState). s.room) is;
    list = ap (λ (s : StoreState). s.list) is;
    guards = λ g. ap (λ (s : StoreState). guards_of s.region g) is;
  },
  none_came old new small (ap (λ (s : StoreState). s.lent) is) (ap (λ (s : StoreState). s.lends) is) (ap (λ (s : StoreState). s.backs) is) (ap (λ (s : StoreState). s.looks) is),
)

-- besides, links of rows may have changed in its segments
pub same_but_links : (old new : StoreState) (rows : List Row) → new ≡ record (with_rows old rows) { region = new.region } → shape new.region ≡ shape old.region
    → old.backs < 2 ^ 64 → (new.rows ≡ rows) × IsSameStore old new × TakesBack old new
same_but_links old new rows is same small = (
  ap (λ (s : StoreState). s.rows) is,
  record {
    shard = ap (λ (s : StoreState). s.shard) is;
    pages = ap (λ (s : StoreState). s.pages) is;
    regions = ap (λ (s : StoreState). s.regions) is;
    room = ap (λ (s : StoreState). s.room) is;
    list = ap (λ (s : StoreState). s.list) is;
    guards = λ g. ap (λ (s : Shape). (group_at s.groups g).guards) same;
  },
  none_came old new small (ap (λ (s : StoreState). s.lent) is) (ap (λ (s : StoreState). s.lends) is) (ap (λ (s : StoreState). s.backs) is) (ap (λ (s : StoreState). s.looks) is),
)
