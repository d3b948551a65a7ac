-- What a cache does with what its store did.
use Rattle.std.proofs.Common.{◌≡◌, ℕ, List, ap, subst, ◌∙◌}
use Rattle.layout.specs.Counts.{raised}
use Rattle.rows.specs.Key.{Key}
use Rattle.rows.specs.Apply.{put}
use Rattle.row_cache.specs.Rows.{reply_of}
use Rattle.shard_store.specs.Stores.{IsSameStore}
use Rattle.embedded_cache.specs.Puts.{Goes, Puts}
use Rattle.embedded_cache.specs.States.{EmbeddedState, least_bound}
use Rattle.embedded_cache.specs.declared.put_answer.PutAnswer.{PutAnswer}
use Rattle.embedded_cache.specs.inside.Told.{WritesPut}

-- rows that went were counted, and nothing else was
pub puts_counted : (key : Key) (value : List ℕ) (tag room : ℕ) (answer : PutAnswer) (places told : List ℕ) (old new : EmbeddedState) → room ≡ old.store.room
    → WritesPut room (least_bound old) key (put key value tag) (reply_of answer.put) answer.evicted old.store.rows new.store.rows places told
    → IsSameStore old.store new.store → new.bound ≡ old.bound → new.evictions ≡ raised old.evictions answer.evicted → new.gets ≡ old.gets → new.hits ≡ old.hits
    → Puts key value tag answer places told old new
puts_counted key value tag room answer places told old new is w same bound evictions gets hits = record {
  tags = w.tags;
  rest = w.rest;
  goes = subst (λ (n : ℕ). Goes n (least_bound old) key old.store.rows w.tags w.rest) is w.goes;
  told = w.told;
  count = w.count_is;
  rows = w.done;
  reply = w.reply;
  evictions = evictions ∙ ap (λ (n : ℕ). raised old.evictions n) w.count_is;
  gets = (gets, hits);
  same = record { store = same; bound = bound };
}
