use mathlib.Core.List.{[]}
use mir.Syntax.{named}
use Rattle.std.proofs.Common.{◌≡◌, ◌+◌, ◌≤◌, ℕ, List, ◌++◌, length, length-append, refl, sym, ap, subst, ◌∙◌, arith}
use Rattle.std.specs.Prelude.{vec_capacity}
use Rattle.rows.specs.Apply as apply
use Rattle.rows.specs.Key.{in_table}
use Rattle.rows.specs.Row.{live, size}
use Rattle.row_cache.specs.Rows.{reply_of}
use Rattle.shard_store.specs.Lending.{TakesBack}
use Rattle.embedded_cache.specs.Puts.{Puts}
use Rattle.embedded_cache.specs.States.{EmbeddedState, IsUnguarded, least_bound}
use Rattle.embedded_cache.specs.inside.Told.{WritesPut}
use Rattle.embedded_cache.specs.contracts.cache.Cache.{the_view}
use Rattle.embedded_cache.proofs.Kept.{limits_still}
use Rattle.embedded_cache.proofs.Putting.{puts_counted}
use Rattle.embedded_cache.proofs.cache.Cache.put_pieces.Goals as goal

pub join-requires : goal.join-requires
join-requires c = let wide = c.self.invariant.wide in let value = c.requires.value in omega (arith, wide, value)

pub put_settled-answer-requires-clause-value : goal.put_settled-answer-requires-clause-value
put_settled-answer-requires-clause-value c =
    let long = ap length (c.as_slice.ensures.value ∙ c.join.ensures.joined) ∙ length-append c.args.first.now c.args.second.now in let value = c.requires.value in omega (arith, long, value)

pub put_settled-answer-requires-clause-unguarded : goal.put_settled-answer-requires-clause-unguarded
put_settled-answer-requires-clause-unguarded c = subst (λ (s : EmbeddedState). IsUnguarded s) (sym c.self.view_is) c.requires.unguarded

pub put_settled-answer-requires-clause-limits : goal.put_settled-answer-requires-clause-limits
put_settled-answer-requires-clause-limits c = let i = c.self.invariant in (i.room_is, i.some, i.few)

pub returns-clause-put : goal.returns-clause-put
returns-clause-put c =
    let i = c.self.inside in let did = c.put_settled-answer in let e = did.ensures in let key = in_table c.args.table c.args.key.now in let tag = c.args.tag in
    let value = c.args.first.now ++ c.args.second.now in
    let is : c.as_slice.result.now ≡ value = c.as_slice.ensures.value ∙ c.join.ensures.joined in
    let old = the_view (record { mir = named 1; lft = [] }) i in
    let new = the_view (record { mir = named 1; lft = [] }) (record {
      store = did.new.store;
      limits = i.limits;
      joined = c.join.new.into;
      body = i.body;
      evictions = c.saturating_add-self-inside.result;
      gets = i.gets;
      hits = i.hits;
    }) in
    let written = subst (λ (bytes : List ℕ). WritesPut i.limits.room (least_bound old) key (apply.put key bytes tag) (reply_of did.result.put) did.result.evicted old.store.rows new.store.rows
    c.args.evicted.now did.new.evicted) is e.put in
    subst (λ (s : EmbeddedState). Puts key value tag did.result c.args.evicted.now did.new.evicted s new) c.self.view_is
    (puts_counted key value tag i.limits.room did.result c.args.evicted.now did.new.evicted old new c.self.invariant.room_is written e.same refl c.saturating_add-self-inside.ensures refl refl)

pub returns-clause-low : goal.returns-clause-low
returns-clause-low c =
    let did = c.put_settled-answer in let key = c.args.key.now in let is = c.as_slice.ensures.value ∙ c.join.ensures.joined in
    subst (λ (s : EmbeddedState). live did.new.store.rows ≤ s.bound + size key (c.args.first.now ++ c.args.second.now)) c.self.view_is
    (subst (λ (bytes : List ℕ). live did.new.store.rows ≤ c.self.inside.limits.bound + size key bytes) is did.ensures.low)

pub returns-clause-taken : goal.returns-clause-taken
returns-clause-taken c = subst (λ (s : EmbeddedState). TakesBack s.store c.put_settled-answer.new.store) c.self.view_is c.put_settled-answer.ensures.taken

pub invariant_of-self : goal.invariant_of-self
invariant_of-self c =
    let i = c.self.inside in
    limits_still i.limits.room i.limits.bound (vec_capacity i.joined) (vec_capacity c.join.new.into) i.store c.put_settled-answer.new.store c.put_settled-answer.ensures.same c.join.ensures.capacity
    c.self.invariant
