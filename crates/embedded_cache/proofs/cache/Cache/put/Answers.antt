use mathlib.Core.List.{[]}
use mir.Syntax.{named}
use Rattle.std.proofs.Common.{◌+◌, ◌≤◌, refl, sym, subst, arith}
use Rattle.std.specs.Prelude.{vec_capacity}
use Rattle.rows.specs.Key.{in_table}
use Rattle.rows.specs.Row.{live, size}
use Rattle.shard_store.specs.Lending.{TakesBack}
use Rattle.embedded_cache.specs.Puts.{Puts}
use Rattle.embedded_cache.specs.States.{EmbeddedState, IsUnguarded}
use Rattle.embedded_cache.specs.contracts.cache.Cache.{the_view}
use Rattle.embedded_cache.proofs.Kept.{limits_still}
use Rattle.embedded_cache.proofs.Putting.{puts_counted}
use Rattle.embedded_cache.proofs.cache.Cache.put.Goals as goal

pub put_settled-answer-requires-clause-unguarded : goal.put_settled-answer-requires-clause-unguarded
put_settled-answer-requires-clause-unguarded c = subst (λ (s : EmbeddedState). IsUnguarded s) (sym c.self.view_is) c.requires.unguarded

pub put_settled-answer-requires-clause-limits : goal.put_settled-answer-requires-clause-limits
put_settled-answer-requires-clause-limits c = let i = c.self.invariant in (i.room_is, i.some, i.few)

pub returns-clause-put : goal.returns-clause-put
returns-clause-put c =
    let i = c.self.inside in let did = c.put_settled-answer in let e = did.ensures in let key = in_table c.args.table c.args.key.now in
    let old = the_view (record { mir = named 1; lft = [] }) i in
    let new = the_view (record { mir = named 1; lft = [] }) (record {
      store = did.new.store;
      limits = i.limits;
      joined = i.joined;
      body = i.body;
      evictions = c.saturating_add-self-inside.result;
      gets = i.gets;
      hits = i.hits;
    }) in
    subst (λ (s : EmbeddedState). Puts key c.args.value.now c.args.tag did.result c.args.evicted.now did.new.evicted s new) c.self.view_is
    (puts_counted key c.args.value.now c.args.tag i.limits.room did.result c.args.evicted.now did.new.evicted old new c.self.invariant.room_is e.put e.same refl
    c.saturating_add-self-inside.ensures refl refl)

pub returns-clause-low : goal.returns-clause-low
returns-clause-low c = subst (λ (s : EmbeddedState). live c.put_settled-answer.new.store.rows ≤ s.bound + size c.args.key.now c.args.value.now) c.self.view_is c.put_settled-answer.ensures.low

pub returns-clause-taken : goal.returns-clause-taken
returns-clause-taken c = subst (λ (s : EmbeddedState). TakesBack s.store c.put_settled-answer.new.store) c.self.view_is c.put_settled-answer.ensures.taken

pub invariant_of-self : goal.invariant_of-self
invariant_of-self c =
    let i = c.self.inside in let capacity = vec_capacity i.joined in
    limits_still i.limits.room i.limits.bound capacity capacity i.store c.put_settled-answer.new.store c.put_settled-answer.ensures.same (omega arith) c.self.invariant
