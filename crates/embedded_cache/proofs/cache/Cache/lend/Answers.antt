use mathlib.Core.List.{[]}
use mir.Syntax.{named}
use Rattle.std.proofs.Common.{◌<◌, ◌^◌, ℕ, true≢false, refl, sym, subst, arith}
use Rattle.std.specs.Prelude.{vec_capacity}
use Rattle.rows.specs.Key.{in_table}
use Rattle.shard_memory.specs.Tickets.{HasIdle}
use Rattle.embedded_cache.specs.Lendings.{LendsValue}
use Rattle.embedded_cache.specs.States.{EmbeddedState, IsUnguarded}
use Rattle.embedded_cache.specs.contracts.cache.Cache.{the_view}
use Rattle.embedded_cache.proofs.Kept.{limits_still}
use Rattle.embedded_cache.proofs.cache.Cache.lend.Goals as goal

pub lend_written-lent-requires-clause-unguarded : goal.lend_written-lent-requires-clause-unguarded
lend_written-lent-requires-clause-unguarded c = subst (λ (s : EmbeddedState). IsUnguarded s) (sym c.self.view_is) c.requires.unguarded

pub lend_written-lent-requires-clause-room : goal.lend_written-lent-requires-clause-room
lend_written-lent-requires-clause-room c = subst (λ (n : ℕ). n < 2 ^ 32) c.self.invariant.room_is c.self.invariant.few

pub lend_written-lent-requires-clause-idle : goal.lend_written-lent-requires-clause-idle
lend_written-lent-requires-clause-idle c = c.is_idle.ensures.idle.0 c.if-not-is_idle.false

pub returns-clause-none : goal.returns-clause-none
returns-clause-none c = (
  λ none. absurd (true≢false none),
  λ lacks. absurd (lacks (subst (λ (s : EmbeddedState). HasIdle s.store.lent c.args.share) c.self.view_is (c.is_idle.ensures.idle.0 c.if-not-is_idle.false))),
)

pub returns-clause-lends : goal.returns-clause-lends
returns-clause-lends c =
    let i = c.self.inside in let did = c.lend_written-lent in
    let new = the_view (record { mir = named 1; lft = [] }) (record {
      store = did.new.store;
      limits = i.limits;
      joined = i.joined;
      body = i.body;
      evictions = c.saturating_add-self-inside.result;
      gets = i.gets;
      hits = i.hits;
    }) in
    subst (λ (s : EmbeddedState). LendsValue (in_table c.args.table c.args.key.now) c.args.head c.args.share did.result c.args.evicted.now did.new.evicted s new) c.self.view_is
    (record { found = did.ensures; evictions = c.saturating_add-self-inside.ensures; gets = (refl, refl); bound = refl })

pub invariant_of-self : goal.invariant_of-self
invariant_of-self c =
    let i = c.self.inside in let capacity = vec_capacity i.joined in
    limits_still i.limits.room i.limits.bound capacity capacity i.store c.lend_written-lent.new.store c.lend_written-lent.ensures.same (omega arith) c.self.invariant
