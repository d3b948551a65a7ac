use Rattle.std.proofs.Common.{◌≡◌, subst}
use Rattle.shard_memory.specs.Tickets.{tickets_out}
use Rattle.embedded_cache.specs.States.{EmbeddedState, least_bound}
use Rattle.embedded_cache.specs.contracts.cache.Cache.{the_view}
use Rattle.embedded_cache.proofs.Kept.{least_is}
use mathlib.Core.List.{[]}
use mir.Syntax.{named}
use Rattle.embedded_cache.proofs.cache.Cache.facts.Goals as goal

pub returns-clause-bound : goal.returns-clause-bound
returns-clause-bound c =
    subst (λ (s : EmbeddedState). tickets_out s.store.lent ≡ 0 → least_bound s ≡ s.bound) c.self.view_is
    (least_is (the_view (record { mir = named 1; lft = [] }) c.self.inside) c.self.invariant.low)
