use Rattle.std.proofs.Common.{◌≡◌, ◌≤◌, ℕ, [], refl, sym, subst, arith}
use Rattle.shard_memory.specs.Tickets.{tickets_out}
use Rattle.shard_store.specs.Stores.{StoreState}
use Rattle.shard_store.specs.Stores as stores
use Rattle.embedded_cache.specs.States.{most_bound}
use Rattle.embedded_cache.proofs.cache.Cache.open.Goals as goal

pub invariant_of-result : goal.invariant_of-result
invariant_of-result c =
    let o = c.requires.opening in let store = c.in_ok-store.store in let n = c.in_ok-store.ensures.numbers in
    let same = sym c.widen_if.ensures.unchanged in
    record {
      room_is = subst (λ (s : StoreState). c.args.opening.rows ≡ s.room) same (sym n.2);
      some = o.some_rows;
      few = let few = o.rows in omega (arith, few);
      low = subst (λ (s : StoreState). c.args.opening.bound ≤ most_bound s.pages s.regions) same
          (subst (λ (k : ℕ). c.args.opening.bound ≤ most_bound k store.regions) (sym n.1)
          (subst (λ (k : ℕ). c.args.opening.bound ≤ most_bound c.args.opening.pages k) (sym c.in_ok-store.ensures.regions) o.bound));
      wide = c.in-Ok.ensures.capacity;
    }

pub returns-clause-numbers : goal.returns-clause-numbers
returns-clause-numbers c =
    let o = c.args.opening in let e = c.in_ok-store.ensures in let n = e.numbers in
    subst (λ (s : StoreState). (s.shard ≡ o.shard) × (s.pages ≡ o.pages) × (s.regions ≡ o.regions) × (s.room ≡ o.rows) × (o.bound ≡ o.bound))
    (sym c.widen_if.ensures.unchanged) (n.0, n.1, e.regions, n.2, refl)

pub returns-clause-rows : goal.returns-clause-rows
returns-clause-rows c = subst (λ (s : StoreState). s.rows ≡ []) (sym c.widen_if.ensures.unchanged) c.in_ok-store.ensures.rows

pub returns-clause-list : goal.returns-clause-list
returns-clause-list c = subst (λ (s : StoreState). s.list ≡ c.args.home.now) (sym c.widen_if.ensures.unchanged) c.in_ok-store.ensures.list

pub returns-clause-idle : goal.returns-clause-idle
returns-clause-idle c = subst (λ (s : StoreState). tickets_out s.lent ≡ 0) (sym c.widen_if.ensures.unchanged) c.in_ok-store.ensures.idle

pub returns-clause-unguarded : goal.returns-clause-unguarded
returns-clause-unguarded c = subst (λ (s : StoreState). stores.IsUnguarded s) (sym c.widen_if.ensures.unchanged) c.in_ok-store.ensures.unguarded
