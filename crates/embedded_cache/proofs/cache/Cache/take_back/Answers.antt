use Rattle.std.proofs.Common.{ℕ, ◌≤◌, sym, ap, subst, ◌∙◌}
use Rattle.shard_store.specs.Stores.{StoreState}
use Rattle.embedded_cache.specs.States.{most_bound}
use Rattle.embedded_cache.proofs.cache.Cache.take_back.Goals as goal

pub invariant_of-self : goal.invariant_of-self
invariant_of-self c =
    let i = c.self.inside in let are = c.self.invariant in let is = c.take_back.ensures.same in let new = c.take_back.new.self in
    record {
      room_is = are.room_is ∙ sym (ap (λ (s : StoreState). s.room) is);
      some = are.some;
      few = are.few;
      low = subst (λ (n : ℕ). i.limits.bound ≤ most_bound n new.regions) (sym (ap (λ (s : StoreState). s.pages) is))
          (subst (λ (n : ℕ). i.limits.bound ≤ most_bound i.store.pages n) (sym (ap (λ (s : StoreState). s.regions) is)) are.low);
      wide = are.wide;
    }
