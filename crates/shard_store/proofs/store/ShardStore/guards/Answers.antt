use Rattle.std.proofs.Common.{◌≡◌, ℕ, ap, subst, ◌∙◌}
use Rattle.regions.specs.Shapes.{guards_of}
use Rattle.shard_store.specs.Stores.{StoreState, group_for}
use Rattle.shard_store.proofs.store.ShardStore.guards.Goals as goal

pub returns : goal.returns
returns c =
    let region = c.self.inside.cache.region in
    subst (λ (s : StoreState). c.guards.result ≡ guards_of s.region (group_for s c.args.table)) c.self.view_is
    (c.guards.ensures ∙ ap (λ (g : ℕ). guards_of region g) c.group_of-group.ensures.group)
