use Rattle.std.proofs.Common.{ap, ◌∙◌}
use Rattle.shard_store.specs.Stores.{StoreState, group_for}
use Rattle.shard_tests.proofs.Guarded.{guarded-then, unguarded-again}
use Rattle.shard_tests.proofs.shard_store_tests.lent.keeps_guarded.Goals as goal

pub keeps-kept-requires-clause-guarded : goal.keeps-kept-requires-clause-guarded
keeps-kept-requires-clause-guarded c =
    let up = c.guard.ensures in guarded-then c.args.table c.args.store.now c.guard.new.self (ap (λ (s : StoreState). s.regions) up.guards) up.count

pub unguard-requires-clause-some : goal.unguard-requires-clause-some
unguard-requires-clause-some c =
    let up = c.guard.ensures in let same = c.keeps-kept.ensures.same in
    guarded-then c.args.table c.args.store.now c.keeps-kept.new.store (same.regions ∙ ap (λ (s : StoreState). s.regions) up.guards)
    (same.guards (group_for c.args.store.now c.args.table) ∙ up.count)

pub returns-clause-unguarded : goal.returns-clause-unguarded
returns-clause-unguarded c =
    let up = c.guard.ensures in let same = c.keeps-kept.ensures.same in let down = c.unguard.ensures in
    unguarded-again c.args.table c.args.store.now c.guard.new.self c.keeps-kept.new.store c.unguard.new.self (same.regions ∙ ap (λ (s : StoreState). s.regions) up.guards)
    up.count up.others same.guards down.count down.others c.requires.unguarded
