use Rattle.shard_store.proofs.Holding.{consistent-came, consistent-trimmed}
use Rattle.shard_store.proofs.Homecoming.{after-home, came-back, takes-same, trimmed-same}
use Rattle.shard_store.proofs.giving.give_trimmed.Goals as goal
use Rattle.shard_store.proofs.giving.give_trimmed.Goals.{After-give_at_once}
use Rattle.shard_store.specs.inside.Homecoming.{TakesHome}
use Rattle.shard_store.specs.inside.Consistent.{IsConsistent}
use Rattle.regions.specs.Segments.{RegionState}
use Rattle.std.proofs.Common.{ℕ}

came : (c : After-give_at_once) → TakesHome c.args.memory.now c.trim.new.self
came c =
    takes-same c.args.memory.now c.take_back.new.self c.trim.new.self (came-back c.args.memory.now c.take_back.new.self c.take_back.result c.take_back.ensures.come)
    (trimmed-same c.take_back.new.self c.trim.new.self c.trim.ensures.same)

consistent : (c : After-give_at_once) (shard pages regions : ℕ) (region : RegionState) → IsConsistent shard pages regions c.args.memory.now region → IsConsistent shard pages regions c.give_at_once.new.memory region
consistent c shard pages regions region h =
    c.give_at_once.ensures.consistent shard pages regions region
    (consistent-trimmed shard pages regions c.take_back.new.self c.trim.new.self region c.trim.ensures.same
    (consistent-came shard pages regions c.args.memory.now c.take_back.new.self c.take_back.result region c.take_back.ensures.come c.take_back.ensures.tickets h))

pub returns-in-Ok-clause-given : goal.returns-in-Ok-clause-given
returns-in-Ok-clause-given c =
    let d = (goal.at.returns-in-Ok-clause-given c).After-give_at_once in
    after-home c.args.share c.args.size c.args.memory.now d.trim.new.self d.give_at_once.new.memory c.in-Ok.block (came d) c.in-Ok.ensures.given

pub returns-in-Ok-clause-consistent : goal.returns-in-Ok-clause-consistent
returns-in-Ok-clause-consistent c = consistent (goal.at.returns-in-Ok-clause-consistent c).After-give_at_once

pub returns-in-Err-clause-consistent : goal.returns-in-Err-clause-consistent
returns-in-Err-clause-consistent c = consistent (goal.at.returns-in-Err-clause-consistent c).After-give_at_once
