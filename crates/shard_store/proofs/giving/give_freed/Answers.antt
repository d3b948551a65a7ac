use Rattle.std.proofs.Common.{◌+◌, ap, ◌∙◌}
use Rattle.shard_memory.specs.Tickets.{Tickets, tickets_out}
use Rattle.shard_store.proofs.Homecoming.{after-same}
use Rattle.shard_store.proofs.giving.give_freed.Goals as goal

pub returns-clause-given : goal.returns-clause-given
returns-clause-given c = after-same c.args.share c.args.size c.args.memory.now c.give_free_back.new.memory c.give_surely.new.memory c.give_surely.result c.give_free_back.ensures.tickets c.give_surely.ensures.given

pub returns-clause-leaves : goal.returns-clause-leaves
returns-clause-leaves c =
    let f = c.give_free_back.ensures.leaves in
    record {
      rows = f.rows;
      keeps = f.keeps;
      guards = f.guards;
      consistent = λ shard pages regions h. c.give_surely.ensures.consistent shard pages regions c.give_free_back.new.cache.region (f.consistent shard pages regions h);
    }

pub returns-clause-out : goal.returns-clause-out
returns-clause-out c = c.give_surely.ensures.out ∙ ap (λ (l : Tickets). tickets_out l + 1) c.give_free_back.ensures.tickets.lent
