use Rattle.std.proofs.Common.{◌^◌, ◌<◌, length, Some, ap, subst, ◌∙◌}
use Rattle.std.proofs.lemmas.List.{length-set}
use Rattle.foreign_list.specs.Blocks.{piece_id_of}
use Rattle.shard_memory.specs.Shards.{MemoryState}
use Rattle.shard_memory.specs.Tickets.{Tickets}
use Rattle.shard_store.proofs.Holding.{consistent-same, counted-lent}
use Rattle.shard_store.proofs.Homecoming.{takes-none}
use Rattle.shard_store.proofs.giving.give_at_once.Goals as goal

pub returns-clause-given : goal.returns-clause-given
returns-clause-given c =
    let e = c.in_ok-block.ensures in
    record {
      before = c.args.memory.now;
      came = takes-none c.args.memory.now (subst (λ n. n < 2 ^ 64) (ap (λ (s : MemoryState). s.backs) e.same) e.small);
      gives = record {
        owner = ap (λ (s : MemoryState). s.owner) e.same;
        pages = ap (λ (s : MemoryState). s.pages) e.same;
        list = ap (λ (s : MemoryState). s.list) e.same;
        of_share = e.ticket.of_share;
        idle = e.ticket.idle;
        lent = e.lent;
        lends = e.lends;
        backs = ap (λ (s : MemoryState). s.backs) e.same;
        looks = ap (λ (s : MemoryState). s.take_wholes) e.same;
        of_list = e.fresh.list_is;
        mine = e.mine.1;
        fresh = e.fresh.none_seen;
        bytes = e.bytes;
      };
    }

pub returns-clause-consistent : goal.returns-clause-consistent
returns-clause-consistent c shard pages regions region h =
    let e = c.in_ok-block.ensures in let same = e.same in
    consistent-same shard pages regions c.args.memory.now c.give_uncleared.new.self region
    (ap (λ (s : MemoryState). s.home) same) (ap (λ (s : MemoryState). s.owner) same) (ap (λ (s : MemoryState). s.pages) same) (ap (λ (s : MemoryState). s.blocks) same) (ap (λ (s : MemoryState). s.segments) same)
    (counted-lent c.args.memory.now c.give_uncleared.new.self (ap (λ (s : MemoryState). s.owner) same) (ap (λ (s : MemoryState). s.list) same)
    (ap (λ (l : Tickets). length l) e.lent ∙ length-set c.args.memory.now.lent c.in_ok-block.block.ticket (Some (piece_id_of c.in_ok-block.block.piece))) e.lends e.out (ap (λ (s : MemoryState). s.backs) same)) h
