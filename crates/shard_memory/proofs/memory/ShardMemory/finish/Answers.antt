use Rattle.std.proofs.Common.{◌≡◌, [], length, sym, ap, subst, ◌∙◌, arith}
use Rattle.std.proofs.lemmas.List.{nil_from_length}
use Rattle.foreign_list.specs.OwnerSeats.{IsAtRest}
use Rattle.shard_memory.specs.Tickets.{tickets_out}
use Rattle.shard_memory.specs.Shards.{MemoryState}
use Rattle.shard_memory.proofs.Tickets.{none_are}
use Rattle.shard_memory.proofs.memory.ShardMemory.finish.Goals as goal

pub finish-requires : goal.finish-requires
finish-requires c =
    let r = subst (λ (s : MemoryState). (s.blocks ≡ []) × (s.segments ≡ [])) (sym c.self.view_is) c.requires.blocks in
    let none = ap (λ (s : MemoryState). tickets_out s.lent) c.self.view_is ∙ c.requires.idle in
    let out = c.self.invariant.lent.out in
    let few = ap length r.0 in
    (nil_from_length c.self.inside.own.blocks (omega (arith, none, out, few)), r.1)

pub returns-clause-seat : goal.returns-clause-seat
returns-clause-seat c =
    subst (λ (s : MemoryState). IsAtRest s.list c.self.inside.seat) c.self.view_is
    record {
      seat_of = c.self.invariant.seat_of;
      idle = none_are c.self.inside.seat.lent (ap (λ (s : MemoryState). tickets_out s.lent) c.self.view_is ∙ c.requires.idle);
      walk = c.self.invariant.walk;
    }
