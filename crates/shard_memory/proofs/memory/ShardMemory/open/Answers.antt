use Rattle.std.proofs.Common.{List, length, refl, sym, ap, subst, ◌∙◌, arith}
use Rattle.layout.specs.Extents.{Extent}
use Rattle.shard_memory.specs.inside.Lending.{AreLent, staying}
use Rattle.shard_memory.proofs.Tickets.{none_out}
use Rattle.shard_memory.proofs.Lending.{lent_none}
use Rattle.shard_memory.proofs.memory.ShardMemory.open.Goals as goal

pub invariant_of-result : goal.invariant_of-result
invariant_of-result c = record {
  seat_of = c.requires.seat.seat_of;
  walk = c.requires.seat.walk;
  owner = c.in-Ok.ensures.numbers.0 ∙ sym c.requires.owner;
  lent = subst (AreLent c.args.seat.lent c.in-Ok.own.home c.in-Ok.own.owner) (sym c.in-Ok.ensures.blocks.0) (lent_none c.args.seat.lent c.in-Ok.own.home c.in-Ok.own.owner c.facts.ensures.tickets c.requires.seat.idle);
  out_is = sym (none_out c.args.seat.lent c.requires.seat.idle);
  here_is = sym (ap (λ (xs : List Extent). length (staying c.args.seat.lent xs)) c.in-Ok.ensures.blocks.0);
  back_fits = omega arith;
}

pub returns-in-Ok-clause-counts : goal.returns-in-Ok-clause-counts
returns-in-Ok-clause-counts c = (let none = none_out c.args.seat.lent c.requires.seat.idle in omega (arith, none), refl, refl)
