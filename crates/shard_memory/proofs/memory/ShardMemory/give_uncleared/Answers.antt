use Rattle.std.proofs.Common.{◌≡◌, ◌+◌, ◌-◌, ◌*◌, ◌^◌, ◌≤◌, List, length, set, min, Some, None, sym, ap, subst, ◌∙◌, arith}
use Rattle.layout.specs.Sizes.{page, greatest_block}
use Rattle.layout.specs.Extents.{Extent, AreDisjoint}
use Rattle.raw_range.specs.Memory.{Lent}
use Rattle.foreign_list.specs.OwnerSeats.{OwnerState}
use Rattle.foreign_list.specs.Blocks.{piece_id_of}
use Rattle.shard_memory.specs.Tickets.{Tickets, tickets_out}
use Rattle.shard_memory.specs.Room.{IsTrimmed, LacksBlock, TakesObject}
use Rattle.shard_memory.specs.Shards.{MemoryState}
use Rattle.shard_memory.specs.inside.Lending.{AreLent, staying}
use Rattle.shard_memory.proofs.Tickets.{fewer_out, out_set}
use Rattle.shard_memory.proofs.Lending.{still_staying, lent_one, same_lent}
use Rattle.shard_memory.proofs.memory.ShardMemory.give_uncleared.Goals as goal

pub give_block-requires-clause-few : goal.give_block-requires-clause-few
give_block-requires-clause-few c =
    let was = c.self.invariant.lent in
    let less = fewer_out c.self.inside.seat.lent c.in-Some.ticket c.in-Some.ensures.some.idle in
    let out = was.out in let few = was.few in let count = was.count in omega (arith, less, out, few, count)

pub invariant_of-self-2 : goal.invariant_of-self-2
invariant_of-self-2 c =
    let was = c.self.invariant in
    let idle = c.in-Some.ensures.some.idle in
    let same = c.in_ok-piece.ensures.same in
    let mine = c.in_ok-piece.ensures.mine in
    let a = piece_id_of c.in_ok-piece.piece in
    let disjoint = subst (λ (bs : List Extent). AreDisjoint (page * c.give_block.new.self.pages) bs) c.in_ok-piece.ensures.blocks c.in_ok-piece.ensures.disjoint in record {
      seat_of = ap (λ (s : OwnerState). s.list) c.lend.ensures.lent ∙ was.seat_of;
      walk = ap (λ (s : OwnerState). s.walk) c.lend.ensures.lent ∙ was.walk;
      owner = same.1 ∙ was.owner;
      lent = subst (λ (lent : Tickets). AreLent lent c.give_block.new.self.home c.give_block.new.self.owner c.give_block.new.self.blocks) (sym (ap (λ (s : OwnerState). s.lent) c.lend.ensures.lent))
          (same_lent (set c.self.inside.seat.lent c.in-Some.ticket (Some a)) _ _ _ _ _ _ (sym same.0) (sym same.1) (sym c.in_ok-piece.ensures.blocks)
          (lent_one c.self.inside.seat.lent c.self.inside.own.home c.self.inside.own.owner c.in-Some.ticket (page * c.give_block.new.self.pages) a c.self.inside.own.blocks was.lent idle disjoint mine.0 mine.1));
      out_is =
          (let more = out_set c.self.inside.seat.lent c.in-Some.ticket None (Some a) idle in
          let new = ap (λ (s : OwnerState). tickets_out s.lent) c.lend.ensures.lent in
          let out = was.out_is in omega (arith, more, new, out));
      here_is = was.here_is ∙ sym (ap (λ (xs : List Extent). length xs)
          (ap (λ (s : OwnerState). staying s.lent c.give_block.new.self.blocks) c.lend.ensures.lent ∙ ap (staying (set c.self.inside.seat.lent c.in-Some.ticket (Some a))) c.in_ok-piece.ensures.blocks
          ∙ still_staying c.self.inside.seat.lent c.in-Some.ticket (page * c.give_block.new.self.pages) a c.self.inside.own.blocks idle disjoint));
      back_fits = was.back_fits;
    }

pub returns-clause-out : goal.returns-clause-out
returns-clause-out c =
    let more = out_set c.self.inside.seat.lent c.in-Some.ticket None (Some (piece_id_of c.in_ok-piece.piece)) c.in-Some.ensures.some.idle in
    let new = ap (λ (s : OwnerState). tickets_out s.lent) c.lend.ensures.lent in
    let old = ap (λ (s : MemoryState). tickets_out s.lent) c.self.view_is in
    omega (arith, more, new, old)

pub returns-clause-lends : goal.returns-clause-lends
returns-clause-lends c =
    let more = out_set c.self.inside.seat.lent c.in-Some.ticket None (Some (piece_id_of c.in_ok-piece.piece)) c.in-Some.ensures.some.idle in
    let new = ap (λ (s : OwnerState). tickets_out s.lent) c.lend.ensures.lent in
    let old = ap (λ (s : MemoryState). s.lends) c.self.view_is in
    omega (arith, more, new, old)

pub returns-clause-same : goal.returns-clause-same
returns-clause-same c =
    let idle = c.in-Some.ensures.some.idle in
    let a = piece_id_of c.in_ok-piece.piece in
    let disjoint = subst (λ (bs : List Extent). AreDisjoint (page * c.give_block.new.self.pages) bs) c.in_ok-piece.ensures.blocks c.in_ok-piece.ensures.disjoint in
    let stay : staying c.lend.new.seat.lent c.give_block.new.self.blocks ≡ staying c.self.inside.seat.lent c.self.inside.own.blocks =
    (ap (λ (s : OwnerState). staying s.lent c.give_block.new.self.blocks) c.lend.ensures.lent ∙ ap (staying (set c.self.inside.seat.lent c.in-Some.ticket (Some a))) c.in_ok-piece.ensures.blocks
    ∙ still_staying c.self.inside.seat.lent c.in-Some.ticket (page * c.give_block.new.self.pages) a c.self.inside.own.blocks idle disjoint) in
    let same = c.in_ok-piece.ensures.same in
    let segments = c.in_ok-piece.ensures.segments in
    let wholes = ap (λ (s : OwnerState). s.take_wholes) c.lend.ensures.lent in
    let was = c.self.view_is in
    λ i. record {
      home = (same.0 ∙ ap (λ (s : MemoryState). s.home) was) i;
      owner = (same.1 ∙ ap (λ (s : MemoryState). s.owner) was) i;
      pages = (same.2 ∙ ap (λ (s : MemoryState). s.pages) was) i;
      blocks = (stay ∙ ap (λ (s : MemoryState). s.blocks) was) i;
      objects = c.give_block.new.self.objects;
      segments = (segments ∙ ap (λ (s : MemoryState). s.segments) was) i;
      pages_out = c.give_block.new.self.pages_out;
      room = c.give_block.new.self.room;
      list = ap (λ (s : MemoryState). s.list) was i;
      lent = c.lend.new.seat.lent;
      lends = min (c.self.inside.back + tickets_out c.lend.new.seat.lent) (2 ^ 64 - 1);
      backs = ap (λ (s : MemoryState). s.backs) was i;
      take_wholes = (wholes ∙ ap (λ (s : MemoryState). s.take_wholes) was) i;
    }

pub returns-clause-room : goal.returns-clause-room
returns-clause-room c = subst (λ (s : MemoryState). (c.args.size ≤ greatest_block) × ¬ LacksBlock s.room c.args.size) c.self.view_is c.in_ok-piece.ensures.room

pub returns-clause-taken : goal.returns-clause-taken
returns-clause-taken c =
    let new = c.give_block.new.self.room in
    subst (λ (s : MemoryState). TakesObject s.room new c.args.size c.lend.result.piece.at) c.self.view_is
    (subst (TakesObject c.self.inside.own.room new c.args.size) (sym (ap (λ (l : Lent). l.at) c.lend.ensures.block.piece_is)) c.in_ok-piece.ensures.taken)

pub returns-clause-trimmed : goal.returns-clause-trimmed
returns-clause-trimmed c = subst (λ (s : MemoryState). IsTrimmed s.room → IsTrimmed c.give_block.new.self.room) c.self.view_is c.in_ok-piece.ensures.trimmed
