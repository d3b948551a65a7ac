use Rattle.std.proofs.Common.{◌+◌, ◌*◌, List, length, sym, ap, subst, ◌∙◌, arith}
use Rattle.layout.specs.Sizes.{page}
use Rattle.layout.specs.Extents.{Extent}
use Rattle.raw_range.specs.Memory.{extent_of, remove_extent}
use Rattle.shard_memory.specs.Room.{PutsObject}
use Rattle.shard_memory.specs.Shards.{MemoryState, IsBlockOf}
use Rattle.shard_memory.specs.inside.Lending.{staying}
use Rattle.shard_memory.proofs.Lending.{less_staying, staying_block, one_less, back_one, same_lent}
use Rattle.shard_memory.proofs.memory.ShardMemory.back_here.Goals as goal

pub put_block-requires : goal.put_block-requires
put_block-requires c =
    let r = subst (λ (s : MemoryState). IsBlockOf s c.args.piece) (sym c.self.view_is) c.requires in
    (r.0, staying_block c.self.inside.seat.lent (extent_of c.args.piece) c.self.inside.own.blocks r.1)

pub overflow_sub-self : goal.overflow_sub-self
overflow_sub-self c =
    let r = subst (λ (s : MemoryState). IsBlockOf s c.args.piece) (sym c.self.view_is) c.requires in
    let less = one_less c.self.inside.seat.lent (page * c.self.inside.own.pages) (extent_of c.args.piece) c.self.inside.own.blocks c.put_block.ensures.disjoint r.1 in
    let is = c.self.invariant.here_is in omega (arith, less, is)

pub invariant_of-self : goal.invariant_of-self
invariant_of-self c =
    let r = subst (λ (s : MemoryState). IsBlockOf s c.args.piece) (sym c.self.view_is) c.requires in
    let was = c.self.invariant in
    let same = c.put_block.ensures.same in record {
      seat_of = was.seat_of;
      walk = was.walk;
      owner = same.1 ∙ was.owner;
      lent = same_lent c.self.inside.seat.lent _ _ _ _ _ _ (sym same.0) (sym same.1) (sym c.put_block.ensures.blocks)
          (back_one c.self.inside.seat.lent c.self.inside.own.home c.self.inside.own.owner (page * c.self.inside.own.pages) (extent_of c.args.piece) c.self.inside.own.blocks was.lent c.put_block.ensures.disjoint r.1);
      out_is = was.out_is;
      here_is =
          (let less = one_less c.self.inside.seat.lent (page * c.self.inside.own.pages) (extent_of c.args.piece) c.self.inside.own.blocks c.put_block.ensures.disjoint r.1 in
          let now = ap (λ (xs : List Extent). length (staying c.self.inside.seat.lent xs)) c.put_block.ensures.blocks in
          let is = was.here_is in omega (arith, less, now, is));
      back_fits = was.back_fits;
    }

pub returns-clause-blocks : goal.returns-clause-blocks
returns-clause-blocks c =
    ap (staying c.self.inside.seat.lent) c.put_block.ensures.blocks ∙ less_staying c.self.inside.seat.lent (extent_of c.args.piece) c.self.inside.own.blocks
    ∙ ap (λ (s : MemoryState). remove_extent (extent_of c.args.piece) s.blocks) c.self.view_is

pub returns-clause-one_less : goal.returns-clause-one_less
returns-clause-one_less c =
    let r = subst (λ (s : MemoryState). IsBlockOf s c.args.piece) (sym c.self.view_is) c.requires in
    ap (λ (xs : List Extent). length (staying c.self.inside.seat.lent xs) + 1) c.put_block.ensures.blocks
    ∙ one_less c.self.inside.seat.lent (page * c.self.inside.own.pages) (extent_of c.args.piece) c.self.inside.own.blocks c.put_block.ensures.disjoint r.1 ∙ ap (λ (s : MemoryState). length s.blocks) c.self.view_is

pub returns-clause-freed : goal.returns-clause-freed
returns-clause-freed c = subst (λ (s : MemoryState). PutsObject s.room c.put_block.new.self.room c.args.piece.at) c.self.view_is c.put_block.ensures.freed
