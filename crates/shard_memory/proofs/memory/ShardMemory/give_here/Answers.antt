use Rattle.std.proofs.Common.{◌≡◌, ◌*◌, ◌<◌, ◌≤◌, List, ◌∷◌, length, sym, ap, subst, ◌∙◌, arith}
use Rattle.std.specs.Prelude.{Contains}
use Rattle.std.proofs.lemmas.List.{length-replicate}
use Rattle.layout.specs.Sizes.{page, greatest_block}
use Rattle.layout.specs.Extents.{Extent, extent, AreDisjoint}
use Rattle.raw_range.specs.Memory.{Lent, extent_of}
use Rattle.shard_memory.specs.Room.{IsTrimmed, LacksBlock, TakesObject}
use Rattle.shard_memory.specs.Shards.{MemoryState}
use Rattle.shard_memory.specs.inside.Lending.{staying}
use Rattle.shard_memory.proofs.Lists.{has_first, disjoint_still}
use Rattle.shard_memory.proofs.Lending as lending
use Rattle.shard_memory.proofs.Lending.{one_staying, given_one, same_lent}
use Rattle.shard_memory.proofs.memory.ShardMemory.give_here.Goals as goal
use Rattle.shard_memory.proofs.memory.ShardMemory.give_here.Goals.{After-cleared}

pub overflow_add-self : goal.overflow_add-self
overflow_add-self c = let few = c.self.invariant.lent.few in let is = c.self.invariant.here_is in omega (arith, few, is)

pub invariant_of-self-2 : goal.invariant_of-self-2
invariant_of-self-2 c =
    let was = c.self.invariant in
    let e = c.in_ok-piece.ensures in
    let same = e.same in
    let apart = subst (λ (bs : List Extent). AreDisjoint (page * c.give_block.new.self.pages) bs) e.blocks e.disjoint in
    let few = subst (λ (s : MemoryState). length s.blocks < 1024) (sym c.self.view_is) c.requires.few in record {
      seat_of = was.seat_of;
      walk = was.walk;
      owner = same.1 ∙ was.owner;
      lent = same_lent c.self.inside.seat.lent _ _ _ _ _ _ (sym same.0) (sym same.1) (sym e.blocks)
          (given_one c.self.inside.seat.lent c.self.inside.own.home c.self.inside.own.owner (page * c.give_block.new.self.pages) (extent_of c.in_ok-piece.piece) c.self.inside.own.blocks was.lent
          apart few);
      out_is = was.out_is;
      here_is =
          (let now = ap (λ (xs : List Extent). length (staying c.self.inside.seat.lent xs)) e.blocks in
          let one = ap (λ (xs : List Extent). length xs)
          (one_staying c.self.inside.seat.lent c.self.inside.own.home c.self.inside.own.owner (page * c.give_block.new.self.pages) (extent_of c.in_ok-piece.piece) c.self.inside.own.blocks was.lent
          apart) in
          let is = was.here_is in omega (arith, now, one, is));
      back_fits = was.back_fits;
    }

-- the cleared piece lies where the given one does
lies : (c : After-cleared) → extent_of c.cleared.result ≡ extent_of c.in_ok-piece.piece
lies c = ap (λ (l : Lent). extent_of l) c.cleared.ensures ∙ ap (λ n. extent c.in_ok-piece.piece.at n) (length-replicate (length c.in_ok-piece.piece.bytes) 0)

stays : (c : After-cleared) → staying c.self.inside.seat.lent c.give_block.new.self.blocks ≡ extent_of c.cleared.result ∷ staying c.self.inside.seat.lent c.self.inside.own.blocks
stays c =
    let e = c.in_ok-piece.ensures in let lent = c.self.inside.seat.lent in
    ap (staying lent) e.blocks
    ∙ one_staying lent c.self.inside.own.home c.self.inside.own.owner (page * c.give_block.new.self.pages) (extent_of c.in_ok-piece.piece) c.self.inside.own.blocks c.self.invariant.lent
    (subst (λ (bs : List Extent). AreDisjoint (page * c.give_block.new.self.pages) bs) e.blocks e.disjoint)
    ∙ ap (λ (x : Extent). x ∷ staying lent c.self.inside.own.blocks) (sym (lies c))

pub returns-clause-blocks : goal.returns-clause-blocks
returns-clause-blocks c = stays (goal.at.returns-clause-blocks c).After-cleared ∙ ap (λ (s : MemoryState). extent_of c.cleared.result ∷ s.blocks) c.self.view_is

pub returns-clause-given : goal.returns-clause-given
returns-clause-given c = (
  ap (λ (l : Lent). l.home) c.cleared.ensures ∙ c.in_ok-piece.ensures.given.0,
  subst (λ (bs : List Extent). Contains bs (extent_of c.cleared.result)) (sym (stays (goal.at.returns-clause-given c).After-cleared))
      (has_first (extent_of c.cleared.result) (staying c.self.inside.seat.lent c.self.inside.own.blocks)),
)

pub returns-clause-room : goal.returns-clause-room
returns-clause-room c = subst (λ (s : MemoryState). (c.args.size ≤ greatest_block) × ¬ LacksBlock s.room c.args.size) c.self.view_is c.in_ok-piece.ensures.room

pub returns-clause-taken : goal.returns-clause-taken
returns-clause-taken c =
    let new = c.give_block.new.self.room in
    subst (λ (s : MemoryState). TakesObject s.room new c.args.size c.cleared.result.at) c.self.view_is
    (subst (TakesObject c.self.inside.own.room new c.args.size) (sym (ap (λ (l : Lent). l.at) c.cleared.ensures)) c.in_ok-piece.ensures.taken)

pub returns-clause-trimmed : goal.returns-clause-trimmed
returns-clause-trimmed c = subst (λ (s : MemoryState). IsTrimmed s.room → IsTrimmed c.give_block.new.self.room) c.self.view_is c.in_ok-piece.ensures.trimmed

pub returns-clause-disjoint : goal.returns-clause-disjoint
returns-clause-disjoint c =
    disjoint_still (lending.stays c.self.inside.seat.lent) (page * c.give_block.new.self.pages) c.give_block.new.self.blocks c.in_ok-piece.ensures.disjoint
