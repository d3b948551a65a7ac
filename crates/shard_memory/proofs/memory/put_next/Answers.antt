use Rattle.std.proofs.Common.{ℕ, ◌*◌, List, set, slice_get, Some, None, sym, ap, subst, ◌∙◌, inl, inr, arith}
use Rattle.std.proofs.lemmas.Bool.{cases_eq}
use denote.RawPtr.{Ptr}
use Rattle.layout.specs.Sizes.{page}
use Rattle.layout.specs.Extents.{Extent}
use Rattle.raw_range.specs.Memory.{extent_of, remove_extent}
use Rattle.foreign_list.specs.OwnerSeats.{OwnerState}
use Rattle.foreign_list.specs.Blocks.{piece_id_of}
use Rattle.shard_memory.specs.Tickets.{Tickets, tickets_out}
use Rattle.shard_memory.specs.inside.Lending.{AreLent, staying}
use Rattle.shard_memory.proofs.Lending.{staying_still, came_home}
use Rattle.shard_memory.proofs.Tickets.{got_set, got_past_set, out_set}
use Rattle.shard_memory.proofs.memory.put_next.Goals as goal

pub returns-clause-lent : goal.returns-clause-lent
returns-clause-lent c =
    let r = c.in-Some.ensures.some in
    let lends = r.is_lent in
    let same = c.put_block.ensures.same in
    let home = subst (λ (lent : Tickets). AreLent lent c.args.own.now.home c.args.own.now.owner (remove_extent (extent_of c.in-Some.back.piece) c.args.own.now.blocks)) (sym (ap (λ (s : OwnerState). s.lent) r.after))
    (came_home c.args.seat.now.lent c.args.own.now.home c.args.own.now.owner c.in-Some.back.ticket (page * c.args.own.now.pages) (piece_id_of c.in-Some.back.piece) c.args.own.now.blocks c.requires.lent lends c.put_block.ensures.disjoint) in
    subst (λ (bs : List Extent). AreLent c.next_back.new.seat.lent c.put_block.new.self.home c.put_block.new.self.owner bs) (sym c.put_block.ensures.blocks)
    (subst (λ (h : Ptr). AreLent c.next_back.new.seat.lent h c.put_block.new.self.owner (remove_extent (extent_of c.in-Some.back.piece) c.args.own.now.blocks)) (sym same.0)
    (subst (λ (o : ℕ). AreLent c.next_back.new.seat.lent c.args.own.now.home o (remove_extent (extent_of c.in-Some.back.piece) c.args.own.now.blocks)) (sym same.1) home))

pub returns-clause-put_back : goal.returns-clause-put_back
returns-clause-put_back c =
    let r = c.in-Some.ensures.some in
    let lends = r.is_lent in
    let lent = ap (λ (s : OwnerState). s.lent) r.after in record {
      idle = λ u. elim (cases_eq u c.in-Some.back.ticket) [
        | inl e ↦ inr (ap (λ (xs : Tickets). slice_get xs u) lent ∙ ap (slice_get (set c.args.seat.now.lent c.in-Some.back.ticket None)) e ∙ got_set c.args.seat.now.lent c.in-Some.back.ticket (Some (piece_id_of c.in-Some.back.piece)) None lends)
        | inr n ↦ inl (ap (λ (xs : Tickets). slice_get xs u) lent ∙ got_past_set c.args.seat.now.lent c.in-Some.back.ticket u None n)
      ];
      out = (let o = out_set c.args.seat.now.lent c.in-Some.back.ticket (Some (piece_id_of c.in-Some.back.piece)) None lends in let e = ap tickets_out lent in omega (arith, o, e));
      blocks = ap (λ (xs : Tickets). staying xs c.put_block.new.self.blocks) lent ∙ ap (staying (set c.args.seat.now.lent c.in-Some.back.ticket None)) c.put_block.ensures.blocks
          ∙ staying_still c.args.seat.now.lent c.in-Some.back.ticket (piece_id_of c.in-Some.back.piece) c.args.own.now.blocks lends;
      room = c.put_block.ensures.kept;
      spans = c.put_block.ensures.freed.spans;
      held = c.put_block.ensures.freed.held;
      segments = c.put_block.ensures.segments;
      pages_out = c.put_block.ensures.pages_out;
      same = c.put_block.ensures.same;
    }
