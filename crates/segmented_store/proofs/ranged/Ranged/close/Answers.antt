use Rattle.std.proofs.Common.{ap, refl, ◌∙◌}
use Rattle.regions.specs.Shapes.{Identity, held_count}
use Rattle.place_lemmas.proofs.Ranges.{last_piece, last_contained, one_less}
use Rattle.segmented_store.proofs.ranged.Ranged.close.Goals as goal

pub put-requires-clause-home : goal.put-requires-clause-home
put-requires-clause-home g c =
    let l = c.loop-piece in let e = c.in-Some.ensures.gives.given in let r = g.S.Segmented.region l.store in
    ap (λ (i : Identity). i.home) (last_piece l.range r (held_count r) e.0 c.in-Some.piece l.invariant.first e.1 e.2)

pub put-requires-clause-piece : goal.put-requires-clause-piece
put-requires-clause-piece g c =
    let l = c.loop-piece in let e = c.in-Some.ensures.gives.given in let r = g.S.Segmented.region l.store in
    last_contained l.range r (held_count r) e.0 c.in-Some.piece l.invariant.first e.1 e.2

pub loop-piece-preserved : goal.loop-piece-preserved
loop-piece-preserved g c =
    let l = c.loop-piece in let a = c.in-Some.ensures.gives in let e = a.given in let r = g.S.Segmented.region l.store in let s = g.S.Segmented.region c.give_piece.new.self in
    record {
      first = one_less l.range c.put.new.self r s (held_count r) e.0 c.in-Some.piece _ l.invariant.first e.1 e.2 e.3 (a.held refl) a.most c.put.ensures.back;
      unguarded = a.guards ∙ l.invariant.unguarded;
    }
