use Rattle.std.proofs.Common.{◌≡◌, ◌+◌, ◌*◌, ◌≤◌, length, ap, sym, subst, ◌∙◌, arith}
use Rattle.std.specs.Prelude.{All}
use Rattle.layout.specs.Extents.{extent, Disjoint}
use Rattle.layout.specs.Sizes.{segment, page}
use Rattle.raw_range.specs.Memory.{Memory}
use Rattle.regions.specs.Shapes.{identity}
use Rattle.place_lemmas.specs.Ranges.{nth_piece}
use Rattle.place_lemmas.proofs.Ranges.{apart, length-extents, one_more, piece_is}
use Rattle.segmented_store.proofs.ranged.add_segments.Goals as goal

pub take-requires-clause-disjoint : goal.take-requires-clause-disjoint
take-requires-clause-disjoint g c =
    let k = c.loop-segment.segment in subst (λ es. All (Disjoint (extent (k * segment) segment)) es) (sym c.loop-segment.invariant.first.allocated) (apart k k (omega arith))

pub take-requires-clause-few : goal.take-requires-clause-few
take-requires-clause-few g c =
    let long = ap length c.loop-segment.invariant.first.allocated in let many = length-extents c.loop-segment.segment in let few = c.requires.few in let test = c.loop-segment-test.true in
    omega (arith, long, many, few, test)

pub loop-segment-preserved : goal.loop-segment-preserved
loop-segment-preserved g c =
    let i = c.loop-segment.invariant in let k = c.loop-segment.segment in let e = c.take_piece.ensures in let a = e.adds in let t = c.take.ensures in
    let test = c.loop-segment-test.true in let inside = c.requires.inside in let pages = i.pages in
    let room : (k + 1) * segment ≤ page * c.loop-segment.range.pages = omega (arith, test, inside, pages) in
    let long = c.requires.long in let bytes = ap length i.bytes in
    let filled : length c.loop-segment.range.bytes ≡ page * c.loop-segment.range.pages = omega (arith, long, bytes, pages) in
    let piece : identity c.take.result ≡ nth_piece c.loop-segment.range k = piece_is c.loop-segment.range k c.take.result t.piece filled room in
    record {
      first = one_more c.loop-segment.range c.take.new.self (g.S.Segmented.region c.loop-segment.store) (g.S.Segmented.region c.take_piece.new.self) k a.added.0 c.take.result i.first a.added.1
          a.added.2 a.held a.most piece t.allocated room;
      most = a.most ∙ i.most;
      bytes = ap (λ (m : Memory). m.bytes) t.allocated ∙ i.bytes;
      pages = ap (λ (m : Memory). m.pages) t.allocated ∙ i.pages;
      content = e.content ∙ i.content;
      guards = a.guards ∙ i.guards;
    }
