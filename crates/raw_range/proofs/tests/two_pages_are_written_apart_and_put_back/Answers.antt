use Rattle.std.proofs.Common.{[], ◌∷◌, ap, ap₂, ◌∙◌, inr, arith}
use Rattle.layout.specs.Extents.{Extent, extent}
use Rattle.raw_range.specs.Memory.{remove_extent}
use Rattle.raw_range.proofs.Calls.{apart_none, apart_more, has_first, has_second, same_place}
use Rattle.raw_range.proofs.tests.two_pages_are_written_apart_and_put_back.Goals as goal

abbrev low : Extent
low = extent 0 4096

abbrev high : Extent
high = extent 4096 4096

pub take-first-requires-clause-disjoint : goal.take-first-requires-clause-disjoint
take-first-requires-clause-disjoint g c = apart_none low c.in_ok-range.range.allocated c.in_ok-range.ensures.none_allocated

pub take-second-requires-clause-disjoint : goal.take-second-requires-clause-disjoint
take-second-requires-clause-disjoint g c =
    apart_more high low c.take-first.new.self.allocated c.in_ok-range.range.allocated (ap (λ m. m.allocated) c.take-first.ensures.allocated) (inr (omega arith))
    (apart_none high c.in_ok-range.range.allocated c.in_ok-range.ensures.none_allocated)

pub put-requires-clause-piece : goal.put-requires-clause-piece
put-requires-clause-piece g c =
    let second = ap (λ m. m.allocated) c.take-second.ensures.allocated in let first = ap (λ m. high ∷ m.allocated) c.take-first.ensures.allocated in
    has_second _ low high c.take-second.new.self.allocated c.in_ok-range.range.allocated (second ∙ first) (same_place c.take-first.result _ ∙ c.take-first.ensures.extent)

pub put-requires-2-clause-piece : goal.put-requires-2-clause-piece
put-requires-2-clause-piece g c =
    let put = ap (λ m. m.allocated) c.put.ensures.back in
    let place_is = same_place c.take-first.result c.fill.new.self ∙ c.take-first.ensures.extent in
    let second = ap (λ m. m.allocated) c.take-second.ensures.allocated in let first = ap (λ m. high ∷ m.allocated) c.take-first.ensures.allocated in
    let none = ap (λ ps. high ∷ (low ∷ ps)) c.in_ok-range.ensures.none_allocated in
    has_first _ high c.put.new.self.allocated [] (put ∙ ap₂ (λ p ps. remove_extent p ps) place_is (second ∙ first ∙ none)) (same_place c.take-second.result _ ∙ c.take-second.ensures.extent)
