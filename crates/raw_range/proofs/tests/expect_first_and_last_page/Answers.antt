use Rattle.std.proofs.Common.{◌≡◌, ℕ, ◌-◌, ◌*◌, ◌<◌, [], ◌∷◌, refl, ap, ap₂, ◌∙◌, inr, arith}
use Rattle.std.proofs.lemmas.Bool.{ne_eqb}
use Rattle.layout.specs.Extents.{Extent, extent}
use Rattle.raw_range.specs.Memory.{remove_extent}
use Rattle.raw_range.proofs.Calls.{apart_none, apart_more, has_first, has_second, same_place}
use Rattle.raw_range.proofs.tests.expect_first_and_last_page.Goals as goal

abbrev low : Extent
low = extent 0 4096

abbrev high : ℕ → Extent
high pages = extent (4096 * (pages - 1)) 4096

high_stays : (pages : ℕ) → 1 < pages → remove_extent low (high pages ∷ (low ∷ [])) ≡ high pages ∷ []
high_stays pages h = rw (ne_eqb (4096 * (pages - 1)) 0 (λ e. omega (arith, h, e))) refl

pub take-first-requires-clause-disjoint : goal.take-first-requires-clause-disjoint
take-first-requires-clause-disjoint g c = apart_none low c.in_ok-range.range.allocated c.in_ok-range.ensures.none_allocated

pub take-last-requires-clause-disjoint : goal.take-last-requires-clause-disjoint
take-last-requires-clause-disjoint g c =
    let last = high c.args.pages in
    apart_more last low c.take-first.new.self.allocated c.in_ok-range.range.allocated (ap (λ m. m.allocated) c.take-first.ensures.allocated) (inr (omega (arith, c.requires.0)))
    (apart_none last c.in_ok-range.range.allocated c.in_ok-range.ensures.none_allocated)

pub put-requires-clause-piece : goal.put-requires-clause-piece
put-requires-clause-piece g c =
    let p = high c.args.pages in
    let last = ap (λ m. m.allocated) c.take-last.ensures.allocated in let first = ap (λ m. p ∷ m.allocated) c.take-first.ensures.allocated in
    has_second _ low p c.take-last.new.self.allocated c.in_ok-range.range.allocated (last ∙ first) (same_place c.take-first.result _ ∙ c.take-first.ensures.extent)

pub put-requires-2-clause-piece : goal.put-requires-2-clause-piece
put-requires-2-clause-piece g c =
    let p = high c.args.pages in
    let put = ap (λ m. m.allocated) c.put.ensures.back in
    let place_is = same_place c.take-first.result c.fill.new.self ∙ c.take-first.ensures.extent in
    let last = ap (λ m. m.allocated) c.take-last.ensures.allocated in let first = ap (λ m. p ∷ m.allocated) c.take-first.ensures.allocated in
    let none = ap (λ ps. p ∷ (low ∷ ps)) c.in_ok-range.ensures.none_allocated in
    has_first _ p c.put.new.self.allocated [] (put ∙ ap₂ (λ p ps. remove_extent p ps) place_is (last ∙ first ∙ none) ∙ high_stays c.args.pages c.requires.0) (same_place c.take-last.result _ ∙ c.take-last.ensures.extent)
