use Rattle.std.proofs.Common.{List, length, sym, ap, ◌∙◌, arith}
use Rattle.regions.specs.Contents.{live_at}
use Rattle.regions.specs.declared.place.Place.{Place}
use Rattle.fragments.proofs.Dropping.{all_dropped, empty_chain, none_dropped, one_dropped, total_dropped}
use Rattle.fragments.proofs.store.writing.drop_value.Goals as goal

pub loop-place-init : goal.loop-place-init
loop-place-init c = none_dropped c.args.tables.now c.args.region.now c.args.name c.requires.chains

pub drop_front-requires-clause-chains : goal.drop_front-requires-clause-chains
drop_front-requires-clause-chains c = (let d = c.loop-place.invariant in d.chains)

pub drop_front-requires-clause-first : goal.drop_front-requires-clause-first
drop_front-requires-clause-first c = sym c.first.ensures.place ∙ c.in-Some.is

pub loop-place-preserved : goal.loop-place-preserved
loop-place-preserved c =
    let e = c.drop_front.ensures in
    one_dropped c.args.tables.now c.loop-place.tables c.drop_front.new.self c.args.region.now c.loop-place.region c.drop_front.new.region c.args.name c.in-Some.place c.loop-place.invariant
    (sym c.first.ensures.place ∙ c.in-Some.is) e.chains e.names e.grows e.others e.shape e.stay e.parts e.live_total

pub loop-place-smaller : goal.loop-place-smaller
loop-place-smaller c = (let e = c.drop_front.ensures in let fewer = ap (λ (ps : List Place). length ps) e.shorter in omega (arith, fewer))

pub returns-clause-none : goal.returns-clause-none
returns-clause-none c = (let d = c.loop-place.invariant in empty_chain c.loop-place.tables (live_at c.loop-place.region) c.args.name d.chains (sym c.first.ensures.place ∙ c.in_default.is))

pub returns-clause-parts : goal.returns-clause-parts
returns-clause-parts c =
    (let d = c.loop-place.invariant in
    let empty = empty_chain c.loop-place.tables (live_at c.loop-place.region) c.args.name d.chains (sym c.first.ensures.place ∙ c.in_default.is) in
    all_dropped c.args.tables.now c.loop-place.tables c.args.region.now c.loop-place.region c.args.name d empty)

pub returns-clause-live_total : goal.returns-clause-live_total
returns-clause-live_total c =
    (let d = c.loop-place.invariant in
    let empty = empty_chain c.loop-place.tables (live_at c.loop-place.region) c.args.name d.chains (sym c.first.ensures.place ∙ c.in_default.is) in
    total_dropped c.args.tables.now c.loop-place.tables c.args.region.now c.loop-place.region c.args.name d empty)

pub returns-clause-entries : goal.returns-clause-entries
returns-clause-entries c = c.first.ensures.entries
