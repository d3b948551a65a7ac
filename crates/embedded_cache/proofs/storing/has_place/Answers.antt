use Rattle.std.proofs.Common.{inl, sym, ◌∙◌}
use Rattle.std.specs.Prelude.{IsSome}
use Rattle.rows.specs.Key.{in_table}
use Rattle.rows.specs.Row.{Row}
use Rattle.regions.specs.Contents.{live_at}
use Rattle.regions.specs.declared.place.Place.{Place}
use Rattle.row_cache.specs.Rows.{StandsAt}
use Rattle.embedded_cache.proofs.Gone.{looked_up}
use Rattle.embedded_cache.proofs.storing.has_place.Goals as goal

pub returns-clause-place : goal.returns-clause-place
returns-clause-place c = λ yes.
    (let s = c.args.store.now in let Q = λ (p : Place) (row : Row). IsSome (live_at s.region p) in
    inl (looked_up c.place_of.result (in_table c.args.table c.args.key.now) s.rows (StandsAt s.region) Q c.place_of.ensures.found ∙ (sym c.is_some.ensures ∙ yes)))

pub returns-clause-full : goal.returns-clause-full
returns-clause-full c = λ no.
    (let s = c.args.store.now in let Q = λ (p : Place) (row : Row). IsSome (live_at s.region p) in
    (looked_up c.place_of.result (in_table c.args.table c.args.key.now) s.rows (StandsAt s.region) Q c.place_of.ensures.found ∙ (sym c.is_some.ensures ∙ no), c.is_full.ensures.full c.if-not-is_full.false))
