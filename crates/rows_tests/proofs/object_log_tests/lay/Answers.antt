use Rattle.std.proofs.Common.{◌∷◌, [], refl, sym, subst, inl, arith}
use Rattle.object_log.specs.Objects.{live, StandsAt, LivesAt}
use Rattle.rows_tests.proofs.object_log_tests.lay.Goals as goal

first : LivesAt 0 (live 0 1 48 ∷ [])
first = (0, live 0 1 48, omega arith, refl, (refl, refl))

stands : StandsAt 0 (live 0 1 48 ∷ [])
stands = (0, live 0 1 48, omega arith, refl, refl)

pub read_descriptor-requires : goal.read_descriptor-requires
read_descriptor-requires c = let e = c.append-used.ensures in (c.append-used.result, e.segment, inl (subst (StandsAt 0) (sym e.added) stands))

pub returns : goal.returns
returns c = let e = c.append-used.ensures in (c.append-used.result, e.segment, subst (LivesAt 0) (sym e.added) first)
