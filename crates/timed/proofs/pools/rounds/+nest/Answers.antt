-- The object that was taken is allocated until it is put back.
use Rattle.std.proofs.Common.{ap, ◌∙◌}
use Rattle.std.specs.FinMap as map
use Rattle.common_lemmas.proofs.Maps.{inserted_is_some, remove-insert}
use Rattle.timed.proofs.pools.rounds.+nest.Goals as goal

pub put-requires : goal.put-requires
put-requires t c = rw (c.nest-drawn.ensures.allocated, c.in-Some.ensures.allocated) (inserted_is_some _ _ _)

pub returns-clause-allocated : goal.returns-clause-allocated
returns-clause-allocated t c =
    c.put.ensures.allocated
    ∙ ap (λ allocated. map.remove allocated c.in-Some.place) (c.nest-drawn.ensures.allocated ∙ c.in-Some.ensures.allocated)
    ∙ remove-insert _ _ _ c.in-Some.ensures.was_free
