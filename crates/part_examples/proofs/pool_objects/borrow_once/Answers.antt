-- The object that was taken is allocated until it is put back.
use Rattle.std.proofs.Common.{ap, ◌∙◌}
use Rattle.std.specs.FinMap as map
use Rattle.common_lemmas.proofs.Maps.{inserted_is_some, remove-insert}
use Rattle.part_examples.proofs.pool_objects.borrow_once.Goals as goal

pub take-requires-clause-class : goal.take-requires-clause-class
take-requires-clause-class c = c.in-Some.ensures.some.within

pub put-requires : goal.put-requires
put-requires c = rw c.in-Some-take.ensures.allocated (inserted_is_some _ _ _)

pub returns-clause-allocated : goal.returns-clause-allocated
returns-clause-allocated c =
    let taken = c.in-Some-take in
    c.trim.ensures.trims.allocated ∙ c.put.ensures.allocated ∙ ap (λ allocated. map.remove allocated taken.place) taken.ensures.allocated
    ∙ remove-insert _ _ _ taken.ensures.was_free
