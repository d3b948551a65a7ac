use Rattle.span_lists.proofs.Steps.{gave, allocated_of_coalesced, orders_after}
use Rattle.span_lists.proofs.spans.Spans.put.Goals as goal

pub release-requires-clause-allocated : goal.release-requires-clause-allocated
release-requires-clause-allocated c = allocated_of_coalesced _ _ _ _ _ _ c.coalesce-at.ensures.coalesces

pub returns-clause-allocated : goal.returns-clause-allocated
returns-clause-allocated c = (gave _ _ _ _ _ _ _ c.coalesce-at.ensures.coalesces c.coalesce-at.ensures.divided c.release.ensures.moves).1

pub returns-clause-free : goal.returns-clause-free
returns-clause-free c = (gave _ _ _ _ _ _ _ c.coalesce-at.ensures.coalesces c.coalesce-at.ensures.divided c.release.ensures.moves).0

pub returns-clause-pages : goal.returns-clause-pages
returns-clause-pages c = (gave _ _ _ _ _ _ _ c.coalesce-at.ensures.coalesces c.coalesce-at.ensures.divided c.release.ensures.moves).2

pub returns-clause-orders : goal.returns-clause-orders
returns-clause-orders c = λ k. orders_after _ _ _ _ k (returns-clause-free c)
