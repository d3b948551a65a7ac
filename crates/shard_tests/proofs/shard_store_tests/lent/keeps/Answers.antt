use Rattle.std.proofs.Common.{◌≡◌, ◌≤◌, inr, sym, ap, ◌∙◌, subst}
use Rattle.regions.specs.Shapes.{guards_at, guards_in, guards_of, shape}
use Rattle.shard_store.specs.Stores.{group_for}
use Rattle.shard_tests.proofs.shard_store_tests.lent.keeps.Goals as goal

pub value_at-requires-clause-row : goal.value_at-requires-clause-row
value_at-requires-clause-row c = let found = c.in-Some.ensures.found in (found.0, c.lend_often.ensures.stay.each c.in-Some.place found.0 found.2)

-- the place is under as many guards as before, which are those of the table's group
pub value_at-requires-clause-live : goal.value_at-requires-clause-live
value_at-requires-clause-live c =
    let found = c.in-Some.ensures.found in let store = c.args.store.now in let segment = c.in-Some.place.segment in
    let same = c.lend_often.ensures.stay.guarded c.in-Some.place found.0 found.2 in
    let here : guards_at store.region segment ≡ guards_of store.region (group_for store c.args.table) = ap (guards_in (shape store.region).groups) c.in-Some.ensures.group in
    inr (subst (λ n. 1 ≤ n) (sym (same ∙ here)) c.requires.guarded)
