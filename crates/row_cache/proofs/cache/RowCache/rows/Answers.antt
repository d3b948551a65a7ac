use Rattle.std.proofs.Common.{◌≡◌, ◌≤◌, List, length, sym, ap, subst, ◌∙◌, arith}
use Rattle.std.proofs.lemmas.List.{length-map}
use Rattle.rows.specs.Row.{Row}
use Rattle.regions.specs.Shapes.{group_count}
use Rattle.regions.specs.Contents.{live_at}
use Rattle.row_cache.specs.Rows.{CacheState, AreGrouped, AreMetOnce, IsLinkedThrough, row_at, rows_of}
use Rattle.row_cache.specs.inside.Consistent.{rows_in}
use Rattle.row_cache.proofs.Caches.{rows_read}
use Rattle.row_cache.proofs.Reached.{linked_through, met_once}
use Rattle.row_cache.proofs.cache.RowCache.rows.Goals as goal

pub returns-clause-count : goal.returns-clause-count
returns-clause-count c =
    let t = c.self.inside.tables in let r = c.self.inside.region in
    let was : rows_in t r ≡ rows_of c.args.self.now = sym (rows_read t r c.self.invariant) ∙ ap rows_of c.self.view_is in
    c.len.ensures ∙ (sym (length-map t.recency (row_at (live_at r) t.places)) ∙ ap (λ (x : List Row). length x) was)

pub returns-clause-room : goal.returns-clause-room
returns-clause-room c =
    let t = c.self.inside.tables in let r = c.self.inside.region in
    let was : rows_in t r ≡ rows_of c.args.self.now = sym (rows_read t r c.self.invariant) ∙ ap rows_of c.self.view_is in
    let a = c.self.invariant.counted.tables.numbers in let count = a.count in let few = a.few in
    let seen : length (rows_of c.args.self.now) ≡ length (rows_in t r) = ap (λ (x : List Row). length x) (sym was) in
    let long : length (rows_in t r) ≡ length t.recency = length-map t.recency (row_at (live_at r) t.places) in
    let room = ap (λ (x : CacheState). x.room) c.self.view_is in
    omega (arith, count, few, seen, long, room)

pub returns-clause-linked : goal.returns-clause-linked
returns-clause-linked c =
    let t = c.self.inside.tables in let r = c.self.inside.region in
    subst (λ (x : CacheState). IsLinkedThrough x) c.self.view_is (linked_through t r c.self.invariant)

pub returns-clause-met : goal.returns-clause-met
returns-clause-met c =
    let t = c.self.inside.tables in let r = c.self.inside.region in
    subst (λ (x : CacheState). AreMetOnce x) c.self.view_is (met_once t r c.self.invariant)

pub returns-clause-groups : goal.returns-clause-groups
returns-clause-groups c =
    subst (λ (x : CacheState). (1 ≤ group_count x.region) × (group_count x.region ≤ 8)) c.self.view_is c.facts.ensures.groups

pub returns-clause-grouped : goal.returns-clause-grouped
returns-clause-grouped c = subst (λ (x : CacheState). AreGrouped x.region) c.self.view_is c.self.invariant.grouped
