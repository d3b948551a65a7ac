use Rattle.std.proofs.Common.{◌≡◌, List, length, take, filter, sym, ap, subst, ◌∙◌}
use Rattle.rows.specs.Row.{Row}
use Rattle.rows.specs.Apply as apply
use Rattle.regions.specs.Contents.{live_at}
use Rattle.row_cache.specs.Rows.{rows_at, rows_of}
use Rattle.row_cache.specs.inside.Consistent.{rows_in}
use Rattle.row_cache.proofs.Caches.{rows_read}
use Rattle.rows.specs.KeyBody.{AreKeys}
use Rattle.row_cache.proofs.cache.RowCache.scan.Goals as goal

pub returns-clause-count : goal.returns-clause-count
returns-clause-count c =
    let t = c.self.inside.tables in let r = c.self.inside.region in
    let was : rows_in t r ≡ rows_of c.args.self.now = sym (rows_read t r c.self.invariant) ∙ ap rows_of c.self.view_is in
    let u = c.settle.new.self in let e = c.settle.ensures in
    let rows : rows_at (live_at r) u.places u.recency ≡ rows_of c.args.self.now =
    ap (λ ns. rows_at (live_at r) u.places ns) e.recency ∙ (ap (λ ps. rows_at (live_at r) ps t.recency) e.places ∙ was) in
    let told = c.rows_from-rows.ensures.order ∙ ap (λ (x : List Row). apply.in_order (filter (apply.is_at_most c.args.lo.now) (apply.keys_in c.args.table x))) rows in
    c.write_keys.ensures.count ∙ ap (λ ks. length (take c.args.count ks)) told

pub returns-clause-keys : goal.returns-clause-keys
returns-clause-keys c =
    let t = c.self.inside.tables in let r = c.self.inside.region in
    let was : rows_in t r ≡ rows_of c.args.self.now = sym (rows_read t r c.self.invariant) ∙ ap rows_of c.self.view_is in
    let u = c.settle.new.self in let e = c.settle.ensures in
    let rows : rows_at (live_at r) u.places u.recency ≡ rows_of c.args.self.now =
    ap (λ ns. rows_at (live_at r) u.places ns) e.recency ∙ (ap (λ ps. rows_at (live_at r) ps t.recency) e.places ∙ was) in
    let told = c.rows_from-rows.ensures.order ∙ ap (λ (x : List Row). apply.in_order (filter (apply.is_at_most c.args.lo.now) (apply.keys_in c.args.table x))) rows in
    subst (λ ks. AreKeys (take c.write_keys.result.bytes c.write_keys.new.into) (take c.args.count ks)) told c.write_keys.ensures.keys
