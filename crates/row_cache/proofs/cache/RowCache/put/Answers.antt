use Rattle.std.proofs.Common.{◌≡◌, ◌+◌, ◌<◌, ◌↔◌, ◌⊎◌, List, true, length, sym, ap, subst, ◌∙◌}
use Rattle.std.specs.Prelude.{IfOk, IsErr}
use Rattle.rows.specs.Key.{in_table}
use Rattle.rows.specs.Row.{Row, size}
use Rattle.rows.specs.Apply as apply
use Rattle.regions.specs.Counts.{left}
use Rattle.regions.specs.Shapes.{shape}
use Rattle.row_cache.specs.Rows.{CacheState, group_for, rows_of, Stay}
use Rattle.row_cache.specs.inside.Consistent.{rows_in}
use Rattle.row_cache.proofs.Caches.{rows_read}
use Rattle.row_cache.specs.Rows.{reply_of}
use Rattle.row_cache.proofs.cache.RowCache.put.Goals as goal

pub put_row-requires-clause-room : goal.put_row-requires-clause-room
put_row-requires-clause-room c =
    let t = c.self.inside.tables in let r = c.self.inside.region in
    let was : rows_in t r ≡ rows_of c.args.self.now = sym (rows_read t r c.self.invariant) ∙ ap rows_of c.self.view_is in
    subst (λ (x : List Row). (apply.has (in_table c.args.table c.args.key.now) x ≡ true) ⊎ (length x < t.room)) (sym was)
    (subst (λ n. (apply.has (in_table c.args.table c.args.key.now) (rows_of c.args.self.now) ≡ true) ⊎ (length (rows_of c.args.self.now) < n)) (sym (ap (λ (x : CacheState). x.room) c.self.view_is)) c.requires.room)

pub returns-clause-rows : goal.returns-clause-rows
returns-clause-rows c =
    let t = c.self.inside.tables in let r = c.self.inside.region in
    let was : rows_in t r ≡ rows_of c.args.self.now = sym (rows_read t r c.self.invariant) ∙ ap rows_of c.self.view_is in
    let u = c.put_row.new.tables in let s = c.put_row.new.region in
    let now = rows_read u s c.put_row.ensures.consistent in
    subst (λ (x : List Row). IfOk c.put_row.result (λ _. x ≡ (apply.put (in_table c.args.table c.args.key.now) c.args.value.now c.args.number (rows_of c.args.self.now)).0)) (sym now)
    (subst (λ (x : List Row). IfOk c.put_row.result (λ _. rows_in u s ≡ (apply.put (in_table c.args.table c.args.key.now) c.args.value.now c.args.number x).0)) was c.put_row.ensures.rows)

pub returns-clause-reply : goal.returns-clause-reply
returns-clause-reply c =
    let t = c.self.inside.tables in let r = c.self.inside.region in
    let was : rows_in t r ≡ rows_of c.args.self.now = sym (rows_read t r c.self.invariant) ∙ ap rows_of c.self.view_is in
    subst (λ (x : List Row). IfOk c.put_row.result (λ did. reply_of did ≡ (apply.put (in_table c.args.table c.args.key.now) c.args.value.now c.args.number x).1)) was c.put_row.ensures.reply

pub group_for-group-requires : goal.group_for-group-requires
group_for-group-requires c = c.self.invariant.some

-- the group is the one of the table
pub returns-clause-full : goal.returns-clause-full
returns-clause-full c =
    let r = c.self.inside.region in let bytes = size c.args.key.now c.args.value.now in
    subst (λ (x : CacheState). IsErr c.put_row.result ↔ (left x.region (group_for x.region c.args.table) < bytes)) c.self.view_is
    (subst (λ g. IsErr c.put_row.result ↔ (left r g < bytes)) c.group_for-group.ensures.group c.put_row.ensures.full)

pub returns-clause-left : goal.returns-clause-left
returns-clause-left c =
    let r = c.self.inside.region in let s = c.put_row.new.region in let bytes = size c.args.key.now c.args.value.now in
    subst (λ (x : CacheState). IfOk c.put_row.result (λ _. left s (group_for x.region c.args.table) + bytes ≡ left x.region (group_for x.region c.args.table))) c.self.view_is
    (subst (λ g. IfOk c.put_row.result (λ _. left s g + bytes ≡ left r g)) c.group_for-group.ensures.group c.put_row.ensures.left)

pub returns-clause-keeps : goal.returns-clause-keeps
returns-clause-keeps c =
    let s = c.put_row.new.region in let e = c.put_row.ensures.keeps in
    record {
      room = e.room ∙ ap (λ (x : CacheState). x.room) c.self.view_is;
      stay = subst (λ (x : CacheState). Stay x.region s) c.self.view_is e.stay;
    }

pub returns-clause-shape : goal.returns-clause-shape
returns-clause-shape c = c.put_row.ensures.keeps.shape ∙ ap (λ (x : CacheState). shape x.region) c.self.view_is
