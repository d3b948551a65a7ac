use Rattle.std.proofs.Common.{◌≡◌, ◌≢◌, ℕ, ◌+◌, ◌≤◌, ◌∷◌, List, length, Some, None, sym, ap, subst, ◌∙◌}
use Rattle.rows.specs.Key.{in_table}
use Rattle.rows.specs.Row.{Row}
use Rattle.rows.specs.Apply as apply
use Rattle.row_bytes.specs.Patches.{patch_where, with_patch}
use Rattle.row_bytes.specs.Rows.{row_in}
use Rattle.common_lemmas.specs.Lists.{delete, times}
use Rattle.regions.specs.Contents.{live_at}
use Rattle.regions.specs.Counts.{left}
use Rattle.regions.specs.Shapes.{shape}
use Rattle.row_cache.specs.Rows.{CacheState, content_at, row_at, row_there, rows_of}
use Rattle.row_cache.specs.inside.Consistent.{IsConsistent, rows_in, rows_with}
use Rattle.row_cache.specs.inside.Tables.{IsListed, TableState}
use Rattle.row_cache.proofs.Caches.{rows_read, rows_relinked}
use Rattle.row_cache.proofs.Groups.{some_kept}
use Rattle.row_cache.proofs.Listed.{listed_here, listed_later}
use Rattle.row_cache.proofs.Looked.{consistent_touched}
use Rattle.row_cache.proofs.Patched.{consistent_patched, left_patched, read_still, rows_patched}
use Rattle.row_cache.proofs.Relinked.{relinked_grouped, relinked_left}
use Rattle.row_cache.proofs.States.{some_none, some_same, still_listed}
use Rattle.row_cache.proofs.cache.RowCache.patch.Goals as goal

pub search-requires-clause-tables : goal.search-requires-clause-tables
search-requires-clause-tables c = c.self.invariant.counted.tables

pub touch-requires-clause-tables : goal.touch-requires-clause-tables
touch-requires-clause-tables c = c.self.invariant.counted.tables

pub unreachable-requires : goal.unreachable-requires
unreachable-requires c =
    let t = c.self.inside.tables in let r = c.self.inside.region in
    let was : rows_in t r ≡ rows_of c.args.self.now = sym (rows_read t r c.self.invariant) ∙ ap rows_of c.self.view_is in
    some_none c.requires.fits.1 (subst (λ (x : List Row). apply.row_of (in_table c.args.table c.args.key.now) x ≡ None) was c.in_default.ensures.row)

pub write_value-requires-clause-row : goal.write_value-requires-clause-row
write_value-requires-clause-row c =
    let t = c.self.inside.tables in let n = c.in-Ok.found.row in let u = c.touch.new.self in let s = c.touch.new.region in
    let listed : IsListed u n = subst (λ (x : TableState). IsListed x n) (sym c.touch.ensures.state) (listed_here n (delete n t.recency)) in
    let h = c.touch.ensures.relinks.tables.rows n listed in
    record { item = h.item; is = sym (ap (live_at s) (some_same h.placed c.place-place.ensures)) ∙ h.is_live; number = n; row = h.row; is_row = h.is_row }

pub write_value-requires-clause-within : goal.write_value-requires-clause-within
write_value-requires-clause-within c =
    let t = c.self.inside.tables in let r = c.self.inside.region in let n = c.in-Ok.found.row in let u = c.touch.new.self in let s = c.touch.new.region in
    let was : rows_in t r ≡ rows_of c.args.self.now = sym (rows_read t r c.self.invariant) ∙ ap rows_of c.self.view_is in
    let found = subst (λ (x : List Row). apply.row_of (in_table c.args.table c.args.key.now) x ≡ Some (row_at (live_at r) t.places n)) was c.in-Ok.ensures.row in
    let is : c.requires.fits.0 ≡ row_at (live_at r) t.places n = some_same c.requires.fits.1 found in
    let same = read_still t u r s n c.touch.ensures.relinks.same (ap (λ (x : TableState). x.places) c.touch.ensures.state) in
    let there : row_at (live_at s) u.places n ≡ row_there (live_at s) c.place-place.result = ap (λ o. row_in (content_at (live_at s) o)) c.place-place.ensures in
    subst (λ (x : Row). c.args.at + length c.args.bytes.now ≤ length x.value) (is ∙ (sym same ∙ there)) c.requires.fits.2

pub invariant_of-self : goal.invariant_of-self
invariant_of-self c =
    let t = c.self.inside.tables in let r = c.self.inside.region in let u = c.touch.new.self in let s = c.touch.new.region in let e = c.touch.ensures in let k = e.relinks in
    let i : IsConsistent u s = record {
      counted = consistent_touched t u r s c.in-Ok.found.row c.self.invariant.counted k.tables c.in-Ok.ensures.listed k.same
          (ap (λ (x : TableState). x.recency) e.state) (ap (λ (x : TableState). x.places) e.state);
      chain = k.linked;
      some = some_kept r s k.same.shape c.self.invariant.some;
      grouped = relinked_grouped r s k.same c.self.invariant.grouped;
    } in
    consistent_patched c.place-place.result c.args.at c.args.bytes.now s c.write_value.new.region c.write_value.ensures u i

pub returns-clause-rows : goal.returns-clause-rows
returns-clause-rows c =
    let t = c.self.inside.tables in let r = c.self.inside.region in let n = c.in-Ok.found.row in let u = c.touch.new.self in let s = c.touch.new.region in let z = c.write_value.new.region in
    let e = c.touch.ensures in let k = e.relinks in let at = c.args.at in let bytes = c.args.bytes.now in let key = in_table c.args.table c.args.key.now in
    let was : rows_in t r ≡ rows_of c.args.self.now = sym (rows_read t r c.self.invariant) ∙ ap rows_of c.self.view_is in
    let recency = ap (λ (x : TableState). x.recency) e.state in let places = ap (λ (x : TableState). x.places) e.state in
    let listed : IsListed u n = subst (λ (x : TableState). IsListed x n) (sym e.state) (listed_here n (delete n t.recency)) in
    let others : (m : ℕ) → 1 ≤ times m (delete n t.recency) → IsListed u m × (m ≢ n) = λ m l.
    (subst (λ (x : TableState). IsListed x m) (sym e.state) (listed_later m n (delete n t.recency) l), (still_listed t n m c.self.invariant.counted.tables.numbers c.in-Ok.ensures.listed l).1) in
    let found = subst (λ (x : List Row). apply.row_of key x ≡ Some (row_at (live_at r) t.places n)) was c.in-Ok.ensures.row in
    let row = c.requires.fits.0 in
    let is : row_at (live_at s) u.places n ≡ row = read_still t u r s n k.same places ∙ some_same found c.requires.fits.1 in
    rows_read u z (invariant_of-self c)
    ∙ (rows_patched c.place-place.result at bytes s z c.write_value.ensures u n (delete n t.recency) k.tables recency listed c.place-place.ensures others
    ∙ (ap (λ (x : Row). with_patch x at bytes ∷ rows_with u s (delete n t.recency)) is
    ∙ (ap (λ (rs : List Row). with_patch row at bytes ∷ rs) (rows_relinked t u r s (delete n t.recency) k.same places ∙ (sym c.in-Ok.ensures.without ∙ ap (apply.without key) was))
    ∙ sym (ap (λ o. patch_where o key at bytes (rows_of c.args.self.now)) c.requires.fits.1))))

pub returns-clause-shape : goal.returns-clause-shape
returns-clause-shape c = c.write_value.ensures.shape ∙ (c.touch.ensures.relinks.same.shape ∙ ap (λ (x : CacheState). shape x.region) c.self.view_is)

pub returns-clause-left : goal.returns-clause-left
returns-clause-left c = λ g.
    (left_patched c.place-place.result c.args.at c.args.bytes.now c.touch.new.region c.write_value.new.region c.write_value.ensures g
    ∙ (relinked_left c.self.inside.region c.touch.new.region c.touch.ensures.relinks.same g ∙ ap (λ (x : CacheState). left x.region g) c.self.view_is))
