use Rattle.std.proofs.Common.{◌≡◌, ℕ, ◌-◌, ◌≤◌, length, take, List, [], ◌∷◌, Some, None, true, false, refl, sym, ap, subst, ◌∙◌, arith}
use Rattle.std.specs.List.{last_or}
use Rattle.std.proofs.lemmas.List.{length-map, length-take}
use Rattle.rows.specs.Row.{is_of_put, Row}
use Rattle.common_lemmas.specs.Lists.{delete}
use Rattle.regions.specs.Contents.{live_at}
use Rattle.regions.specs.Shapes.{shape}
use Rattle.row_cache.specs.Rows.{CacheState, row_at, rows_of, Stay}
use Rattle.row_cache.specs.inside.Consistent.{rows_in, rows_with}
use Rattle.row_cache.proofs.Caches.{no_numbers, rows_read}
use Rattle.row_cache.specs.inside.Tables.{IsListed}
use Rattle.row_cache.proofs.Listed.{last_listed}
use Rattle.row_cache.proofs.Looked.{last_put, rows_before_last}
use Rattle.row_cache.proofs.Placed.{stays_same}
use Rattle.row_cache.proofs.cache.RowCache.evict_last.Goals as goal

pub put_of-put-requires : goal.put_of-put-requires
put_of-put-requires c = let t = c.self.inside.tables in c.self.invariant.counted.tables.rows c.in_ok-row.row (last_listed c.in_ok-row.row t.recency c.in_ok-row.ensures)

pub row_at-found-requires-clause-listed : goal.row_at-found-requires-clause-listed
row_at-found-requires-clause-listed c = last_listed c.in_ok-row.row c.self.inside.tables.recency c.in_ok-row.ensures

pub drop_row-requires-clause-listed : goal.drop_row-requires-clause-listed
drop_row-requires-clause-listed c =
    let t = c.self.inside.tables in
    subst (λ n. IsListed t n) (sym c.row_at-found.ensures.row) (last_listed c.in_ok-row.row t.recency c.in_ok-row.ensures)

pub row_at-found-requires-clause-tables : goal.row_at-found-requires-clause-tables
row_at-found-requires-clause-tables c = c.self.invariant.counted.tables

pub returns-clause-last : goal.returns-clause-last
returns-clause-last c =
    let t = c.self.inside.tables in let r = c.self.inside.region in
    let was : rows_in t r ≡ rows_of c.args.self.now = sym (rows_read t r c.self.invariant) ∙ ap rows_of c.self.view_is in
    subst (λ (x : List Row). is_of_put c.put_of-put.result (last_or None x) ≡ true) was
    (last_put t r c.in_ok-row.row c.put_of-put.result c.in_ok-row.ensures c.put_of-put.ensures)

pub returns-clause-rows : goal.returns-clause-rows
returns-clause-rows c = λ _.
    let t = c.self.inside.tables in let r = c.self.inside.region in
    let was : rows_in t r ≡ rows_of c.args.self.now = sym (rows_read t r c.self.invariant) ∙ ap rows_of c.self.view_is in
    rows_read c.drop_row.new.tables c.drop_row.new.region c.drop_row.ensures.consistent
    ∙ (c.drop_row.ensures.rows
    ∙ (ap (λ m. rows_with t r (delete m t.recency)) c.row_at-found.ensures.row
    ∙ (rows_before_last t r c.in_ok-row.row c.self.invariant.counted.tables c.in_ok-row.ensures ∙ ap (λ (x : List Row). take (length x - 1) x) was)))

pub returns-clause-none : goal.returns-clause-none
returns-clause-none c = (
  λ e. absurd (let clash : true ≡ false = e in cc),
  λ e.
      (let t = c.self.inside.tables in let r = c.self.inside.region in
      let was : rows_in t r ≡ rows_of c.args.self.now = sym (rows_read t r c.self.invariant) ∙ ap rows_of c.self.view_is in
      let empty = no_numbers t r (was ∙ e) in
      let last : last_or None t.recency ≡ Some c.in_ok-row.row = c.in_ok-row.ensures in
      absurd (let clash : None ≡ Some c.in_ok-row.row = sym (ap (λ ns. last_or None ns) empty) ∙ last in cc)),
)

some_last : (xs : List ℕ) (n : ℕ) → last_or None xs ≡ Some n → 1 ≤ length xs
some_last [] n e = absurd (let clash : None ≡ Some n = e in cc)
some_last (x ∷ xs) n e = omega arith

pub returns-clause-few : goal.returns-clause-few
returns-clause-few c = λ _.
    let t = c.self.inside.tables in let r = c.self.inside.region in let a = c.self.invariant.counted.tables.numbers in
    let was : rows_in t r ≡ rows_of c.args.self.now = sym (rows_read t r c.self.invariant) ∙ ap rows_of c.self.view_is in
    let long : length (rows_of c.args.self.now) ≡ length t.recency = ap (λ (x : List Row). length x) (sym was) ∙ length-map t.recency (row_at (live_at r) t.places) in
    let some = some_last t.recency c.in_ok-row.row c.in_ok-row.ensures in
    let left = ap (λ (x : List Row). length x) (returns-clause-rows c refl) ∙ length-take (length (rows_of c.args.self.now) - 1) (rows_of c.args.self.now) in
    let count = a.count in let few = a.few in let room = c.drop_row.ensures.keeps.room in
    omega (arith, long, some, left, count, few, room)

pub returns-in_err-row-clause-keeps : goal.returns-in_err-row-clause-keeps
returns-in_err-row-clause-keeps c = (let r = c.args.self.now.region in record { room = refl; stay = stays_same r r refl })

pub returns-clause-keeps : goal.returns-clause-keeps
returns-clause-keeps c =
    let s = c.drop_row.new.region in let e = c.drop_row.ensures.keeps in
    record {
      room = e.room ∙ ap (λ (x : CacheState). x.room) c.self.view_is;
      stay = subst (λ (x : CacheState). Stay x.region s) c.self.view_is e.stay;
    }

pub returns-clause-shape : goal.returns-clause-shape
returns-clause-shape c = c.drop_row.ensures.keeps.shape ∙ ap (λ (x : CacheState). shape x.region) c.self.view_is
