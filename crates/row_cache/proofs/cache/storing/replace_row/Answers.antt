use Rattle.std.proofs.Common.{◌≡◌, ◌+◌, ◌∷◌, ℕ, List, Some, map, refl, sym, ap, subst, ◌∙◌, arith}
use Rattle.std.specs.Prelude.{slice_get}
use Rattle.common_lemmas.specs.Lists.{delete}
use Rattle.rows.specs.Row.{Row, size}
use Rattle.regions.specs.Segments.{RegionState}
use Rattle.regions.specs.Counts.{live_total}
use Rattle.regions.specs.Shapes.{HasGroup}
use Rattle.regions.specs.Contents.{live_at, size_of, Item}
use Rattle.regions.specs.Stores.{Live}
use Rattle.regions.specs.declared.place.Place.{Place}
use Rattle.row_cache.specs.Rows.{AreRelinked, key_at}
use Rattle.row_cache.specs.inside.Chained.{IsLinkedBut, place_in}
use Rattle.row_cache.specs.inside.Consistent.{IsConsistent, IsCounted, rows_with}
use Rattle.row_bytes.specs.NewRows.{row_of}
use Rattle.row_cache.specs.inside.Tables.{AreTablesOf, HoldsARow, IsListed, ReplacesRow, TableState}
use Rattle.row_cache.proofs.Caches.{counted_relinked, of_some, relinked_rows, rows_relinked, rows_replaced, consistent_replaced}
use Rattle.row_cache.proofs.Kept.{chain_on, lacks_dead, same_past_both}
use Rattle.row_cache.proofs.Numbered.{others_lack}
use Rattle.row_cache.proofs.Placed.{stays_same}
use Rattle.row_cache.proofs.Relinked.{relinked_grouped, relinked_left, relinked_lives, relinked_stay, relinked_total, same_rows, stay_again}
use Rattle.row_cache.proofs.States.{some_same}
use Rattle.row_cache.specs.inside.Tables.{SwapsRow}
use Rattle.row_cache.proofs.Groups.{group_kept, has_group_for, some_kept}
use Rattle.row_cache.proofs.cache.storing.replace_row.Goals as goal

-- the tables once the row is unlinked
counted : (t u : TableState) (r s : RegionState) → IsConsistent t r → AreRelinked r s → AreTablesOf u (live_at s) → u ≡ record t { ends = u.ends } → IsCounted u s
counted t u r s c same are state =
    counted_relinked t u r s c.counted same are (ap (λ (x : TableState). x.recency) state) (ap (λ (x : TableState). x.places) state)

listed_still : (t u : TableState) (n : ℕ) → u ≡ record t { ends = u.ends } → IsListed t n → IsListed u n
listed_still t u n state l = subst (λ (x : TableState). IsListed x n) (sym state) l

row_here : (t : TableState) (live : Live) (n : ℕ) (p : Place) → AreTablesOf t live → IsListed t n → slice_get t.places n ≡ Some p → HoldsARow (live p)
row_here t live n p are l here =
    (let h = are.rows n l in record { item = h.item; is = ap live (some_same here h.placed) ∙ h.is_live; number = n; row = h.row; is_row = h.is_row })

replaces : (t u : TableState) (r m : RegionState) (n : ℕ) (from to : Place) (row : Row) (new : Live) → AreRelinked r m → u ≡ record t { ends = u.ends } → AreTablesOf u (live_at m)
    → slice_get u.places n ≡ Some from → SwapsRow from to n row (live_at m) new → key_at (live_at r) t.places n ≡ row.key → ReplacesRow u n to row (live_at m) new
replaces t u r m n from to row new same state are was swapped key = record {
  tables = are;
  item = swapped.item;
  is_row = swapped.is_row;
  from = from;
  was = was;
  replaces = swapped.replaces;
  key = ap (λ (ps : List Place). key_at (live_at m) ps n) (ap (λ (x : TableState). x.places) state)
      ∙ (ap (λ (f : ℕ → Row). (f n).key) (same_rows (live_at r) (live_at m) t.places (relinked_lives r m same)) ∙ key);
}

swapped_chain : (t : TableState) (old new : Live) (n : ℕ) (from to : Place) (row : Row) → AreTablesOf t old → IsListed t n → slice_get t.places n ≡ Some from → SwapsRow from to n row old new
    → IsLinkedBut n t old → IsLinkedBut n t new
swapped_chain t old new n from to row are l here swapped c =
    let ps = map (place_in t.places) (delete n t.recency) in let x = swapped.replaces in
    chain_on old new t.ends ps (same_past_both from to old new ps x.others (others_lack t old n from are l here) (lacks_dead old to ps x.absent c.rows)) c

pub swap_row-requires-clause-old : goal.swap_row-requires-clause-old
swap_row-requires-clause-old c =
    let n = c.args.number in let u = c.unlink.new.self in
    row_here u (live_at c.unlink.new.region) n c.place.result c.unlink.ensures.tables (listed_still c.args.tables.now u n c.unlink.ensures.state c.requires.listed) c.place.ensures

pub replace-requires-clause-replaces : goal.replace-requires-clause-replaces
replace-requires-clause-replaces c =
    let e = c.unlink.ensures in let row : Row = row_of c.args.row in
    record {
      row = row;
      old = live_at c.unlink.new.region;
      replaces = replaces c.args.tables.now c.unlink.new.self c.args.region.now c.unlink.new.region c.args.number c.place.result c.in-Ok.place row (live_at c.swap_row.new.region)
          e.same e.state e.tables c.place.ensures c.in-Ok.ensures.swapped c.requires.key;
    }

pub replace-requires-clause-linked : goal.replace-requires-clause-linked
replace-requires-clause-linked c =
    let e = c.unlink.ensures in let n = c.args.number in let u = c.unlink.new.self in
    swapped_chain u (live_at c.unlink.new.region) (live_at c.swap_row.new.region) n c.place.result c.in-Ok.place (row_of c.args.row) e.tables
    (listed_still c.args.tables.now u n e.state c.requires.listed) c.place.ensures c.in-Ok.ensures.swapped e.linked

pub returns-clause-rows : goal.returns-clause-rows
returns-clause-rows c =
    let t = c.args.tables.now in let u = c.unlink.new.self in let x = c.replace.new.self in let r = c.args.region.now in let m = c.unlink.new.region in let s = c.swap_row.new.region in
    let n = c.args.number in let e = c.unlink.ensures in let row : Row = row_of c.args.row in
    let made = replaces t u r m n c.place.result c.in-Ok.place row (live_at s) e.same e.state e.tables c.place.ensures c.in-Ok.ensures.swapped c.requires.key in
    relinked_rows s c.replace.new.region x.places x.recency c.replace.ensures.relinks.same
    ∙ (rows_replaced u x n c.in-Ok.place row (live_at m) (live_at s) made (listed_still t u n e.state c.requires.listed) c.replace.ensures.recency c.replace.ensures.places
    ∙ ap (λ (rs : List Row). row ∷ rs) (ap (λ ns. rows_with u m (delete n ns)) (ap (λ (y : TableState). y.recency) e.state)
    ∙ rows_relinked t u r m (delete n t.recency) e.same (ap (λ (y : TableState). y.places) e.state)))

pub returns-clause-consistent : goal.returns-clause-consistent
returns-clause-consistent c =
    let t = c.args.tables.now in let u = c.unlink.new.self in let x = c.replace.new.self in let r = c.args.region.now in let m = c.unlink.new.region in let s = c.swap_row.new.region in
    let n = c.args.number in let e = c.unlink.ensures in let row : Row = row_of c.args.row in let did = c.in-Ok in let d = did.ensures in
    let i = counted t u r m c.requires.consistent e.same e.tables e.state in
    let listed = listed_still t u n e.state c.requires.listed in
    let h = i.tables.rows n listed in
    let made = replaces t u r m n c.place.result did.place row (live_at s) e.same e.state e.tables c.place.ensures d.swapped c.requires.key in
    let here : live_at m c.place.result ≡ Some h.item = ap (live_at m) (some_same c.place.ensures h.placed) ∙ h.is_live in
    let total = of_some (λ (item : Item). live_total s + size_of item ≡ live_total m + size c.args.row.key.now c.args.row.value.now) (live_at m c.place.result) h.item d.live here in
    let rows = relinked_rows s c.replace.new.region x.places x.recency c.replace.ensures.relinks.same
    ∙ rows_replaced u x n did.place row (live_at m) (live_at s) made listed c.replace.ensures.recency c.replace.ensures.places in
    let more = relinked_total s c.replace.new.region c.replace.ensures.relinks.same in
    record {
      counted = consistent_replaced u x m c.replace.new.region n row i listed c.replace.ensures.relinks.tables
          rows (omega (arith, total, more));
      chain = c.replace.ensures.relinks.linked;
      some = some_kept r c.replace.new.region (c.replace.ensures.relinks.same.shape ∙ (d.shape ∙ e.same.shape)) c.requires.consistent.some;
      grouped = relinked_grouped s c.replace.new.region c.replace.ensures.relinks.same (d.grouped (relinked_grouped r m e.same c.requires.consistent.grouped));
    }

pub returns-then-left-size-clause-keeps : goal.returns-then-left-size-clause-keeps
returns-then-left-size-clause-keeps c = (let r = c.args.region.now in record { room = refl; shape = refl; stay = stays_same r r refl })

pub returns-clause-keeps : goal.returns-clause-keeps
returns-clause-keeps c =
    let r = c.args.region.now in let m = c.unlink.new.region in let s = c.swap_row.new.region in let x = c.replace.new.region in
    let e = c.unlink.ensures in let d = c.in-Ok.ensures in let f = c.replace.ensures in
    record {
      room = f.room ∙ ap (λ (y : TableState). y.room) e.state;
      shape = f.relinks.same.shape ∙ (d.shape ∙ e.same.shape);
      stay = stay_again r s x (stay_again r m s (relinked_stay r m e.same) d.stay) (relinked_stay s x f.relinks.same);
    }

pub left-requires : goal.left-requires
left-requires c =
    let r = c.args.region.now in subst (λ g. HasGroup r g) (sym c.requires.group) (has_group_for r c.args.row.table c.requires.consistent.some)

pub swap_row-requires-clause-some : goal.swap_row-requires-clause-some
swap_row-requires-clause-some c = some_kept c.args.region.now c.unlink.new.region c.unlink.ensures.same.shape c.requires.consistent.some

pub swap_row-requires-clause-group : goal.swap_row-requires-clause-group
swap_row-requires-clause-group c =
    c.requires.group ∙ sym (group_kept c.args.region.now c.unlink.new.region c.args.row.table c.unlink.ensures.same.shape)

pub returns-clause-left : goal.returns-clause-left
returns-clause-left c =
    let before = relinked_left c.args.region.now c.unlink.new.region c.unlink.ensures.same c.args.group in
    let after = relinked_left c.swap_row.new.region c.replace.new.region c.replace.ensures.relinks.same c.args.group in
    let did = c.in-Ok.ensures.left in
    omega (arith, before, after, did)
