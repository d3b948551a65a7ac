use Rattle.std.proofs.Common.{◌≡◌, ◌+◌, ℕ, Some, map, sym, ap, subst, ◌∙◌}
use Rattle.std.specs.Prelude.{slice_get}
use Rattle.common_lemmas.specs.Lists.{delete}
use Rattle.key_table.specs.declared.entries.RowAt.{RowAt}
use Rattle.regions.specs.Segments.{RegionState}
use Rattle.regions.specs.Counts.{live_total}
use Rattle.regions.specs.Contents.{live_at, size_of, Item}
use Rattle.regions.specs.Stores.{Live}
use Rattle.regions.specs.declared.place.Place.{Place}
use Rattle.row_cache.specs.Rows.{AreRelinked}
use Rattle.row_cache.specs.inside.Chained.{IsChain, IsLinked, IsLinkedBut, place_in}
use Rattle.row_cache.specs.inside.Consistent.{IsConsistent, IsCounted, rows_with}
use Rattle.row_cache.specs.inside.Tables.{AreTablesOf, Drops, HoldsARow, IsListed, TableState}
use Rattle.row_cache.proofs.Caches.{counted_relinked, of_some, rows_dropped, rows_relinked, consistent_dropped}
use Rattle.row_cache.proofs.Kept.{chain_on, same_past}
use Rattle.row_cache.proofs.Numbered.{others_lack}
use Rattle.row_cache.proofs.Relinked.{relinked_grouped, relinked_left, relinked_stay, stay_again}
use Rattle.row_cache.proofs.States.{some_same}
use Rattle.row_cache.proofs.Groups.{some_kept}
use Rattle.row_cache.proofs.cache.storing.drop_row.Goals as goal

-- the tables once the row is unlinked
counted : (t u : TableState) (r s : RegionState) → IsConsistent t r → AreRelinked r s → AreTablesOf u (live_at s) → u ≡ record t { ends = u.ends } → IsCounted u s
counted t u r s c same are state =
    counted_relinked t u r s c.counted same are (ap (λ (x : TableState). x.recency) state) (ap (λ (x : TableState). x.places) state)

listed_still : (t u : TableState) (n : ℕ) → u ≡ record t { ends = u.ends } → IsListed t n → IsListed u n
listed_still t u n state l = subst (λ (x : TableState). IsListed x n) (sym state) l

row_here : (t : TableState) (live : Live) (n : ℕ) (p : Place) → AreTablesOf t live → IsListed t n → slice_get t.places n ≡ Some p → HoldsARow (live p)
row_here t live n p are l here =
    (let h = are.rows n l in record { item = h.item; is = ap live (some_same here h.placed) ∙ h.is_live; number = n; row = h.row; is_row = h.is_row })

dropped_chain : (t u : TableState) (old new : Live) (n : ℕ) (p : Place) → AreTablesOf t old → IsListed t n → slice_get t.places n ≡ Some p → Drops p old new → IsLinkedBut n t old
    → u.ends ≡ t.ends → u.places ≡ t.places → u.recency ≡ delete n t.recency → IsLinked u new
dropped_chain t u old new n p are l here drops c ends places recency =
    let ps = map (place_in t.places) (delete n t.recency) in
    let now = chain_on old new t.ends ps (same_past p old new ps drops.others (others_lack t old n p are l here)) c in
    subst (λ e. IsChain new e (map (place_in u.places) u.recency)) (sym ends)
    (subst (λ qs. IsChain new t.ends (map (place_in qs) u.recency)) (sym places) (subst (λ ns. IsChain new t.ends (map (place_in t.places) ns)) (sym recency) now))

pub kill_row-requires : goal.kill_row-requires
kill_row-requires c =
    let n = c.args.found.row in let u = c.unlink.new.self in
    row_here u (live_at c.unlink.new.region) n c.place.result c.unlink.ensures.tables (listed_still c.args.tables.now u n c.unlink.ensures.state c.requires.listed) c.place.ensures

pub returns-clause-rows : goal.returns-clause-rows
returns-clause-rows c =
    let t = c.args.tables.now in let u = c.unlink.new.self in let r = c.args.region.now in let m = c.unlink.new.region in let n = c.args.found.row in let e = c.unlink.ensures in
    let recency = ap (λ (x : TableState). x.recency) e.state in
    rows_dropped u c.remove.new.self m c.kill_row.new.region n c.place.result e.tables (listed_still t u n e.state c.requires.listed) c.place.ensures c.kill_row.ensures.dropped
    (c.remove.ensures.recency ∙ ap (λ (f : RowAt). delete f.row u.recency) c.standing-standing.ensures.found) c.remove.ensures.places
    ∙ (ap (λ ns. rows_with u m (delete n ns)) recency ∙ rows_relinked t u r m (delete n t.recency) e.same (ap (λ (x : TableState). x.places) e.state))

pub returns-clause-consistent : goal.returns-clause-consistent
returns-clause-consistent c =
    let t = c.args.tables.now in let u = c.unlink.new.self in let r = c.args.region.now in let m = c.unlink.new.region in let s = c.kill_row.new.region in let n = c.args.found.row in
    let e = c.unlink.ensures in let k = c.kill_row.ensures in
    let i = counted t u r m c.requires.consistent e.same e.tables e.state in
    let listed = listed_still t u n e.state c.requires.listed in
    let h = i.tables.rows n listed in
    let at = some_same c.place.ensures h.placed in
    let there : live_at m c.place.result ≡ Some h.item = ap (live_at m) at ∙ h.is_live in
    let total = of_some (λ (item : Item). live_total s + size_of item ≡ live_total m) (live_at m c.place.result) h.item k.live there in
    let recency = c.remove.ensures.recency ∙ ap (λ (f : RowAt). delete f.row u.recency) c.standing-standing.ensures.found in
    let rows = rows_dropped u c.remove.new.self m s n c.place.result e.tables listed c.place.ensures k.dropped recency c.remove.ensures.places in
    record {
      counted = consistent_dropped u c.remove.new.self m s n i listed
          (c.remove.ensures.tables c.place.result (live_at m) (live_at s) i.tables (ap (λ (f : RowAt). slice_get u.places f.row) c.standing-standing.ensures.found ∙ c.place.ensures) k.dropped)
          rows total;
      chain = dropped_chain u c.remove.new.self (live_at m) (live_at s) n c.place.result i.tables listed c.place.ensures k.dropped e.linked c.remove.ensures.ends c.remove.ensures.places recency;
      some = some_kept r s (k.shape ∙ e.same.shape) c.requires.consistent.some;
      grouped = k.grouped (relinked_grouped r m e.same c.requires.consistent.grouped);
    }

pub returns-clause-left : goal.returns-clause-left
returns-clause-left c = λ g. c.kill_row.ensures.left g ∙ relinked_left c.args.region.now c.unlink.new.region c.unlink.ensures.same g

pub returns-clause-keeps : goal.returns-clause-keeps
returns-clause-keeps c =
    let r = c.args.region.now in let m = c.unlink.new.region in let s = c.kill_row.new.region in let e = c.unlink.ensures in let k = c.kill_row.ensures in
    record {
      room = c.remove.ensures.room ∙ ap (λ (x : TableState). x.room) e.state;
      shape = k.shape ∙ e.same.shape;
      stay = stay_again r m s (relinked_stay r m e.same) k.stay;
    }
