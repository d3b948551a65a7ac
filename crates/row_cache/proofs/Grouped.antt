-- Each row is of its table's group: where rows were moved, where there is none, and where one stands.
use Rattle.std.proofs.Common.{◌≡◌, ℕ, ◌%◌, ◌≤◌, List, Some, None, sym, ap, subst, ◌∙◌}
use Rattle.std.specs.Prelude.{replicate, slice_get}
use Rattle.common_lemmas.specs.Lists.{times}
use Rattle.rows.specs.Key.{Key}
use Rattle.rows.specs.Row.{Row}
use Rattle.row_bytes.specs.Rows.{row_in}
use Rattle.regions.specs.Segments.{RegionState, idle}
use Rattle.regions.specs.Shapes.{HasGroup, group_count, group_of}
use Rattle.regions.specs.Contents.{Item, live_at}
use Rattle.regions.specs.Stores.{store_of}
use Rattle.regions.specs.declared.place.Place.{Place}
use Rattle.row_cache.specs.Links.{bare}
use Rattle.row_cache.specs.Rows.{AreGrouped, group_for, key_at}
use Rattle.row_cache.specs.inside.Tables.{TableState, AreTablesOf, HasRow, IsListed, place_of}
use Rattle.row_cache.proofs.States.{row_is, some_none, some_same}
use Rattle.row_cache.proofs.Looked.{bare_read, none_new, stored_item}

-- rows are moved within their groups
pub grouped_moved : (t u : TableState) (r s : RegionState) → AreTablesOf t (live_at r) → AreTablesOf u (live_at s) → u.recency ≡ t.recency
    → ((n : ℕ) → store_of bare (place_of u) (live_at s) n ≡ store_of bare (place_of t) (live_at r) n) → group_count s ≡ group_count r → AreGrouped r → AreGrouped s
grouped_moved t u r s are now recency same groups all = λ p i e.
    (let w = now.every p i e in let n = w.0 in
    let listed : IsListed t n = subst (λ ns. 1 ≤ times n ns) recency w.1 in
    let a = are.rows n listed in let b = now.rows n w.1 in
    let here : b.item ≡ i = some_same b.is_live (ap (live_at s) (some_same b.placed w.2) ∙ e) in
    let items : bare b.item ≡ bare a.item = some_same (stored_item u (live_at s) now n w.1) (same n ∙ stored_item t (live_at r) are n listed) in
    let group : b.item.group ≡ a.item.group = ap (λ (x : Item). x.group) items in
    let row : row_in b.item.content ≡ row_in a.item.content =
    b.is_row.read
    ∙ (sym (bare_read b.item n b.row b.is_row)
    ∙ (ap (λ (x : Item). row_in x.content) items ∙ (bare_read a.item n a.row a.is_row ∙ sym a.is_row.read))) in
    subst (λ (x : Item). x.group ≡ Some ((row_in x.content).key.table % group_count s)) here
    (group
    ∙ (all a.place a.item a.is_live
    ∙ (ap (λ (x : Row). Some (x.key.table % group_count r)) (sym row) ∙ ap (λ k. Some ((row_in b.item.content).key.table % k)) (sym groups)))))

-- a region without objects
pub grouped_new : (r : RegionState) (n groups : ℕ) → r ≡ record { most = n; groups = replicate groups idle; segments = replicate n None } → AreGrouped r
grouped_new r n groups is = λ p i e. some_none e (none_new r n groups is p)

-- a row stands in a segment of its table's group
pub row_grouped : (r : RegionState) (places : List Place) (n : ℕ) (h : HasRow (live_at r) places n) (p : Place) (key : Key) → slice_get places n ≡ Some p
    → key_at (live_at r) places n ≡ key → AreGrouped r
    → ((q : Place) (i : Item) → live_at r q ≡ Some i → (g : ℕ) × (i.group ≡ Some g) × (group_of r q.segment ≡ Some g) × HasGroup r g)
    → group_of r p.segment ≡ Some (group_for r key.table)
row_grouped r places n h p key there same all stands =
    let at : h.place ≡ p = some_same h.placed there in
    let is : live_at r p ≡ Some h.item = sym (ap (live_at r) at) ∙ h.is_live in
    let f = stands p h.item is in
    let table : (row_in h.item.content).key.table ≡ key.table =
    ap (λ (x : Row). x.key.table) (h.is_row.read ∙ sym (row_is (live_at r) places n h)) ∙ ap (λ (k : Key). k.table) same in
    f.2 ∙ (sym f.1 ∙ (all p h.item is ∙ ap (λ k. Some (k % group_count r)) table))
