use Rattle.std.proofs.Common.{◌≡◌, Some, ◌+◌, ◌-◌, ◌%◌, ◌≤◌, false, true, inl, inr, List, ℕ, ◌++◌, length, refl, sym, ap, subst, ◌∙◌, arith}
use Rattle.std.proofs.lemmas.Bool.Decides.{leb_tells}
use Rattle.std.specs.Prelude.{slice_index}
use Rattle.layout.specs.Sizes.{segment}
use Rattle.object_log.specs.Contents.{padded}
use Rattle.regions.specs.Shapes.{HasGroup, Shape, active_in, group_count}
use Rattle.regions.specs.Counts.{left, left_of, used_counts}
use Rattle.regions.specs.Contents.{live_at, holding, ChangesAt}
use Rattle.rows.specs.Row.{Row, size}
use Rattle.row_bytes.specs.NewRows.{row_of}
use Rattle.row_bytes.specs.Rows.{content_of}
use Rattle.row_cache.proofs.Caches.{row_stays}
use Rattle.row_cache.proofs.Placed.{grouped_added, object_added, object_stays, left_added, stays_same}
use Rattle.row_cache.proofs.Groups.{has_group_for}
use Rattle.row_cache.proofs.cache.storing.place_row.Goals as goal

pub place_with-requires-clause-group : goal.place_with-requires-clause-group
place_with-requires-clause-group c =
    let r = c.args.region.now in subst (λ g. HasGroup r g) (sym c.requires.group) (has_group_for r c.args.row.table c.requires.some)

pub place_with-requires-clause-content : goal.place_with-requires-clause-content
place_with-requires-clause-content c =
    let whole = c.row_size.ensures in let long = ap length c.as_slice.ensures ∙ c.row_header-header.ensures.long in omega (arith, whole, long)

pub returns-in_err-place-clause-stay : goal.returns-in_err-place-clause-stay
returns-in_err-place-clause-stay c = stays_same c.args.region.now c.place_with.new.self c.in_err-place.ensures.unchanged

pub returns-clause-added : goal.returns-clause-added
returns-clause-added c =
    let p = c.in_ok-place.place in let e = c.in_ok-place.ensures in let w = c.row_header-header.ensures in let r = c.args.region.now in let s = c.place_with.new.self in
    let key = c.args.row.key.now in let value = c.args.row.value.now in let ws = content_of c.row_header-header.result key value in
    let is = ap (λ (n : ℕ). padded (n - 8) (c.as_slice.result.now ++ (key ++ value))) c.row_size.ensures ∙ ap (λ (h : List ℕ). padded (size key value - 8) (h ++ (key ++ value))) c.as_slice.ensures in
    let change = subst (λ (bytes : List ℕ). ChangesAt p (Some (holding (Some c.args.group) 1 bytes)) r s) is e.added in
    record {
      item = record { group = Some c.args.group; kind = 1; content = ws };
      is_row = record { kind = refl; holds = w.holds; read = w.read; number = w.number; size = w.size };
      adds = object_added r s p (Some c.args.group) 1 ws change e.unused;
    }

pub returns-clause-rows : goal.returns-clause-rows
returns-clause-rows c = λ q here. row_stays (live_at c.args.region.now) (live_at c.place_with.new.self) c.in_ok-place.place q c.args.number (row_of c.args.row) (returns-clause-added c) here

pub returns-clause-grouped : goal.returns-clause-grouped
returns-clause-grouped c =
    let p = c.in_ok-place.place in let e = c.in_ok-place.ensures in let w = c.row_header-header.ensures in let r = c.args.region.now in let s = c.place_with.new.self in
    let key = c.args.row.key.now in let value = c.args.row.value.now in let ws = content_of c.row_header-header.result key value in
    let is = ap (λ (n : ℕ). padded (n - 8) (c.as_slice.result.now ++ (key ++ value))) c.row_size.ensures ∙ ap (λ (h : List ℕ). padded (size key value - 8) (h ++ (key ++ value))) c.as_slice.ensures in
    let change = subst (λ (bytes : List ℕ). ChangesAt p (Some (holding (Some c.args.group) 1 bytes)) r s) is e.added in
    grouped_added r s p (record { group = Some c.args.group; kind = 1; content = ws }) (object_added r s p (Some c.args.group) 1 ws change e.unused) e.shape
    (ap (λ g. Some g) c.requires.group ∙ ap (λ (row : Row). Some (row.key.table % group_count r)) (sym w.read))

pub returns-clause-left : goal.returns-clause-left
returns-clause-left c =
    let p = c.in_ok-place.place in let e = c.in_ok-place.ensures in let r = c.args.region.now in let s = c.place_with.new.self in let whole = c.row_size.ensures in
    let room : c.row_size.result ≤ left r c.args.group = elim (leb_tells c.row_size.result (left r c.args.group)) [ inl h ↦ h.1 | inr h ↦ absurd (let clash : false ≡ true = e.full.1 h.1 in cc) ] in
    ap (λ n. left s c.args.group + n) (sym whole)
    ∙ left_added r s c.args.group p.segment c.row_size.result e.segment (ap (λ (x : Shape). active_in x.groups c.args.group) e.shape) e.used e.used_total (omega (arith, whole)) room

pub returns-clause-stay : goal.returns-clause-stay
returns-clause-stay c =
    let e = c.in_ok-place.ensures in object_stays c.args.region.now c.place_with.new.self c.in_ok-place.place _ e.added e.unused

pub returns-clause-room : goal.returns-clause-room
returns-clause-room c =
    let e = c.in_ok-place.ensures in let used = used_counts c.args.region.now in
    let room : c.row_size.result ≤ left c.args.region.now c.args.group = elim (leb_tells c.row_size.result (left c.args.region.now c.args.group)) [ inl h ↦ h.1 | inr h ↦ absurd (let clash : false ≡ true = e.full.1 h.1 in cc) ] in
    let is : left c.args.region.now c.args.group ≡ segment - slice_index used c.in_ok-place.place.segment = ap (left_of used) e.segment in
    let whole = c.row_size.ensures in let at = e.offset in
    (e.number, omega (arith, room, is, whole, at))
