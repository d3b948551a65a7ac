-- A row stands where it stood before two calls that leave each object in its place.
use Rattle.std.proofs.Common.{◌≡◌, ◌⊎◌, inl, inr, Option, Some, None, refl, sym, ap, subst, ◌∙◌}
use Rattle.std.specs.Prelude.{option_map}
use Rattle.rows.specs.Row.{Row}
use Rattle.regions.specs.Segments.{RegionState}
use Rattle.regions.specs.Contents.{Item, Standing, standing_at}
use Rattle.regions.specs.declared.place.Place.{Place}
use Rattle.row_bytes.specs.Rows.{IsRow, number_in, row_in}
use Rattle.row_cache.specs.Rows.{IsSameRow, Stay, StandsAt}

standing_of : (o : Option Standing) (i : Item) → option_map (λ (x : Standing). x.item) o ≡ Some i → (t : Standing) × (o ≡ Some t) × (t.item ≡ i)
standing_of None i e = absurd (let clash : None ≡ Some i = e in cc)
standing_of (Some t) i e = (t, refl, (let same : Some t.item ≡ Some i = e in cc))

row_of : (item now : Item) (row : Row) → (now ≡ item) ⊎ IsSameRow item now → IsRow item.content → row_in item.content ≡ row → IsRow now.content × (row_in now.content ≡ row)
row_of item now row (inl same) is read = (subst (λ (i : Item). IsRow i.content) (sym same) is, ap (λ (i : Item). row_in i.content) same ∙ read)
row_of item now row (inr same) is read = ((number_in item.content, row_in item.content, same.is), same.row ∙ read)

pub stays_once : (r m : RegionState) (p : Place) (row : Row) → Stay r m → StandsAt r p row → StandsAt m p row
stays_once r m p row stay here =
    let there = stay p here.0.item (ap (option_map (λ (x : Standing). x.item)) here.1) in
    let t = standing_of (standing_at m p) there.0 there.1 in
    let is = row_of here.0.item there.0 row there.2 here.2 here.3 in
    (t.0, t.1, subst (λ (j : Item). IsRow j.content) (sym t.2) is.0, ap (λ (j : Item). row_in j.content) t.2 ∙ is.1)

pub row_stays_at : (r m s : RegionState) (p : Place) (row : Row) → Stay r m → Stay m s → StandsAt r p row → StandsAt s p row
row_stays_at r m s p row first second here = stays_once m s p row second (stays_once r m p row first here)
