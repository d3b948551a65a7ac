-- A put is placed as a new object.
use Rattle.std.proofs.Common.{◌≡◌, ℕ, List, Some, None, ap}
use Rattle.rows.specs.Row.{Row}
use Rattle.regions.specs.Segments.{RegionState}
use Rattle.regions.specs.Contents.{Item, ChangesAt, holding, item_if_live, live_at, standing_at}
use Rattle.regions.specs.declared.place.Place.{Place}
use Rattle.dirty_region.specs.inside.Rings.{IsPutOf, AddsPut}

pub object_added : (r s : RegionState) (p : Place) (position : ℕ) (put : Row) (ws : List ℕ) → ChangesAt p (Some (holding (Some 0) 4 ws)) r s → standing_at r p ≡ None
    → (let i : Item = record { group = Some 0; kind = 4; content = ws } in IsPutOf i position put) → AddsPut p position put (live_at r) (live_at s)
object_added r s p position put ws change unused is = record {
  item = record { group = Some 0; kind = 4; content = ws };
  is_put = is;
  absent = ap item_if_live unused;
  here = ap item_if_live change.here;
  others = λ q far. ap item_if_live (change.others q far);
}
