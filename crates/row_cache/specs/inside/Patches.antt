-- Bytes written over a part of a row's value, where the row stands.
use Rattle.std.specs.Prelude.{◌≡◌, ◌≢◌, ℕ, List, length, Some}
use Rattle.rows.specs.Row.{Row}
use Rattle.row_bytes.specs.Patches.{with_patch}
use Rattle.row_bytes.specs.Rows.{newer_in, older_in, row_in}
use Rattle.regions.specs.Segments.{RegionState}
use Rattle.regions.specs.Shapes.{shape}
use Rattle.regions.specs.Counts.{live_counts, used_counts}
use Rattle.regions.specs.Contents.{Item, live_at}
use Rattle.regions.specs.declared.place.Place.{Place}
use Rattle.row_cache.specs.inside.Tables.{IsRowOf}

-- The row at the place has these bytes in its value, which is as long as it was, and the links that it had. No other object changed.
pub record PatchesRow (p : Place) (from : ℕ) (bytes : List ℕ) (old new : RegionState) : Type 0 where
  pub before : Item
  pub after : Item
  pub was : live_at old p ≡ Some before
  pub is : live_at new p ≡ Some after
  pub others : (q : Place) → q ≢ p → live_at new q ≡ live_at old q
  pub group : after.group ≡ before.group
  pub rows : (n : ℕ) (row : Row) → IsRowOf before n row → IsRowOf after n (with_patch row from bytes)
  pub row : row_in after.content ≡ with_patch (row_in before.content) from bytes
  pub long : length (row_in after.content).value ≡ length (row_in before.content).value
  pub newer : newer_in after.content ≡ newer_in before.content
  pub older : older_in after.content ≡ older_in before.content
  pub used : used_counts new ≡ used_counts old
  pub live : live_counts new ≡ live_counts old
  pub shape : shape new ≡ shape old
