-- The reference fields of a row: its links.
use Rattle.std.specs.Prelude.{List, []}
use Rattle.row_bytes.specs.Rows.{newer_in, older_in}
use Rattle.regions.specs.Contents.{Item}
use Rattle.regions.specs.declared.place.Place.{Place}
use Rattle.regions.specs.Places.{leads_to}

abbrev pub references : Item → List Place
references item = leads_to (newer_in item.content) (leads_to (older_in item.content) [])
