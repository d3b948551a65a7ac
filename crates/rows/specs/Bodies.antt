-- How long the body of a reply can be.
use Rattle.std.specs.Prelude.{ℕ, ◌*◌}
use Rattle.layout.specs.Sizes as sizes
use Rattle.rows.specs.declared.kind.Kind.{Kind}
use Rattle.rows.specs.declared.kind.Kind.TheVariants as kinds
use Rattle.rows.specs.Operation.{Operation}

-- the most bytes of a body, of an operation of one kind and where values have at most so many bytes: of a get those of a
-- value, of a scan the room of each key that is asked
abbrev pub most_of_kind : Kind → ℕ → ℕ → ℕ
most_of_kind kinds.Get most count = most
most_of_kind kinds.Scan most count = sizes.key_room * count
most_of_kind kinds.Put most count = 0
most_of_kind kinds.Erase most count = 0

abbrev pub most_of_body : ℕ → Operation → ℕ
most_of_body most operation = most_of_kind operation.kind most operation.count
