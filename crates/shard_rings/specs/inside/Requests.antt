-- A request, as it is read.
use Rattle.std.specs.Prelude.{◌≡◌, ℕ, List}
use Rattle.rows.specs.Operation.{Operation}
use Rattle.rows.specs.Askable.{IsAskable}
use Rattle.shard_rings.specs.Request.{kind_byte}

-- the operation can be asked, and has this byte for its kind, and these fields
pub record HasFields (kind table : ℕ) (key value : List ℕ) (count : ℕ) (operation : Operation) : Type 0 where
  pub askable : IsAskable operation
  pub of_kind : kind ≡ kind_byte operation.kind
  pub of_table : table ≡ operation.key.table
  pub of_key : key ≡ operation.key.bytes
  pub of_value : value ≡ operation.value
  pub of_count : count ≡ operation.count
