-- A body of keys, as it is read: one key after another.
use Rattle.std.specs.Prelude.{◌≡◌, ℕ, ◌≤◌, List, length, drop, flat_map, All}
use Rattle.rows.specs.Spelled.{IsKey, key_field}

-- the body is these keys, each behind its length
pub record AreKeys (body : List ℕ) (keys : List (List ℕ)) : Type 0 where
  pub spelled : body ≡ flat_map key_field keys
  pub lengths : All IsKey keys

-- from this offset on the body is these keys
pub record AreKeysAt (body : List ℕ) (at : ℕ) (keys : List (List ℕ)) : Type 0 where
  pub within : at ≤ length body
  pub rest : AreKeys (drop at body) keys
