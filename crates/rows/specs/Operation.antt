-- What an operation asks of rows.
use Rattle.std.specs.Prelude.{◌≡◌, ℕ, ◌≤◌, Bool, true, false, List, []}
use Rattle.layout.specs.Sizes.{most_keys}
use Rattle.rows.specs.declared.kind.Kind.{Kind}
use Rattle.rows.specs.Key.{Key}
use Rattle.rows.specs.declared.kind.Kind.TheVariants.{Put, Get, Erase, Scan}

pub record Operation : Type 0 where
  -- the row of a put carries it; the commands of a trace are numbered from 1
  pub number : ℕ
  pub kind : Kind
  -- the key, or the least key of a scan, which looks up keys of its table alone
  pub key : Key
  -- of a put; else empty
  pub value : List ℕ
  -- the most keys that a scan gives; else 0
  pub count : ℕ

abbrev pub is_scan : Kind → Bool
is_scan Scan = true
is_scan Put = false
is_scan Get = false
is_scan Erase = false

abbrev pub is_put : Kind → Bool
is_put Put = true
is_put Get = false
is_put Erase = false
is_put Scan = false

abbrev pub is_get : Kind → Bool
is_get Get = true
is_get Put = false
is_get Erase = false
is_get Scan = false

-- a put has a value, and a scan has a count of 1 to 32; the others have neither
abbrev pub HasItsFields : Kind → List ℕ → ℕ → Type 0
HasItsFields Put value count = count ≡ 0
HasItsFields Get value count = (value ≡ []) × (count ≡ 0)
HasItsFields Erase value count = (value ≡ []) × (count ≡ 0)
HasItsFields Scan value count = (value ≡ []) × (1 ≤ count) × (count ≤ most_keys)
