-- What an operation of the code means.
use Rattle.std.specs.Prelude.{ℕ, List, []}
use Rattle.rows.specs.declared.kind.Kind.{Kind}
use Rattle.rows.specs.declared.kind.Kind.TheVariants as kinds
use Rattle.rows.specs.Key.{Key, key_shown}
use Rattle.rows.specs.Operation.{Operation}
use Rattle.rows.specs.declared.operation.Operation.{Operation as Operations}
use Rattle.rows.specs.declared.operation.Operation.TheVariants.{Put, Get, Erase, Scan}

-- a command of this number, of a kind and with these fields
abbrev pub of_fields : ℕ → Kind → Key → List ℕ → ℕ → Operation
of_fields number kind key value count = record { number = number; kind = kind; key = key; value = value; count = count }

-- the same, of each kind

abbrev pub put_of : ℕ → Key → List ℕ → Operation
put_of number key value = of_fields number kinds.Put key value 0

abbrev pub get_of : ℕ → Key → Operation
get_of number key = of_fields number kinds.Get key [] 0

abbrev pub erase_of : ℕ → Key → Operation
erase_of number key = of_fields number kinds.Erase key [] 0

abbrev pub scan_of : ℕ → Key → ℕ → Operation
scan_of number from count = of_fields number kinds.Scan from [] count

-- Fields.

abbrev pub kind_of : Operations → Kind
kind_of (Put key value) = kinds.Put
kind_of (Get key) = kinds.Get
kind_of (Erase key) = kinds.Erase
kind_of (Scan from count) = kinds.Scan

-- the key, or the least key of a scan
abbrev pub key_of : Operations → Key
key_of (Put key value) = key_shown key
key_of (Get key) = key_shown key
key_of (Erase key) = key_shown key
key_of (Scan from count) = key_shown from

-- of a put; else empty
abbrev pub value_of : Operations → List ℕ
value_of (Put key value) = value.now
value_of (Get key) = []
value_of (Erase key) = []
value_of (Scan from count) = []

-- the most keys that a scan gives; else 0
abbrev pub count_of : Operations → ℕ
count_of (Put key value) = 0
count_of (Get key) = 0
count_of (Erase key) = 0
count_of (Scan from count) = count

-- the operation, as a command of this number
abbrev pub numbered : ℕ → Operations → Operation
numbered number operation = of_fields number (kind_of operation) (key_of operation) (value_of operation) (count_of operation)
