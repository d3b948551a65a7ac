-- The bytes of a request: a header of 16 bytes, the key, and the value of a put. Numbers are little endian.
use Rattle.std.specs.Prelude.{◌≡◌, ℕ, ◌<◌, ◌^◌, List, ◌∷◌, ◌++◌, length, replicate}
use Rattle.std.specs.Int.{w16, w32, to_le_bytes}
use Rattle.rows.specs.declared.kind.Kind.{Kind}
use Rattle.rows.specs.declared.kind.Kind.TheVariants as kinds
use Rattle.rows.specs.Operation.{Operation}
use Rattle.rows.specs.Askable.{IsAskable}

abbrev pub kind_byte : Kind → ℕ
kind_byte kinds.Put = 1
kind_byte kinds.Get = 2
kind_byte kinds.Erase = 3
kind_byte kinds.Scan = 4

-- the kind, the table, the key's length, the command's number, the value's length, the count, and four zeros; only a put has
-- a value, and only a scan a count
abbrev pub request_header : Operation → List ℕ
request_header operation =
    kind_byte operation.kind ∷ operation.key.table ∷ to_le_bytes w16 (length operation.key.bytes) ++ to_le_bytes w32 operation.number
    ++ to_le_bytes w16 (length operation.value) ++ to_le_bytes w16 operation.count ++ replicate 4 0

-- the request of an operation
abbrev pub request : Operation → List ℕ
request operation = request_header operation ++ operation.key.bytes ++ operation.value

-- The bytes are the request of an operation that can be asked, neither more nor fewer.
pub record IsRequest (bytes : List ℕ) (operation : Operation) : Type 0 where
  pub number : operation.number < 2 ^ 32
  pub askable : IsAskable operation
  pub is : bytes ≡ request operation
