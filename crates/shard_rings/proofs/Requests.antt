-- A request is its header and its fields, and has one reading.
use Rattle.std.proofs.Common.{◌≡◌, ℕ, ◌==◌, ◌<◌, ◌^◌, cond, Bool, List, ◌++◌, ◌+◌, length, take, drop, sym, ap, ◌∙◌, refl, arith, length-append, take-append-drop, bytes_eq, rules}
use Rattle.std.specs.Bool.{Decides}
use Rattle.std.proofs.lemmas.List.{take_at, drop_at}
use Rattle.std.proofs.lemmas.Slice.Eq.{bytes_eq-Decides}
use Rattle.std.proofs.Math.Seq.{take-append_seam, drop-append_seam}
use Rattle.rows.specs.declared.kind.Kind.{Kind}
use Rattle.rows.specs.declared.kind.Kind.TheVariants as kinds
use Rattle.rows.specs.Key.{Key, in_table}
use Rattle.rows.specs.Operation.{Operation, HasItsFields}
use Rattle.rows.specs.declared.operation.Operation.{Operation as Operations}
use Rattle.shard_rings.specs.declared.request_head.RequestHead.{RequestHead}
use Rattle.rows.specs.Operations.{count_of, key_of, kind_of, numbered, of_fields, value_of}
use Rattle.shard_rings.specs.Request.{kind_byte, request, IsRequest}
use Rattle.shard_rings.specs.inside.RequestHead.{IsRequestHeadOf}
use Rattle.shard_rings.specs.inside.Requests.{HasFields}
use Rattle.shard_rings.proofs.RequestHeads.{heads_same}

-- ---- the header of a request

abbrev pub head_of : Operation → RequestHead
head_of operation = record {
  kind = kind_byte operation.kind;
  table = operation.key.table;
  key_len = length operation.key.bytes;
  number = operation.number;
  value_len = length operation.value;
  count = operation.count;
}

few : (kind : Kind) (value : List ℕ) (count : ℕ) → HasItsFields kind value count → count < 2 ^ 16
few kinds.Put value count fields = omega (arith, fields)
few kinds.Get value count fields = omega (arith, fields.1)
few kinds.Erase value count fields = omega (arith, fields.1)
few kinds.Scan value count fields = omega (arith, fields.2)

pub head_for : (bytes : List ℕ) (operation : Operation) → IsRequest bytes operation → IsRequestHeadOf (head_of operation) bytes
head_for bytes operation h = record {
  key_len = omega (arith, h.askable.key.short);
  number = h.number;
  value_len = omega (arith, h.askable.value);
  count = few operation.kind operation.value operation.count h.askable.fields;
  begins = ap (take 16) h.is;
}

behind : (bytes : List ℕ) (operation : Operation) → IsRequest bytes operation → drop 16 bytes ≡ operation.key.bytes ++ operation.value
behind bytes operation h = ap (drop 16) h.is

-- ---- two texts one behind the other, by the length of the first

first_same : (a b c d : List ℕ) → a ++ b ≡ c ++ d → length a ≡ length c → a ≡ c
first_same a b c d e n = sym (take_at a b (length c) n) ∙ ap (take (length c)) e ∙ take_at c d (length c) refl

second_same : (a b c d : List ℕ) → a ++ b ≡ c ++ d → length a ≡ length c → b ≡ d
second_same a b c d e n = sym (drop_at a b (length c) n) ∙ ap (drop (length c)) e ∙ drop_at c d (length c) refl

-- ---- what was read is the request's

pub fields_of : (bytes key value : List ℕ) (head : RequestHead) (operation : Operation) → IsRequestHeadOf head bytes
    → drop 16 bytes ≡ key ++ value → length key ≡ head.key_len → IsRequest bytes operation
    → HasFields head.kind head.table key value head.count operation
fields_of bytes key value head operation is fill len h =
    let same : head ≡ head_of operation = heads_same bytes head (head_of operation) is (head_for bytes operation h) in
    let e : key ++ value ≡ operation.key.bytes ++ operation.value = sym fill ∙ behind bytes operation h in
    let n : length key ≡ length operation.key.bytes = len ∙ ap (λ (g : RequestHead). g.key_len) same in
    rw same (record {
      askable = h.askable;
      of_kind = refl;
      of_table = refl;
      of_key = first_same key value operation.key.bytes operation.value e n;
      of_value = second_same key value operation.key.bytes operation.value e n;
      of_count = refl;
    })

-- ---- and is a request

pub is_read : (bytes key value : List ℕ) (g : RequestHead) (operation : Operations) → IsRequestHeadOf g bytes
    → drop 16 bytes ≡ key ++ value → length key ≡ g.key_len → length value ≡ g.value_len
    → HasFields g.kind g.table key value g.count (numbered g.number operation) → IsRequest bytes (numbered g.number operation)
is_read bytes key value g operation is fill key_len value_len has = record {
  number = is.number;
  askable = has.askable;
  is = sym (take-append-drop 16 bytes) ∙ rw (is.begins, fill, ← key_len, ← value_len, has.of_kind, has.of_table, has.of_key, has.of_value, has.of_count) refl;
}

-- ---- a request has one reading

kind_from : ℕ → Kind
kind_from byte = cond (byte == 1) kinds.Put (cond (byte == 2) kinds.Get (cond (byte == 3) kinds.Erase kinds.Scan))

kind_again : (kind : Kind) → kind_from (kind_byte kind) ≡ kind
unfolding kind_from
kind_again kinds.Put = refl
kind_again kinds.Get = refl
kind_again kinds.Erase = refl
kind_again kinds.Scan = refl

-- what the bytes ask, by their header
read_from : List ℕ → RequestHead → Operation
read_from bytes h =
    of_fields h.number (kind_from h.kind) (in_table h.table (take h.key_len (drop 16 bytes))) (drop h.key_len (drop 16 bytes)) h.count

read_again : (bytes : List ℕ) (operation : Operation) → IsRequest bytes operation → read_from bytes (head_of operation) ≡ operation
unfolding read_from
read_again bytes operation h =
    rw (
      behind bytes operation h,
      take-append_seam operation.key.bytes operation.value,
      drop-append_seam operation.key.bytes operation.value,
      kind_again operation.kind,
    ) refl

pub same_operation : (bytes : List ℕ) (a b : Operation) → IsRequest bytes a → IsRequest bytes b → a ≡ b
same_operation bytes a b p q =
    sym (read_again bytes a p) ∙ ap (read_from bytes) (heads_same bytes (head_of a) (head_of b) (head_for bytes a p) (head_for bytes b q)) ∙ read_again bytes b q

-- an answer that is yes exactly where the bytes are these
pub tested : (xs ys : List ℕ) (r : Bool) → Decides r (xs ≡ ys) → r ≡ bytes_eq xs ys
tested xs ys r h = search (rules, bytes_eq-Decides)

-- ---- how long it is

pub request_length : (number : ℕ) (operation : Operations) → 16 + length (key_of operation).bytes + length (value_of operation) ≡ length (request (numbered number operation))
request_length number operation = omega (arith, length-append (key_of operation).bytes (value_of operation))

-- ---- an operation by its fields

pub by_fields : (number : ℕ) (operation : Operations) (kind : Kind) (key : Key) (value : List ℕ) (count : ℕ) → kind ≡ kind_of operation → key ≡ key_of operation
    → value ≡ value_of operation → count ≡ count_of operation → of_fields number kind key value count ≡ numbered number operation
by_fields number operation kind key value count k y v n = rw (k, y, v, n) refl
