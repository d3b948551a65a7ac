-- What holds of the key and the value of a put and of all rows holds of the rows and the reply of a part.
use Rattle.std.proofs.Common.{◌≡◌, ℕ, Bool, true, false, not, cond, List, Option, Some, None, refl, subst}
use Rattle.std.specs.Prelude.{All}
use Rattle.std.proofs.lemmas.List.Elements.{All-cons, All-filter, All-weaker}
use Rattle.rows.specs.declared.kind.Kind.{Kind}
use Rattle.rows.specs.declared.kind.Kind.TheVariants as kinds
use Rattle.rows.specs.Key.{Key, in_table}
use Rattle.rows.specs.Operation.{Operation, is_put}
use Rattle.rows.specs.Row.{Row}
use Rattle.rows.specs.Apply.{Reply, Stored, Replaced, Missing, Erased, apply, apply_kind, get_where, has, is_at_most, is_of, keys_in, row_of}
use Rattle.rows.specs.Holds.{PutHolds, RowHolds, RowsHold, ReplyHolds}
use Rattle.row_lemmas.proofs.KeyOrder.{All-scanned}
use Rattle.row_lemmas.proofs.Looked.{All-find}
use Rattle.row_lemmas.proofs.Tables.{All-keys_in}

if-holds : (k : Key → Bool) (v : List ℕ → Bool) (table : ℕ) (b : Bool) (x y : Reply) → ReplyHolds k v table x → ReplyHolds k v table y
    → ReplyHolds k v table (cond b x y)
if-holds k v table true x y p q = p
if-holds k v table false x y p q = q

-- a part of a command on a table, on rows of which it holds
abbrev pub PartHolds : (Key → Bool) → (List ℕ → Bool) → ℕ → List Row × Reply → Type 0
PartHolds k v table part = RowsHold k v part.0 × ReplyHolds k v table part.1

got-holds : (k : Key → Bool) (v : List ℕ → Bool) (o : Option Row) (key : Key) (cache : List Row) → row_of key cache ≡ o → RowsHold k v cache
    → PartHolds k v key.table (get_where o key cache)
got-holds k v None key cache e holds = (holds, tt)
got-holds k v (Some row) key cache e holds =
    let found = All-find (RowHolds k v) (is_of key) cache row holds e in
    (All-cons (RowHolds k v) row _ found (All-filter (λ r. not (is_of key r)) (RowHolds k v) cache holds), found.1)

-- of the keys of a table
keys-hold : (k : Key → Bool) (v : List ℕ → Bool) (table : ℕ) (cache : List Row) → RowsHold k v cache
    → All (λ bytes. k (in_table table bytes) ≡ true) (keys_in table cache)
keys-hold k v table cache holds =
    All-keys_in (λ bytes. k (in_table table bytes) ≡ true) table cache
    (All-weaker (RowHolds k v) (λ (row : Row). row.key.table ≡ table → k (in_table table row.key.bytes) ≡ true)
    (λ row are same. subst (λ (n : ℕ). k (in_table n row.key.bytes) ≡ true) same are.0) cache holds)

kind-holds : (k : Key → Bool) (v : List ℕ → Bool) (kind : Kind) (operation : Operation) (cache : List Row)
    → (is_put kind ≡ true → (k operation.key ≡ true) × (v operation.value ≡ true)) → RowsHold k v cache
    → PartHolds k v operation.key.table (apply_kind kind operation cache)
kind-holds k v kinds.Put operation cache put holds = (
  All-cons (RowHolds k v) (record { key = operation.key; value = operation.value; number = operation.number }) _ (put refl)
      (All-filter (λ r. not (is_of operation.key r)) (RowHolds k v) cache holds),
  if-holds k v operation.key.table (has operation.key cache) Replaced Stored tt tt,
)
kind-holds k v kinds.Get operation cache put holds = got-holds k v (row_of operation.key cache) operation.key cache refl holds
kind-holds k v kinds.Erase operation cache put holds =
    (All-filter (λ r. not (is_of operation.key r)) (RowHolds k v) cache holds, if-holds k v operation.key.table (has operation.key cache) Erased Missing tt tt)
kind-holds k v kinds.Scan operation cache put holds =
    let table = operation.key.table in
    let Holds : List ℕ → Type 0 = λ bytes. k (in_table table bytes) ≡ true in
    (holds, All-scanned Holds (is_at_most operation.key.bytes) operation.count (keys_in table cache) (keys-hold k v table cache holds))

pub part-holds : (k : Key → Bool) (v : List ℕ → Bool) (operation : Operation) (cache : List Row) → PutHolds k v operation → RowsHold k v cache
    → PartHolds k v operation.key.table (apply operation cache)
part-holds k v operation cache put holds = kind-holds k v operation.kind operation cache put holds
