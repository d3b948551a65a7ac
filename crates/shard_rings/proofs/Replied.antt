-- What a part replies can be sent.
use Rattle.std.proofs.Common.{◌≡◌, ℕ, Bool, true, false, cond, List, [], ◌∷◌, take, filter, Option, Some, None, refl, arith, subst}
use Rattle.std.specs.Prelude.{All, Contains, find}
use Rattle.std.proofs.lemmas.List.{length-take}
use Rattle.std.proofs.lemmas.List.Elements.{All-contains, All-head, All-tail}
use Rattle.rows.specs.declared.kind.Kind.{Kind}
use Rattle.rows.specs.declared.kind.Kind.TheVariants as kinds
use Rattle.rows.specs.Key.{Key}
use Rattle.rows.specs.Operation.{HasItsFields, Operation}
use Rattle.rows.specs.Spelled.{IsKey}
use Rattle.rows.specs.Apply.{Stored, Replaced, Erased, Missing, apply_kind, get_where, has, is_at_most, in_order, is_of, keys_in, row_of}
use Rattle.rows.specs.Row.{Row}
use Rattle.row_lemmas.proofs.Tables.{All-keys_in}
use Rattle.shard_rings.specs.Reply.{IsSendable, IsSendableRow}

-- a row that is found is one of the rows
found : (P : Row → Type 0) (p : Row → Bool) (rows : List Row) (row : Row) → All P rows → find p rows ≡ Some row → P row
found P p [] row all is = absurd cc
found P p (r ∷ rows) row all is = go (p r) is (found P p rows row (All-tail P r rows all))
  where
    go : (b : Bool) → cond b (Some r) (find p rows) ≡ Some row → (find p rows ≡ Some row → P row) → P row
    go true e more = let same : r ≡ row = cc e in subst P same (All-head P r rows all)
    go false e more = more e

send_get : (key : Key) (cache : List Row) → All IsSendableRow cache → IsSendable (get_where (row_of key cache) key cache).1
send_get key cache sendable = go (row_of key cache) refl
  where
    go : (o : Option Row) → row_of key cache ≡ o → IsSendable (get_where o key cache).1
    go None e = tt
    go (Some row) e = (found IsSendableRow (is_of key) cache row sendable e).value

send_put : (b : Bool) → IsSendable (cond b Replaced Stored)
send_put true = tt
send_put false = tt

send_erase : (b : Bool) → IsSendable (cond b Erased Missing)
send_erase true = tt
send_erase false = tt

-- the keys of a scan are among those that it was taken from
abbrev pub AreAmong : Type 0
AreAmong = (count : ℕ) (test : List ℕ → Bool) (keys : List (List ℕ)) → All (Contains keys) (take count (in_order (filter test keys)))

pub send_kind : AreAmong → (kind : Kind) (operation : Operation) (cache : List Row) → HasItsFields kind operation.value operation.count
    → All IsSendableRow cache → IsSendable (apply_kind kind operation cache).1
send_kind among kinds.Put operation cache fields sendable = send_put (has operation.key cache)
send_kind among kinds.Get operation cache fields sendable = send_get operation.key cache sendable
send_kind among kinds.Erase operation cache fields sendable = send_erase (has operation.key cache)
send_kind among kinds.Scan operation cache fields sendable =
    let above = is_at_most operation.key.bytes in
    let keys = keys_in operation.key.table cache in
    let keyed : All IsKey keys = All-keys_in IsKey operation.key.table cache (λ i d below same. (sendable i d below).key) in (
      omega (arith, length-take operation.count (in_order (filter above keys)), fields.2),
      λ i d below. All-contains IsKey keys _ keyed (among operation.count above keys i d below),
    )
