-- A row's key is added where it is of the table of the key, and not below the key.
use Rattle.std.proofs.Common.{◌≡◌, ◌∷◌, ◌++◌, [], ap, sym, ◌∙◌}
use Rattle.rows.specs.Key.{key_shown}
use Rattle.plain_cache.specs.inside.OwnedRow.{is_from}
use Rattle.plain_cache.proofs.RowLists.{key_added, key_passed}
use Rattle.plain_cache.proofs.plain.keys_from.Goals as goal
use Rattle.plain_cache.proofs.plain.keys_from.Goals.{then-is_from+in_ok-push, else-is_from}

pub loop-row-preserved : goal.loop-row-preserved
loop-row-preserved c =
    let key = key_shown c.args.key.now in
    let rows = c.args.rows.now in
    let at = c.loop-row.row-index in
    let row = c.row-item.result in
    let same : is_from key row ≡ c.is_from.result = sym c.is_from.ensures in
    elim c.if-is_from.branch [
      | then-is_from+in_ok-push w ↦
          let all : c.if-is_from.keys.items ≡ c.loop-row.keys.items ++ w.as_slice.result ∷ [] = ap (λ v. v.items) w.keys-is ∙ w.in_ok-push.ensures.items in
          key_added key rows at row c.loop-row.keys.items c.if-is_from.keys.items w.as_slice.result
          c.loop-row-test.true c.row-item.is (same ∙ w.if-is_from.true) w.as_slice.ensures.value all c.loop-row.invariant
      | else-is_from w ↦
          rw w.keys-is (key_passed key rows at row c.loop-row.keys.items c.loop-row-test.true c.row-item.is (same ∙ w.if-is_from.false) c.loop-row.invariant)
    ]
