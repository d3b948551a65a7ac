-- The keys of the rows so far.
use Rattle.std.proofs.Common.{◌≡◌, map, take, filter}
use Rattle.rows.specs.Apply.{is_at_most, keys_in}
use Rattle.plain_cache.specs.inside.OwnedRow.{row_in}
use Rattle.plain_cache.proofs.plain.keys_from.Given as goal

abbrev pub invariant-loop-row : goal.invariant-loop-row
invariant-loop-row l =
    map (λ found. found.now) l.keys.items ≡ filter (is_at_most l.key.bytes.now) (keys_in l.key.table (map row_in (take l.row-index l.rows)))
