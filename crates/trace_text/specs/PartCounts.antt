-- How many parts a shard issues and does, and how long the replies to them are.
use Rattle.std.specs.Prelude.{ℕ, ◌==◌, ◌+◌, ◌*◌, ◌&&◌, count_by, sum_by, length}
use Rattle.std.specs.List.{range_with_len}
use Rattle.layout.specs.Sizes.{scan_room}
use Rattle.rows.specs.Operation.{is_get, is_put, is_scan}
use Rattle.trace_text.specs.Trace.{Trace}
use Rattle.trace_text.specs.Parts.{owner, origin, has_part, parts, longest_value}

-- how many parts shard s issues, and how many are done there, by the lists of parts
abbrev pub issued : Trace → ℕ → ℕ → ℕ
issued trace n s = sum_by (λ q. length (parts trace n s q)) (range_with_len 0 n)

abbrev pub done_at : Trace → ℕ → ℕ → ℕ
done_at trace n s = sum_by (λ o. length (parts trace n o s)) (range_with_len 0 n)

-- the parts that are done at shard s
abbrev pub here_parts : Trace → ℕ → ℕ → ℕ
here_parts trace n s = count_by (has_part n s) trace.operations

-- the puts whose key shard s owns
abbrev pub here_puts : Trace → ℕ → ℕ → ℕ
here_puts trace n s = count_by (λ operation. is_put operation.kind && owner operation.key.bytes n == s) trace.operations

-- the room for the replies of what shard s issues: the greatest value for each get, and `scan_room` bytes for each part of a scan
abbrev pub reply_bytes : Trace → ℕ → ℕ → ℕ
reply_bytes trace n s =
    count_by (λ operation. is_get operation.kind && origin operation.number n == s) trace.operations * longest_value trace
    + count_by (λ operation. is_scan operation.kind && origin operation.number n == s) trace.operations * (n * scan_room)
