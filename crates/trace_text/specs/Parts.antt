-- Where the parts of a command are done, and how many there are.
use Rattle.std.specs.Prelude.{ℕ, ◌==◌, ◌+◌, ◌-◌, ◌*◌, ◌%◌, ◌^◌, ◌&&◌, Bool, true, List, map, filter, count_by, sum_by, fold, length, bit_xor, max, if◌then◌else◌}
use Rattle.layout.specs.Sizes.{scan_room}
use Rattle.rows.specs.Operation.{Operation, is_get, is_scan}
use Rattle.trace_text.specs.Trace.{Trace}

-- the most shards of a run
abbrev pub most_shards : ℕ
most_shards = 16

-- FNV-1a of 64 bits: exclusive-or with the byte, then multiply
abbrev pub hash : List ℕ → ℕ
hash key = fold (λ h b. (bit_xor h b * 1099511628211) % 2 ^ 64) 14695981039346656037 key

-- the shard that owns the bytes of a key, whatever its table, of n shards
abbrev pub owner : List ℕ → ℕ → ℕ
owner key n = hash key % n

-- the shard at which command number i is issued, of n shards
abbrev pub origin : ℕ → ℕ → ℕ
origin i n = (i - 1) % n

-- every shard does a part of a scan; of another command the one that owns the key
abbrev pub has_part : ℕ → ℕ → Operation → Bool
has_part n s operation = if is_scan operation.kind then true else owner operation.key.bytes n == s

-- the numbers of the commands of origin o that have a part at shard s, rising
abbrev pub parts : Trace → ℕ → ℕ → ℕ → List ℕ
parts trace n o s = map (λ operation. operation.number)
    (filter (λ operation. origin operation.number n == o && has_part n s operation) trace.operations)

-- the parts that shard s issues: one for a command that it issues, and one for each shard where that is a scan
abbrev pub own_parts : Trace → ℕ → ℕ → ℕ
own_parts trace n s = sum_by
    (λ operation. if origin operation.number n == s then (if is_scan operation.kind then n else 1) else 0) trace.operations

-- the length of the longest value
abbrev pub longest_value : Trace → ℕ
longest_value trace = fold (λ most operation. max most (length operation.value)) 0 trace.operations

-- room for all replies, with n shards: the greatest value for each get, and `scan_room` bytes for each part of a scan
abbrev pub replies_room : Trace → ℕ → ℕ
replies_room trace n =
    count_by (λ operation. is_get operation.kind) trace.operations * longest_value trace
    + count_by (λ operation. is_scan operation.kind) trace.operations * (n * scan_room)
