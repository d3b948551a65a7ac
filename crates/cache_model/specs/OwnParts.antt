-- The parts that a shard issues, and the replies to them.
use Rattle.std.specs.Prelude.{◌≡◌, ℕ, ◌==◌, List, [], ◌∷◌, map, take, filter, flat_map, if◌then◌else◌, Option}
use Rattle.std.specs.List.{range_with_len, slice_get}
use Rattle.std.specs.Option.{option_map, option_and_then}
use Rattle.rows.specs.Operation.{Operation, is_scan}
use Rattle.trace_text.specs.Parts.{origin, own_parts, owner}
use Rattle.trace_text.specs.Trace.{Trace, trace_with}
use Rattle.cache_model.specs.declared.entry.Entry.{Entry}
use Rattle.rows.specs.declared.reply_kind.ReplyKind.{ReplyKind}
use Rattle.rows.specs.Apply.{Reply}
use Rattle.cache_model.specs.Legal.{reply_at}
use Rattle.rows.specs.Spelled.{spelled}

-- A part is named by the number of its command and the shard that does it.

-- the parts of a command with n shards, in the order in which they are issued: of a scan one for each shard, of another
-- command the one of the key's owner
abbrev pub parts_of : ℕ → Operation → List (ℕ × ℕ)
parts_of n operation =
    if is_scan operation.kind then map (λ s. (operation.number, s)) (range_with_len 0 n) else (operation.number, owner operation.key.bytes n) ∷ []

-- the parts that shard o issues, in order. Part k of its log, from 0, is the k-th.
abbrev pub issued_parts : Trace → ℕ → ℕ → List (ℕ × ℕ)
issued_parts trace n o = flat_map (parts_of n) (filter (λ operation. origin operation.number n == o) trace.operations)

-- how many parts shard o issues for the first i commands. In its log the parts of the next command that it issues stand
-- behind so many.
abbrev pub parts_before : Trace → ℕ → ℕ → ℕ → ℕ
parts_before trace n o i = own_parts (trace_with trace.version (take i trace.operations)) n o

-- the reply to a part: the one at its entry in the journal of its shard
abbrev pub part_reply : Trace → ℕ → List (List Entry) → ℕ × ℕ → Option Reply
part_reply trace pages journals (i, s) = option_and_then (λ journal. reply_at trace pages journal i) (slice_get journals s)

-- a log has, for each part that a shard issued, the reply as its kind and its body
abbrev pub Log : Type 0
Log = List (Option (ReplyKind × List ℕ))

-- the log of shard o holds these replies
abbrev pub HoldsReplies : Trace → ℕ → ℕ → (ℕ × ℕ → Option Reply) → Log → Type 0
HoldsReplies trace n o reply log = log ≡ map (λ part. option_map spelled (reply part)) (issued_parts trace n o)
