-- The answer to a command, from the journals of all shards.
use Rattle.std.specs.Prelude.{ℕ, List, [], take, map, flat_map, Option, Some, None, unwrap_or}
use Rattle.std.specs.List.{slice_get}
use Rattle.rows.specs.declared.kind.Kind.{Kind}
use Rattle.rows.specs.declared.kind.Kind.TheVariants as kinds
use Rattle.rows.specs.Operation.{Operation}
use Rattle.trace_text.specs.Parts.{owner}
use Rattle.trace_text.specs.Trace.{Trace}
use Rattle.cache_model.specs.declared.entry.Entry.{Entry}
use Rattle.rows.specs.Apply.{Reply, Keys, in_order}
use Rattle.cache_model.specs.Legal.{reply_at}

-- what the shards found in a scan, joined: the first so many of all their keys, in byte order
abbrev pub join : ℕ → List (List (List ℕ)) → List (List ℕ)
join count lists = take count (in_order (flat_map (λ keys. keys) lists))

abbrev pub keys_in : Option Reply → List (List ℕ)
keys_in (Some (Keys keys)) = keys
keys_in reply = []

-- The answer to a command of one kind, from the replies of n shards to their parts of it: a scan's are joined, and
-- of another command there is the reply of the key's owner.
abbrev pub answer_kind : Kind → ℕ → Operation → List (Option Reply) → Option Reply
answer_kind kinds.Scan n operation replies = Some (Keys (join operation.count (map keys_in replies)))
answer_kind kinds.Put n operation replies = unwrap_or (slice_get replies (owner operation.key.bytes n)) None
answer_kind kinds.Get n operation replies = unwrap_or (slice_get replies (owner operation.key.bytes n)) None
answer_kind kinds.Erase n operation replies = unwrap_or (slice_get replies (owner operation.key.bytes n)) None

abbrev pub answer_from : ℕ → Operation → List (Option Reply) → Option Reply
answer_from n operation replies = answer_kind operation.kind n operation replies

abbrev pub answer : Trace → ℕ → ℕ → List (List Entry) → Operation → Option Reply
answer trace n pages journals operation =
    answer_from n operation (map (λ journal. reply_at trace pages journal operation.number) journals)
