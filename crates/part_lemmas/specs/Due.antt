-- What two shards have to say to each other over a link, and which packets are the ones that were expected.
use Rattle.std.specs.Prelude.{◌≡◌, ℕ, ◌+◌, ◌==◌, ◌&&◌, Bool, true, false, List, [], ◌∷◌, ◌++◌, map, filter, fold, drop, if◌then◌else◌, Option, Some, None, ◌⊎◌}
use Rattle.std.specs.List.{slice_get}
use Rattle.std.specs.Str.{bytes_eq}
use Rattle.rows.specs.Operation.{Operation}
use Rattle.trace_text.specs.Parts.{has_part, longest_value, origin}
use Rattle.trace_text.specs.Trace.{Trace}
use Rattle.rows.specs.Apply.{Reply}
use Rattle.rows.specs.Fits.{Fits}
use Rattle.shard_rings.specs.Number.{message_number}
use Rattle.shard_rings.specs.Reply.{HoldsReply}
use Rattle.shard_rings.specs.Request.{request}
use Rattle.shard_rings.specs.declared.link.Packet.{Packet}
use Rattle.shard_rings.specs.declared.link.Packet.TheVariants.{Block as InBlock, Bye}

-- the operations that shard o issues to shard s, in order: `parts` are their numbers
abbrev pub operations_for : Trace → ℕ → ℕ → ℕ → List Operation
operations_for trace n o s = filter (λ operation. origin operation.number n == o && has_part n s operation) trace.operations

-- what a packet says: the bytes of its block, or nothing, which is Bye
abbrev pub said : Packet → Option (List ℕ)
said (InBlock block) = Some block.piece.bytes
said Bye = None

-- The lane of requests.

-- what shard o says to shard s on it: the request of each operation, and behind the last one Bye
abbrev pub due : Trace → ℕ → ℕ → ℕ → List (Option (List ℕ))
due trace n o s = map (λ operation. Some (request operation)) (operations_for trace n o s) ++ None ∷ []

abbrev pub is_same : Option (List ℕ) → Option (List ℕ) → Bool
is_same None None = true
is_same (Some a) (Some b) = bytes_eq a b
is_same a b = false

abbrev pub is_same_as : Option (Option (List ℕ)) → Option (List ℕ) → Bool
is_same_as None what = false
is_same_as (Some what) other = is_same what other

-- the packet says the next thing that is due, where so many were taken before
abbrev pub is_next : List (Option (List ℕ)) → ℕ → Packet → Bool
is_next due k packet = is_same_as (slice_get due k) (said packet)

-- a packet that is the next one is taken, and any other is set aside
abbrev pub then_taken : List (Option (List ℕ)) → ℕ → Packet → ℕ
then_taken due k packet = if is_next due k packet then k + 1 else k

-- how many of the packets were taken, gone through in order
abbrev pub requests_taken : List (Option (List ℕ)) → List Packet → ℕ
requests_taken due packets = fold (then_taken due) 0 packets

-- The lane of replies.

-- the packet is a reply to this operation, and it fits
abbrev pub Answers : Trace → Option Operation → Packet → Reply → Type 0
Answers trace (Some operation) (InBlock block) reply =
    HoldsReply block.piece.bytes operation.number reply × Fits (longest_value trace) operation reply
Answers trace (Some operation) Bye reply = ⊥
Answers trace None packet reply = ⊥

abbrev pub AnswersNot : Trace → Option Operation → Packet → Type 0
AnswersNot trace operation packet = (reply : Reply) → Answers trace operation packet reply → ⊥

-- These replies were taken from the packets, gone through in order: a packet that is a reply to the next of the operations
-- is taken, and any other is set aside.
abbrev pub Takes : Trace → List Operation → List Packet → List Reply → Type 0
Takes trace operations [] replies = replies ≡ []
Takes trace operations (packet ∷ packets) replies =
    ((reply : Reply) × (others : List Reply) × (replies ≡ reply ∷ others) × Answers trace (slice_get operations 0) packet reply
    × Takes trace (drop 1 operations) packets others)
    ⊎ (AnswersNot trace (slice_get operations 0) packet × Takes trace operations packets replies)

-- Numbers of packets.

-- the number of a command stands in the bytes 4 to 7 of its messages; Bye and a block without a whole header have the number 0
abbrev pub number_said : Option (List ℕ) → ℕ
number_said None = 0
number_said (Some bytes) = message_number bytes

abbrev pub number_in : Packet → ℕ
number_in packet = number_said (said packet)

-- the number of the packet that was expected; Bye has 0, and so has what comes where nothing was
abbrev pub expected_number : Option Operation → ℕ
expected_number None = 0
expected_number (Some operation) = operation.number

abbrev pub expected_said : Option (Option (List ℕ)) → ℕ
expected_said None = 0
expected_said (Some what) = number_said what
