-- The objects of a segment, as they are read from its bytes. A segment has 131,072 bytes. Its objects stand from
-- offset 0 to `used` without gaps, each behind a descriptor of 8 bytes.
use Rattle.std.specs.Prelude.{◌≡◌, ℕ, zero, suc, ◌+◌, ◌-◌, ◌%◌, ◌≤◌, ◌⊎◌, ◌==◌, nat_lt, Bool, true, false, cond, if◌then◌else◌, List, [], ◌∷◌, ◌++◌, length, take, drop, replicate, map, slice_index, Any}
use Rattle.byteorder.specs.Endian.{little_number}
use Rattle.layout.specs.Sizes.{segment, descriptor, least_object, greatest_object}
use Rattle.object_log.specs.declared.descriptor.Descriptor.{Descriptor}
use Rattle.object_log.specs.declared.descriptor.State.{State}
use Rattle.object_log.specs.declared.descriptor.State.TheVariants.{End, Live, Dead}

-- an object: the offset of its descriptor, and what the bytes of that say. A state is 1 for live and 2 for dead,
-- and the size is that of the whole object, its descriptor included
pub record Object : Type 0 where
  pub at : ℕ
  pub state : ℕ
  pub kind : ℕ
  pub size : ℕ

-- the state that a byte stands for, and the byte of each state
abbrev pub state_of : ℕ → State
state_of byte = cond (byte == 1) Live (cond (byte == 2) Dead End)

abbrev pub state_byte : State → ℕ
state_byte End = 0
state_byte Live = 1
state_byte Dead = 2

abbrev pub is_live : State → Bool
is_live End = false
is_live Live = true
is_live Dead = false

-- the descriptor at the offset: byte 0 is the state, byte 1 the kind, and bytes 4 to 7 are the size, the
-- lowest byte first
abbrev pub descriptor_at : List ℕ → ℕ → Descriptor
descriptor_at bytes at = record { state = state_of (slice_index bytes at); kind = slice_index bytes (at + 1); size = little_number 4 (drop (at + 4) bytes) }

-- the object that a descriptor describes
abbrev pub described : ℕ → Descriptor → Object
described at d = record { at = at; state = state_byte d.state; kind = d.kind; size = d.size }

-- the object whose descriptor stands at the offset
abbrev pub object_at : List ℕ → ℕ → Object
object_at bytes at = record { at = at; state = slice_index bytes at; kind = slice_index bytes (at + 1); size = little_number 4 (drop (at + 4) bytes) }

-- at most n objects: the one at the offset `at`, then the one behind it, and so on up to `used`
abbrev pub objects_from : ℕ → List ℕ → ℕ → ℕ → List Object
objects_from zero bytes at used = []
objects_from (suc n) bytes at used =
    if nat_lt at used then object_at bytes at ∷ objects_from n bytes (at + (object_at bytes at).size) used else []

-- the objects of a segment; there are fewer than bytes
abbrev pub objects : List ℕ → ℕ → List Object
objects bytes used = objects_from used bytes 0 used

abbrev pub IsSize : ℕ → Type 0
IsSize n = (least_object ≤ n) × (n ≤ greatest_object) × (n % 8 ≡ 0)

-- what stands there may be an object: bytes 2 and 3 of its descriptor are zero
abbrev pub IsObject : List ℕ → Object → Type 0
IsObject bytes o =
    ((o.state ≡ 1) ⊎ (o.state ≡ 2)) × (1 ≤ o.kind) × (slice_index bytes (o.at + 2) ≡ 0) × (slice_index bytes (o.at + 3) ≡ 0) × IsSize o.size

-- these objects stand from the offset `at` to `used`, without gaps
abbrev pub AreObjects : List ℕ → ℕ → ℕ → List Object → Type 0
AreObjects bytes at used [] = at ≡ used
AreObjects bytes at used (o ∷ os) = (o ≡ object_at bytes at) × IsObject bytes o × AreObjects bytes (at + o.size) used os

-- an end descriptor stands there
abbrev pub IsEnd : List ℕ → ℕ → Type 0
IsEnd bytes at = take descriptor (drop at bytes) ≡ replicate descriptor 0

-- the bytes are a segment whose objects end at `used`, and an end descriptor follows where it has room
pub record IsSegment (bytes : List ℕ) (used : ℕ) : Type 0 where
  pub long : length bytes ≡ segment
  pub inside : used ≤ segment
  pub objects : AreObjects bytes 0 used (objects bytes used)
  pub ended : used + descriptor ≤ segment → IsEnd bytes used

-- one of the objects stands at the offset
abbrev pub StandsAt : ℕ → List Object → Type 0
StandsAt at os = Any (λ o. o.at ≡ at) os

-- one of the objects stands at the offset, and is live
abbrev pub LivesAt : ℕ → List Object → Type 0
LivesAt at os = Any (λ o. (o.at ≡ at) × (o.state ≡ 1)) os

abbrev pub live : ℕ → ℕ → ℕ → Object
live at kind size = record { at = at; state = 1; kind = kind; size = size }

-- the objects, of which the one at the offset is dead
abbrev pub killed : ℕ → List Object → List Object
killed at os = map {A = Object} (λ o. if o.at == at then record o { state = 2 } else o) os

-- the content of an object of that size at the offset, and the bytes with ws as that content
abbrev pub content_at : ℕ → ℕ → List ℕ → List ℕ
content_at at size bytes = take (size - descriptor) (drop (at + descriptor) bytes)

abbrev pub with_content : ℕ → List ℕ → List ℕ → List ℕ
with_content at ws bytes = take (at + descriptor) bytes ++ (ws ++ drop (at + descriptor + length ws) bytes)

-- where the objects stand
abbrev pub offsets : List Object → List ℕ
offsets os = map (λ o. o.at) os
