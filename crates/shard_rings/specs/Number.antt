-- The number that a message has.
use Rattle.std.specs.Prelude.{ℕ, nat_le, List, length, drop, if◌then◌else◌}
use Rattle.byteorder.specs.Endian.{little_number}
use Rattle.layout.specs.Sizes.{message_header}

-- that of its command, from the fifth byte on, the lowest byte first; 0 where the bytes are shorter than a header
abbrev pub message_number : List ℕ → ℕ
message_number bytes = if nat_le message_header (length bytes) then little_number 4 (drop 4 bytes) else 0
