-- Texts that stay on one line.
use Rattle.std.specs.Prelude.{◌==◌, Bool, not, ℕ, List}
use Rattle.std.specs.List.{list_all}
use Rattle.rows.specs.Apply.{Reply}
use Rattle.cache_model.specs.Holds.{ReplyBytesHold}

-- no LF is among the bytes
abbrev pub is_unbroken : List ℕ → Bool
is_unbroken text = list_all (λ b. not (b == 10)) text

-- the value or the keys in a reply are unbroken
abbrev pub IsUnbroken : Reply → Type 0
IsUnbroken reply = ReplyBytesHold is_unbroken is_unbroken reply
