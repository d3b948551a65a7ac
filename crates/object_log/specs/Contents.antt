-- What the content of a new object is made of.
use Rattle.std.specs.Prelude.{ℕ, ◌+◌, ◌-◌, List, ◌++◌, length, replicate}
use Rattle.object_log.specs.declared.new_content.NewContent.{NewContent}

-- the three runs of bytes one behind another, and how many bytes these are
abbrev pub bytes_of : NewContent → List ℕ
bytes_of content = content.header.now ++ (content.first.now ++ content.second.now)

abbrev pub length_of : NewContent → ℕ
length_of content = length content.header.now + (length content.first.now + length content.second.now)

-- the bytes, and zeros behind them up to so many
abbrev pub padded : ℕ → List ℕ → List ℕ
padded n bytes = bytes ++ replicate (n - length bytes) 0
