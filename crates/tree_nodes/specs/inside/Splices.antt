-- Bytes written over others, put in, and taken out.
use Rattle.std.specs.Prelude.{ℕ, ◌+◌, List, ◌++◌, length, take, drop}

-- written over those from `at` on
abbrev pub over : ℕ → List ℕ → List ℕ → List ℕ
over at bytes content = take at content ++ (bytes ++ drop (at + length bytes) content)

-- put in at `at`: so many bytes from there on stand behind them, and what they come to stand on is gone
abbrev pub put_in : ℕ → ℕ → List ℕ → List ℕ → List ℕ
put_in at moved bytes content =
    take at content ++ (bytes ++ (take moved (drop at content) ++ drop (at + moved + length bytes) content))

-- as many bytes as are given are taken out at `at`: so many bytes behind them stand there, and behind these the given ones
abbrev pub taken_out : ℕ → ℕ → List ℕ → List ℕ → List ℕ
taken_out at moved bytes content =
    take at content ++ (take moved (drop (at + length bytes) content) ++ (bytes ++ drop (at + moved + length bytes) content))
