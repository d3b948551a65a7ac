-- The lines of a report, and the first at which two texts differ.
use Rattle.std.specs.Prelude.{ℕ, ◌+◌, Bool, false, List, [], ◌∷◌, if◌then◌else◌, Option, Some, None}
use Rattle.std.specs.Str.{bytes_eq}
use Rattle.cache_model.specs.Report.{text_lines}

-- a line without its LF; none is what stands behind the last LF, if anything does, which is no line of a report
abbrev pub Line : Type 0
Line = Option (List ℕ)

abbrev pub unended : List ℕ → List Line
unended [] = []
unended (b ∷ bytes) = None ∷ []

-- a text comes before the lines of those behind it, if there are any
abbrev pub before : List ℕ → List (List ℕ) → List Line → List Line
before last [] lines = unended last
before text (next ∷ texts) lines = Some text ∷ lines

abbrev pub ended : List (List ℕ) → List Line
ended [] = []
ended (text ∷ texts) = before text texts (ended texts)

-- the lines of bytes that are cut at each LF
abbrev pub lines_of : List ℕ → List Line
lines_of bytes = ended (text_lines bytes)

-- what does not end is like no other line
abbrev pub is_same_line : Line → Line → Bool
is_same_line (Some a) (Some b) = bytes_eq a b
is_same_line (Some a) None = false
is_same_line None b = false

-- the first line at which the two differ, one that is missing or surplus included; the first of them has this number
abbrev pub first_difference : ℕ → List Line → List Line → Option ℕ
first_difference line [] [] = None
first_difference line [] (y ∷ ys) = Some line
first_difference line (x ∷ xs) [] = Some line
first_difference line (x ∷ xs) (y ∷ ys) = if is_same_line x y then first_difference (line + 1) xs ys else Some line
