-- A report that was compared with what it should be, as far as some line.
use Rattle.std.specs.Prelude.{◌≡◌, ℕ, ◌+◌, ◌-◌, ◌≤◌, Bool, false, List, ◌++◌, length, map, drop, Option, Some, None, Result, MatchResult}
use Rattle.trace_text.specs.Parsed.{Parsed}
use Rattle.report_check.specs.Lines.{Line, first_difference, is_same_line, lines_of}
use Rattle.report_check.specs.declared.comparing.Left.{Left}

-- two lines are there, and the same
abbrev pub are_same : Option Line → Option Line → Bool
are_same (Some found) (Some expected) = is_same_line found expected
are_same (Some found) None = false
are_same None expected = false

-- Bytes have these lines in front, and what is left behind them, whose first line has the next number; or they have not, and this line is
-- the first that differs, whatever should come behind these lines.
pub record IsBehind (bytes : List ℕ) (line : ℕ) (lines : List Line) (left : Left) : Type 0 where
  pub same : (later : List Line) → first_difference line (lines_of bytes) (lines ++ later) ≡ first_difference left.line (lines_of left.bytes.now) later
  pub numbered : left.line ≡ line + length lines
  pub behind : lines_of left.bytes.now ≡ drop (left.line - line) (lines_of bytes)
  pub shorter : left.line + length left.bytes.now ≤ line + length bytes

abbrev pub Differs : List ℕ → ℕ → List Line → ℕ → Type 0
Differs bytes line lines at = (later : List Line) → first_difference line (lines_of bytes) (lines ++ later) ≡ Some at

abbrev pub AreCompared : List ℕ → ℕ → List Line → Result Left ℕ → Type 0
AreCompared bytes line lines result = MatchResult result (IsBehind bytes line lines) (Differs bytes line lines)

-- behind so many answers, one to each command, the bytes have these texts on lines, one of each shard, and then what is behind
pub record IsPrinted (trace : Parsed) (bytes behind : List ℕ) (printed : List (List ℕ)) : Type 0 where
  pub many : length printed ≡ trace.shards
  pub lines : drop (length trace.commands) (lines_of bytes) ≡ map {B = Line} (λ text. Some text) printed ++ lines_of behind
  pub within : length behind ≤ length bytes
