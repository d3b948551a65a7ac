-- The lines of the answers to commands that stand one behind another.
use Rattle.std.specs.Prelude.{ℕ, ◌-◌, List, take, drop, flat_map}
use Rattle.trace_text.specs.Parsed.{Parsed}
use Rattle.rows.specs.Apply.{Reply}
use Rattle.cache_model.specs.Report.{line, answer_text}
use Rattle.run_log.specs.Replies.{Replies}

-- the lines of the answers from one on, up to another
abbrev pub answer_lines : List (ℕ × Reply) → ℕ → ℕ → List ℕ
answer_lines answers from to = flat_map (λ answer. line (answer_text answer)) (take (to - from) (drop from answers))

-- how many lines are given at a time, but for the last ones
abbrev pub piece_commands : ℕ
piece_commands = 1024

-- the answers to the commands of a run on so many shards, of which so many were given
pub record LinesState : Type 0 where
  pub trace : Parsed
  pub shards : ℕ
  pub logs : List Replies
  pub given : ℕ
