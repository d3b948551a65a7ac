-- A run that was answered.
use Rattle.std.specs.Prelude.{ℕ, List}
use Rattle.trace_text.specs.Parsed.{Parsed, trace_in}
use Rattle.rows.specs.Apply.{Reply}
use Rattle.cache_model.specs.Logged.{AreLogged}
use Rattle.run_log.specs.Replies.{Replies}
use Rattle.report_text.specs.Views.{replies_in}

-- the logs of so many shards have these answers to the commands of the trace
abbrev pub Have : Parsed → ℕ → List Replies → List (ℕ × Reply) → Type 0
Have trace shards logs answers = AreLogged (trace_in trace) shards (replies_in logs) answers
