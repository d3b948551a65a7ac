-- What is counted of commands as they are added.
use Rattle.std.specs.Prelude.{◌≡◌, ℕ, ◌≤◌, List, length, count_by, fold, max}
use Rattle.trace_text.specs.declared.command.Command.{Command}
use Rattle.rows.specs.Operation.{is_get, is_scan}

pub record AreCounted (commands : List Command) (gets scans longest : ℕ) : Type 0 where
  pub gets_are : gets ≡ count_by (λ command. is_get command.kind) commands
  pub scans_are : scans ≡ count_by (λ command. is_scan command.kind) commands
  pub longest_is : longest ≡ fold (λ most command. max most command.value.len) 0 commands
  pub gets_most : gets ≤ length commands
  pub scans_most : scans ≤ length commands
