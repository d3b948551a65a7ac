-- The names so far that have a value.
use Rattle.std.proofs.Common.{◌≡◌, ◌≤◌, take}
use Rattle.std.specs.Prelude.{count_by, is_some}
use Rattle.fragments.specs.Store.{values_of}
use Rattle.values_mode.proofs.answers.count_values.Given as goal

abbrev pub invariant-loop-name : goal.invariant-loop-name
invariant-loop-name l = record {
  counted : l.count ≡ count_by is_some (take l.name (values_of l.store));
  most : l.count ≤ l.name;
}
