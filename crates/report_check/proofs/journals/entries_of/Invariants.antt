-- The entries so far, and those of the fields that are left, are those of all fields.
use Rattle.std.proofs.Common.{◌≡◌, ◌+◌, ◌≤◌, vec_len}
use Rattle.std.specs.Option.{option_map}
use Rattle.report_check.specs.Spelled.{entries_of}
use Rattle.report_check.specs.inside.Spells.{fields_of, room_of}
use Rattle.report_check.proofs.Entries.{behind}
use Rattle.report_check.proofs.journals.entries_of.Given as goal

abbrev pub invariant-loop-rest : goal.invariant-loop-rest
invariant-loop-rest l = record {
  joined : entries_of l.count (fields_of (option_map (λ text. text.now) l.fields))
      ≡ behind l.entries.items (entries_of l.count (fields_of (option_map (λ text. text.now) l.rest)));
  few : vec_len l.entries + room_of (option_map (λ text. text.now) l.rest) ≤ room_of (option_map (λ text. text.now) l.fields);
}

abbrev pub decreases-loop-rest : goal.decreases-loop-rest
decreases-loop-rest l = room_of (option_map (λ text. text.now) l.rest)
