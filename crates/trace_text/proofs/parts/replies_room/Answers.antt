-- What the commands count is what their operations count.
use Rattle.std.proofs.Common.{refl}
use Rattle.rows.specs.Operation.{is_get, is_scan}
use Rattle.trace_text.specs.Reading.{version_in}
use Rattle.trace_text.proofs.Tallies.{count_in, longest_in}
use Rattle.trace_text.proofs.parts.replies_room.Goals as goal

pub returns : goal.returns
returns c bytes lie = rw (
  ← count_in bytes (λ o. is_get o.kind) c.args.commands.now,
  ← count_in bytes (λ o. is_scan o.kind) c.args.commands.now,
  ← longest_in (version_in bytes) bytes c.args.commands.now lie,
) (rw (
  c.gets-gets.ensures.value,
  c.from.ensures,
  c.longest_value.ensures,
  c.scans-scans.ensures.value,
  c.from-2.ensures,
) refl)
