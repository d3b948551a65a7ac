-- The lines of the commands so far are written.
use Rattle.std.proofs.Common.{◌≡◌, ◌+◌, ◌≤◌, length, drop}
use Rattle.trace_text.specs.Operation.{operations}
use Rattle.dirty_mode.specs.DirtyText.{text_of, lines_from}
use Rattle.text_lemmas.specs.Writing.{Goes}
use Rattle.dirty_region.specs.State.{Keeps}
use Rattle.dirty_mode.proofs.CommandLists.{puts_of}
use Rattle.dirty_mode.proofs.commands.do_commands.Given as goal

abbrev pub invariant-loop-command : goal.invariant-loop-command
invariant-loop-command g l = record {
  whole : l.dirty.queue.out ≡ 0;
  gone : Goes l.fn.out l.out
      (text_of (lines_from l.most (operations l.trace.bytes l.trace.commands) l.fn.dirty.queue.puts))
      (text_of (lines_from l.most (drop l.command-index (operations l.trace.bytes l.trace.commands)) l.dirty.queue.puts));
  room : length l.dirty.queue.puts + puts_of (drop l.command-index (operations l.trace.bytes l.trace.commands)) ≤ l.dirty.room;
  kept : Keeps l.fn.dirty l.dirty;
}
