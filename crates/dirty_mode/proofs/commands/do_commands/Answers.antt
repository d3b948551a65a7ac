use Rattle.std.proofs.Common.{ap, subst, sym, ◌+◌, ◌≤◌, length, drop}
use Rattle.trace_text.specs.Operation.{operations}
use Rattle.dirty_region.specs.Queues.{Queue}
use Rattle.dirty_mode.proofs.CommandLists.{puts_of, room_now, room_next, command_next, command_stop, text_end}
use Rattle.dirty_mode.proofs.Flushing.{Keeps-trans}
use Rattle.text_lemmas.proofs.Written.{Goes-end, Writes-exit}
use Rattle.dirty_mode.proofs.commands.do_commands.Goals as goal

pub do_command-requires-clause-room : goal.do_command-requires-clause-room
do_command-requires-clause-room g c =
    let t = c.args.trace.now in let k = c.commands-command-items in let l = c.loop-command in
    room_now t.bytes k.result.now t.commands k.ensures.value l.command-index c.loop-command-test.true l.dirty.queue.puts l.dirty.room l.invariant.room

pub loop-command-preserved : goal.loop-command-preserved
loop-command-preserved g c =
    let t = c.args.trace.now in let k = c.commands-command-items in let l = c.loop-command in let e = c.in_ok-do_command.ensures in
    let now = ap (λ (q : Queue). q.puts) c.in_ok-do_command.ensures.queue in
    record {
      whole = ap (λ (q : Queue). q.out) c.in_ok-do_command.ensures.queue;
      gone = command_next t.bytes k.result.now t.commands k.ensures.value l.command-index c.loop-command-test.true c.args.most l.dirty.queue.puts _ now l.invariant.gone c.in_ok-do_command.ensures.written;
      room = subst (λ n. length c.do_command.new.dirty.queue.puts + puts_of (drop (l.command-index + 1) (operations t.bytes t.commands)) ≤ n) (sym c.in_ok-do_command.ensures.kept.room)
          (room_next t.bytes k.result.now t.commands k.ensures.value l.command-index c.loop-command-test.true c.args.most l.dirty.room l.dirty.queue.puts _ now l.invariant.room);
      kept = Keeps-trans l.invariant.kept c.in_ok-do_command.ensures.kept;
    }

pub returns-in_err-do_command-clause-written : goal.returns-in_err-do_command-clause-written
returns-in_err-do_command-clause-written g c =
    let t = c.args.trace.now in let k = c.commands-command-items in let l = c.loop-command in
    Writes-exit _ c.from_residual.ensures.1
    (command_stop t.bytes k.result.now t.commands k.ensures.value l.command-index c.loop-command-test.true c.args.most l.dirty.queue.puts l.invariant.gone c.in_err-do_command.ensures.written)

pub returns-clause-written : goal.returns-clause-written
returns-clause-written g c =
    let t = c.args.trace.now in let k = c.commands-command-items in let l = c.loop-command in
    Goes-end (text_end t.bytes k.result.now t.commands c.args.most l.command-index l.dirty.queue.puts k.ensures.value c.loop-command-test.false l.invariant.gone) c.flush_all.ensures.written

pub returns-in_err-do_command-clause-kept : goal.returns-in_err-do_command-clause-kept
returns-in_err-do_command-clause-kept g c = Keeps-trans c.loop-command.invariant.kept c.in_err-do_command.ensures.kept

pub returns-clause-kept : goal.returns-clause-kept
returns-clause-kept g c = Keeps-trans c.loop-command.invariant.kept c.flush_all.ensures.kept
