use Rattle.std.proofs.Common.{ap, [], ◌∙◌, append-nil}
use Rattle.std.specs.Prelude.{◌++◌, codes, decimal}
use Rattle.std.proofs.lemmas.Result.{on_ok_weaker}
use Rattle.trace_text.specs.Parsed.{trace_in}
use Rattle.segmented_store.specs.Room.{room}
use Rattle.dirty_region.specs.Queues.{Queue}
use Rattle.dirty_mode.specs.DirtyText.{lines_from, put_count, text_of}
use Rattle.text_lemmas.proofs.Written.{Writes-then, Writes-same, Writes-stop, Writes-exit, join}
use Rattle.dirty_mode.proofs.text.write_text.Goals as goal

pub returns-in_err-do_commands-clause-written : goal.returns-in_err-do_commands-clause-written
returns-in_err-do_commands-clause-written g c =
    let t = trace_in c.args.trace.now in let lines = text_of (lines_from (room c.args.segments) t.operations []) in
    let bound = ap (λ m. text_of (lines_from m t.operations c.args.dirty.now.queue.puts)) c.room.ensures in
    let none = ap (λ (q : Queue). text_of (lines_from (room c.args.segments) t.operations q.puts)) c.requires.empty in
    Writes-exit _ c.from_residual.ensures.1 (Writes-same (join lines (codes "dirty ") (decimal (put_count t)) (codes "\n")) (Writes-stop _ (Writes-same (bound ∙ none) c.in_err-do_commands.ensures.written)))

pub returns-in_err-write_count-clause-written : goal.returns-in_err-write_count-clause-written
returns-in_err-write_count-clause-written g c =
    let t = trace_in c.args.trace.now in let lines = text_of (lines_from (room c.args.segments) t.operations []) in
    let bound = ap (λ m. text_of (lines_from m t.operations c.args.dirty.now.queue.puts)) c.room.ensures in
    let none = ap (λ (q : Queue). text_of (lines_from (room c.args.segments) t.operations q.puts)) c.requires.empty in
    let count = ap (λ n. codes "dirty " ++ decimal n ++ codes "\n") c.put_count.ensures in
    Writes-exit _ c.from_residual-in_err-write_count.ensures.1
    (Writes-same (join lines (codes "dirty ") (decimal (put_count t)) (codes "\n")) (Writes-then (Writes-same (bound ∙ none) c.in_ok-do_commands.ensures.written) (Writes-same count c.in_err-write_count.ensures)))

pub returns-clause-written : goal.returns-clause-written
returns-clause-written g c =
    let t = trace_in c.args.trace.now in let lines = text_of (lines_from (room c.args.segments) t.operations []) in
    let bound = ap (λ m. text_of (lines_from m t.operations c.args.dirty.now.queue.puts)) c.room.ensures in
    let none = ap (λ (q : Queue). text_of (lines_from (room c.args.segments) t.operations q.puts)) c.requires.empty in
    let count = ap (λ n. codes "dirty " ++ decimal n ++ codes "\n") c.put_count.ensures in
    Writes-same (append-nil _) (Writes-then
    (Writes-same (join lines (codes "dirty ") (decimal (put_count t)) (codes "\n")) (Writes-then (Writes-same (bound ∙ none) c.in_ok-do_commands.ensures.written) (Writes-same count c.in_ok-write_count.ensures)))
    c.flush.ensures.wrote)

pub returns-clause-queue : goal.returns-clause-queue
returns-clause-queue g c = on_ok_weaker c.flush.result (λ _. c.in_ok-do_commands.ensures.queue) c.flush.ensures.empty
