-- One command more, and the end.
use Rattle.std.proofs.Common.{◌≡◌, ◌+◌, ◌<◌, [], drop, get_or, length, arith, sym, ap, ◌∙◌, subst}
use Rattle.std.proofs.lemmas.List.{length-map}
use Rattle.std.proofs.lemmas.Result.{on_ok_weaker}
use Rattle.regions.specs.Shapes.{held_count}
use Rattle.segmented_store.specs.Room.{room}
use Rattle.fragments.specs.Store.{values_of}
use Rattle.value_script.specs.declared.command.Command.{Command}
use Rattle.value_script.specs.declared.command.Command.TheVariants as commands
use Rattle.value_script.specs.Commands.{order, orders}
use Rattle.value_script.specs.Script.{script_in}
use Rattle.values_mode.specs.Text.{answer_line, done, text_from}
use Rattle.values_mode.specs.Left.{values_after}
use Rattle.text_lemmas.specs.Writing.{Goes}
use Rattle.text_lemmas.proofs.Written.{Goes-end, Writes-exit, Writes-same}
use Rattle.values_mode.proofs.Ends.{drop_past}
use Rattle.values_mode.proofs.Serving.{answered, answer_stops, holds_then, serving_kept, values_next}
use Rattle.values_mode.proofs.writing.write_text.Goals as goal

abbrev none : Command
none = commands.Set 0 (record { start = 0; len = 0 })

pub returns-in_err-answer-clause-written : goal.returns-in_err-answer-clause-written
returns-in_err-answer-clause-written g c =
    let i = c.loop-index.invariant in let s = c.loop-index.store in let items = c.commands-command-items in let bytes = c.args.script.now.bytes in
    let n = c.loop-index.index in let r = room (held_count c.args.store.now.region) in let asked = order bytes (get_or items.result.now n none) in
    let same : room (held_count s.region) ≡ r = ap room i.segments.held in
    Writes-exit _ c.from_residual.ensures.1
    (answer_stops r (n + 1) n (values_of s) bytes items.result.now c.args.script.now.commands items.ensures.value none c.loop-index-test.true i.writing
    (Writes-same (ap (λ m. answer_line (n + 1) (done m (values_of s) asked).1) same) c.in_err-answer.ensures.written))

pub returns-in_err-answer-clause-serving : goal.returns-in_err-answer-clause-serving
returns-in_err-answer-clause-serving g c =
    let i = c.loop-index.invariant in let w = c.in_err-answer.ensures in let s = c.loop-index.store in let n = c.loop-index.index in
    serving_kept s c.answer.new.store (room (held_count s.region)) (order c.args.script.now.bytes (get_or c.commands-command-items.result.now n none)) i.serving w.segments w.values

pub returns-in_err-answer-clause-segments : goal.returns-in_err-answer-clause-segments
returns-in_err-answer-clause-segments g c = holds_then _ _ _ c.loop-index.invariant.segments c.in_err-answer.ensures.segments

pub loop-index-preserved : goal.loop-index-preserved
loop-index-preserved g c =
    let i = c.loop-index.invariant in let w = c.in_ok-answer.ensures in
    let s = c.loop-index.store in let t = c.answer.new.store in
    let items = c.commands-command-items in let bytes = c.args.script.now.bytes in let n = c.loop-index.index in
    let r = room (held_count c.args.store.now.region) in
    let within : n < length items.result.now = c.loop-index-test.true in
    let asked = order bytes (get_or items.result.now n none) in
    let same : room (held_count s.region) ≡ r = ap room i.segments.held in
    let values : values_of t ≡ (done r (values_of s) asked).0 = w.values ∙ ap (λ m. (done m (values_of s) asked).0) same in
    let left : values_after r (values_of s) (drop n (script_in c.args.script.now)) ≡ values_after r (values_of t) (drop (n + 1) (script_in c.args.script.now)) =
    ap (λ cs. values_after r (values_of s) (drop n (orders bytes cs))) (sym items.ensures.value)
    ∙ values_next r n (values_of s) bytes items.result.now none within
    ∙ ap (λ v. values_after r v (drop (n + 1) (orders bytes items.result.now))) (sym values)
    ∙ ap (λ cs. values_after r (values_of t) (drop (n + 1) (orders bytes cs))) items.ensures.value in
    record {
      writing = answered r (n + 1) n (values_of s) (values_of t) bytes items.result.now c.args.script.now.commands items.ensures.value none within values i.writing
          (Writes-same (ap (λ m. answer_line (n + 1) (done m (values_of s) asked).1) same) w.written);
      left = sym left ∙ i.left;
      serving = serving_kept s t r asked i.serving w.segments values;
      segments = holds_then _ _ _ i.segments w.segments;
    }

pub returns-clause-written : goal.returns-clause-written
returns-clause-written g c =
    let i = c.loop-index.invariant in let items = c.commands-command-items in let s = c.loop-index.store in let n = c.loop-index.index in
    let r = room (held_count c.args.store.now.region) in let bytes = c.args.script.now.bytes in let script = script_in c.args.script.now in
    let out = c.loop-index-test.false in
    let many : length script ≡ length items.result.now = length-map c.args.script.now.commands (order bytes) ∙ ap length (sym items.ensures.value) in
    let left : drop n script ≡ [] = drop_past n script (omega (arith, out, many)) in
    Goes-end (subst (Goes _ _ _) (ap (text_from r (n + 1) (values_of s)) left) i.writing) c.write_last.ensures.written

pub returns-clause-values : goal.returns-clause-values
returns-clause-values g c =
    let i = c.loop-index.invariant in let items = c.commands-command-items in let s = c.loop-index.store in let n = c.loop-index.index in
    let r = room (held_count c.args.store.now.region) in let bytes = c.args.script.now.bytes in let script = script_in c.args.script.now in
    let out = c.loop-index-test.false in
    let many : length script ≡ length items.result.now = length-map c.args.script.now.commands (order bytes) ∙ ap length (sym items.ensures.value) in
    let left : drop n script ≡ [] = drop_past n script (omega (arith, out, many)) in
    on_ok_weaker c.write_last.result (λ _. sym (ap (values_after r (values_of s)) left) ∙ i.left) c.write_last.ensures.empty
