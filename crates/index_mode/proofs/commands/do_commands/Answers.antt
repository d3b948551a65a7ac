use Rattle.std.specs.Prelude.{codes, decimal}
use Rattle.layout.specs.Sizes.{key_room, most_keys}
use Rattle.std.proofs.Common.{◌*◌, ◌≤◌, ◌++◌, ap, sym, subst, ◌∙◌}
use Rattle.regions.specs.Shapes.{held_count}
use Rattle.index_tree.specs.Sizes.{most}
use Rattle.index_tree.specs.Store.{index_in}
use Rattle.index_mode.proofs.CommandLists.{behind_end, behind_next, command_next, command_stop, index_by, line_by, text_end, well_formed_now, segments_then, served_still, where_ok}
use Rattle.text_lemmas.proofs.Written.{Goes-end, Writes-exit, Writes-same}
use Rattle.index_mode.proofs.commands.do_commands.Goals as goal

pub do_command-requires-clause-well_formed : goal.do_command-requires-clause-well_formed
do_command-requires-clause-well_formed g c =
    let t = c.args.trace.now in let k = c.commands-command-items in let l = c.loop-command in
    well_formed_now t.bytes k.result.now t.commands k.ensures.value l.command-index c.loop-command-test.true k.ensures.well_formed

pub loop-command-preserved : goal.loop-command-preserved
loop-command-preserved g c =
    let t = c.args.trace.now in let k = c.commands-command-items in let l = c.loop-command in let e = c.in_ok-do_command.ensures in
    let h = held_count l.tree.region in let first = held_count c.args.tree.now.region in let same = l.invariant.segments.held in
    let low = c.loop-command-test.true in
    let index = index_by t.bytes k.result.now t.commands k.ensures.value l.command-index low h first (index_in l.tree) _ same e.index in
    record {
      gone = command_next t.bytes k.result.now t.commands k.ensures.value l.command-index low (most first) (index_in l.tree) _ index l.invariant.gone
          (Writes-same (line_by t.bytes k.result.now t.commands k.ensures.value l.command-index low h first (index_in l.tree) same) e.written);
      behind = behind_next t.bytes k.result.now t.commands k.ensures.value l.command-index low (most first) (index_in l.tree) _ index ∙ l.invariant.behind;
      segments = segments_then l.invariant.segments e.segments;
      serving = served_still l.invariant.serving e.segments;
      memory = subst (λ n. key_room * most_keys ≤ n) (sym e.memory) l.invariant.memory;
    }

pub returns-in_err-do_command-clause-written : goal.returns-in_err-do_command-clause-written
returns-in_err-do_command-clause-written g c =
    let t = c.args.trace.now in let k = c.commands-command-items in let l = c.loop-command in
    let h = held_count l.tree.region in let first = held_count c.args.tree.now.region in let same = l.invariant.segments.held in
    let low = c.loop-command-test.true in
    Writes-exit _ c.from_residual.ensures.1
    (command_stop t.bytes k.result.now t.commands k.ensures.value l.command-index low (most first) (index_in l.tree) l.invariant.gone
    (Writes-same (line_by t.bytes k.result.now t.commands k.ensures.value l.command-index low h first (index_in l.tree) same) c.in_err-do_command.ensures.written))

pub returns-in_err-do_command-clause-segments : goal.returns-in_err-do_command-clause-segments
returns-in_err-do_command-clause-segments g c = segments_then c.loop-command.invariant.segments c.in_err-do_command.ensures.segments

pub returns-clause-written : goal.returns-clause-written
returns-clause-written g c =
    let t = c.args.trace.now in let k = c.commands-command-items in let l = c.loop-command in
    Goes-end (text_end t.bytes k.result.now t.commands (most (held_count c.args.tree.now.region)) l.command-index (index_in l.tree) k.ensures.value c.loop-command-test.false l.invariant.gone)
    (Writes-same (ap (λ n. codes "index " ++ decimal n ++ codes "\n") c.len.ensures) c.write_count.ensures)

pub returns-clause-index : goal.returns-clause-index
returns-clause-index g c =
    let t = c.args.trace.now in let k = c.commands-command-items in let l = c.loop-command in
    where_ok c.write_count.result
    (sym (behind_end t.bytes k.result.now t.commands (most (held_count c.args.tree.now.region)) l.command-index (index_in l.tree) k.ensures.value c.loop-command-test.false) ∙ l.invariant.behind)
