use Rattle.std.proofs.Common.{ap}
use Rattle.trace_text.specs.Operation.{operation}
use Rattle.index_tree.specs.Sizes.{most}
use Rattle.index_tree.specs.Store.{index_in}
use Rattle.regions.specs.Shapes.{held_count}
use Rattle.index_mode.specs.IndexText.{answer_line}
use Rattle.index_mode.proofs.CommandLists.{put_at, same_index}
use Rattle.text_lemmas.proofs.Written.{Writes-same}
use Rattle.index_mode.proofs.commands.put.Goals as goal

pub returns-clause-index : goal.returns-clause-index
returns-clause-index g c =
    let old = c.args.tree.now in let e = c.insert-had.ensures in
    (put_at c.insert-had.result (most (held_count old.region)) (operation c.args.trace.now.bytes c.args.command.now) (index_in old) (index_in c.insert-had.new.self)
    c.key.result.now c.key.ensures.value e.full (same_index c.insert-had.result old c.insert-had.new.self e.unchanged) e.had e.index).0

pub returns-clause-written : goal.returns-clause-written
returns-clause-written g c =
    let old = c.args.tree.now in let e = c.insert-had.ensures in
    Writes-same (ap (answer_line c.args.command.now.number)
    (put_at c.insert-had.result (most (held_count old.region)) (operation c.args.trace.now.bytes c.args.command.now) (index_in old) (index_in c.insert-had.new.self)
    c.key.result.now c.key.ensures.value e.full (same_index c.insert-had.result old c.insert-had.new.self e.unchanged) e.had e.index).1) c.write_put.ensures
