use Rattle.std.proofs.Common.{ap, ◌∙◌}
use Rattle.index_tree.specs.Scans.{scanned}
use Rattle.trace_text.specs.Operation.{operation}
use Rattle.index_tree.specs.Store.{index_in}
use Rattle.index_mode.specs.IndexText.{scanned_keys}
use Rattle.index_mode.proofs.CommandLists.{keys_are}
use Rattle.index_mode.proofs.commands.scan.Goals as goal

pub write_scan-requires-clause-keys : goal.write_scan-requires-clause-keys
write_scan-requires-clause-keys g c =
    let o = operation c.args.trace.now.bytes c.args.command.now in let index = index_in c.args.tree.now in
    (scanned_keys o index, keys_are o index _ c.range-scanned.ensures.entries (c.range-scanned.ensures.bytes ∙ ap (λ k. scanned k c.args.command.now.count index) c.key.ensures.value))

pub returns-clause-written : goal.returns-clause-written
returns-clause-written g c =
    let o = operation c.args.trace.now.bytes c.args.command.now in let index = index_in c.args.tree.now in
    c.write_scan.ensures (scanned_keys o index) (keys_are o index _ c.range-scanned.ensures.entries (c.range-scanned.ensures.bytes ∙ ap (λ k. scanned k c.args.command.now.count index) c.key.ensures.value))
