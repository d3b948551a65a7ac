use Rattle.std.proofs.Common.{true≢false, sym, ap, ◌∙◌}
use Rattle.std.specs.Prelude.{is_some}
use Rattle.rows.specs.Key.{in_table}
use Rattle.embedded_cache.proofs.Gone.{found_has}
use Rattle.embedded_cache.proofs.scanning.find_row.Goals as goal

pub unreachable-requires : goal.unreachable-requires
unreachable-requires c =
    true≢false (sym c.requires.has ∙ (sym (found_has (in_table c.args.table c.args.key.now) c.args.store.now.rows) ∙ ap is_some c.in_default.ensures.found))
