-- The lines of the commands so far are written, and the index behind all of them is that behind those that are left.
use Rattle.std.proofs.Common.{◌≡◌, ◌*◌, ◌≤◌, drop, length}
use Rattle.layout.specs.Sizes.{key_room, most_keys}
use Rattle.trace_text.specs.Operation.{operations}
use Rattle.regions.specs.Shapes.{held_count}
use Rattle.index_tree.specs.Sizes.{most}
use Rattle.segmented_store.specs.Segments.{HoldsSegments}
use Rattle.index_tree.specs.Store.{index_in}
use Rattle.index_mode.specs.IndexText.{index_after, text_from}
use Rattle.index_mode.specs.inside.Held.{IsServing}
use Rattle.text_lemmas.specs.Writing.{Goes}
use Rattle.index_mode.proofs.commands.do_commands.Given as goal

abbrev pub invariant-loop-command : goal.invariant-loop-command
invariant-loop-command g l = record {
  gone : Goes l.fn.out l.out
      (text_from (most (held_count l.fn.tree.region)) (index_in l.fn.tree) (operations l.trace.bytes l.trace.commands))
      (text_from (most (held_count l.fn.tree.region)) (index_in l.tree) (drop l.command-index (operations l.trace.bytes l.trace.commands)));
  behind : index_after (most (held_count l.fn.tree.region)) (index_in l.tree) (drop l.command-index (operations l.trace.bytes l.trace.commands))
      ≡ index_after (most (held_count l.fn.tree.region)) (index_in l.fn.tree) (operations l.trace.bytes l.trace.commands);
  segments : HoldsSegments l.fn.tree.region l.tree.region;
  serving : IsServing l.tree;
  memory : key_room * most_keys ≤ length l.keys;
}
