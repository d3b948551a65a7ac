-- All was written but the text of the other commands, and these leave the values that all leave.
use Rattle.std.proofs.Common.{◌≡◌, ◌+◌, drop}
use Rattle.regions.specs.Shapes.{held_count}
use Rattle.segmented_store.specs.Room.{room}
use Rattle.segmented_store.specs.Segments.{HoldsSegments}
use Rattle.fragments.specs.Store.{values_of}
use Rattle.value_script.specs.Script.{script_in}
use Rattle.values_mode.specs.Text.{text_from}
use Rattle.values_mode.specs.Left.{values_after}
use Rattle.values_mode.specs.inside.Steps.{IsServing}
use Rattle.text_lemmas.specs.Writing.{Goes}
use Rattle.values_mode.proofs.writing.write_text.Given as goal

abbrev pub invariant-loop-index : goal.invariant-loop-index
invariant-loop-index g l = record {
  writing : Goes l.fn.out l.out (text_from (room (held_count l.fn.store.region)) 1 (values_of l.fn.store) (script_in l.script))
      (text_from (room (held_count l.fn.store.region)) (l.index + 1) (values_of l.store) (drop l.index (script_in l.script)));
  left : values_after (room (held_count l.fn.store.region)) (values_of l.store) (drop l.index (script_in l.script))
      ≡ values_after (room (held_count l.fn.store.region)) (values_of l.fn.store) (script_in l.script);
  serving : IsServing l.store;
  segments : HoldsSegments l.fn.store.region l.store.region;
}
