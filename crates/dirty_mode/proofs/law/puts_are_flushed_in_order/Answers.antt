use Rattle.std.specs.Prelude.{◌/◌}
use Rattle.layout.specs.Sizes.{segment_pages}
use Rattle.segmented_store.specs.Room.{room}
use Rattle.dirty_mode.proofs.InOrder.{in_order}
use Rattle.dirty_mode.proofs.law.puts_are_flushed_in_order.Goals as goal

pub returns : goal.returns
returns c = λ trace pages. in_order (room (pages / segment_pages)) trace
