use Rattle.part_examples.proofs.FirstRow.{first_of}
use Rattle.part_examples.proofs.in_order.first_from.Goals as goal

pub returns : goal.returns
returns g c = first_of c.next.result _ _ c.next.new.self c.rows_from-rows.ensures c.next.ensures
