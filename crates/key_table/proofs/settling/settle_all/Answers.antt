use Rattle.key_table.proofs.Both.{settles_sorted}
use Rattle.key_table.proofs.settling.settle_all.Goals as goal

pub drain-requires : goal.drain-requires
drain-requires g c = settles_sorted (g.K.Keys.has_row c.args.keys.now) (g.K.Keys.key_of c.args.keys.now) c.args.order.now c.args.late.now c.sort.new.self c.requires c.sort.ensures.numbers
