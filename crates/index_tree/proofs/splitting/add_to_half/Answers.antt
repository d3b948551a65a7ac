use Rattle.std.proofs.Common.{◌-◌, [], ◌∷◌}
use Rattle.index_tree.specs.Writes.{with_entry}
use Rattle.index_tree.proofs.InsertRows.{keyed}
use Rattle.index_tree.proofs.LeafCuts.{add_high, add_low}
use Rattle.index_tree.proofs.Touches.{both_held, either_behind, either_here, touched_by}
use Rattle.index_tree.proofs.splitting.add_to_half.Goals as goal

pub returns-then-i-le-HALF-clause-halves : goal.returns-then-i-le-HALF-clause-halves
returns-then-i-le-HALF-clause-halves c =
    add_low c.args.region.now c.add_at.new.region c.args.at c.args.new c.args.i (keyed c.args.key.now c.args.number) c.requires.node c.requires.new c.requires.apart c.requires.half c.requires.new_half
    c.if-i-le-HALF.true c.add_at.ensures

pub returns-then-i-le-HALF-clause-touched : goal.returns-then-i-le-HALF-clause-touched
returns-then-i-le-HALF-clause-touched c =
    touched_by (c.args.at ∷ c.args.new ∷ []) c.args.at (with_entry c.args.i (keyed c.args.key.now c.args.number)) c.args.region.now c.add_at.new.region
    (both_held c.args.region.now c.args.at c.args.new c.requires.node c.requires.new) (either_here c.args.at c.args.new) c.add_at.ensures

pub returns-else-i-le-HALF-clause-halves : goal.returns-else-i-le-HALF-clause-halves
returns-else-i-le-HALF-clause-halves c =
    add_high c.args.region.now c.add_at-else-i-le-HALF.new.region c.args.at c.args.new c.args.i (keyed c.args.key.now c.args.number) c.requires.node c.requires.new c.requires.apart c.requires.half c.requires.new_half
    c.if-i-le-HALF.false c.requires.i c.add_at-else-i-le-HALF.ensures

pub returns-else-i-le-HALF-clause-touched : goal.returns-else-i-le-HALF-clause-touched
returns-else-i-le-HALF-clause-touched c =
    touched_by (c.args.at ∷ c.args.new ∷ []) c.args.new (with_entry (c.args.i - 8) (keyed c.args.key.now c.args.number)) c.args.region.now c.add_at-else-i-le-HALF.new.region
    (both_held c.args.region.now c.args.at c.args.new c.requires.node c.requires.new) (either_behind c.args.at c.args.new) c.add_at-else-i-le-HALF.ensures
