-- What the commands ask is well formed.
use Rattle.value_script.proofs.Placed.{well_formed}
use Rattle.value_script.proofs.script.Script.commands.Goals as goal

pub returns-clause-well_formed : goal.returns-clause-well_formed
returns-clause-well_formed c = rw (← c.self.view_is) (well_formed _ _ c.self.invariant.sound)
