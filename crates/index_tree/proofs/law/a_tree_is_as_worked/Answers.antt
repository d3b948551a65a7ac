use Rattle.std.proofs.Common.{refl}
use Rattle.index_tree.proofs.law.a_tree_is_as_worked.Goals as goal

pub returns-clause-held : goal.returns-clause-held
returns-clause-held c = refl

pub returns-clause-leaves : goal.returns-clause-leaves
returns-clause-leaves c = refl

pub returns-clause-places : goal.returns-clause-places
returns-clause-places c = refl

pub returns-clause-row : goal.returns-clause-row
returns-clause-row c = refl

pub returns-clause-top : goal.returns-clause-top
returns-clause-top c = refl

pub returns-clause-linked : goal.returns-clause-linked
returns-clause-linked c = (refl, refl)
