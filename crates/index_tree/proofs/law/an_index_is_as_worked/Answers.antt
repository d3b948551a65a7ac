use Rattle.std.proofs.Common.{refl}
use Rattle.tree_nodes.specs.Order.{key_cmp}
use Rattle.index_tree.proofs.law.an_index_is_as_worked.Goals as goal

pub returns-clause-first : goal.returns-clause-first
unfolding key_cmp
returns-clause-first c = refl

pub returns-clause-second : goal.returns-clause-second
unfolding key_cmp
returns-clause-second c = refl

pub returns-clause-found : goal.returns-clause-found
unfolding key_cmp
returns-clause-found c = refl

pub returns-clause-scan : goal.returns-clause-scan
unfolding key_cmp
returns-clause-scan c = refl

pub returns-clause-from : goal.returns-clause-from
unfolding key_cmp
returns-clause-from c = refl

pub returns-clause-replaced : goal.returns-clause-replaced
unfolding key_cmp
returns-clause-replaced c = refl

pub returns-clause-erased : goal.returns-clause-erased
unfolding key_cmp
returns-clause-erased c = refl

pub returns-clause-missing : goal.returns-clause-missing
unfolding key_cmp
returns-clause-missing c = refl
