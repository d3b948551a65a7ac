use Rattle.std.proofs.Common.{◌≤◌, sym, subst}
use Rattle.small_pools.proofs.ClassFacts.{capacity_at, is_class}
use Rattle.small_pools.proofs.classes.class_capacity.Goals as goal

pub returns-clause-value : goal.returns-clause-value
returns-clause-value c = capacity_at c.args.class c.requires

pub returns-clause-least : goal.returns-clause-least
returns-clause-least c = subst (λ n. 4 ≤ n) (sym (capacity_at c.args.class c.requires)) (is_class c.args.class c.requires).capacity_least

pub returns-clause-most : goal.returns-clause-most
returns-clause-most c = subst (λ n. n ≤ 128) (sym (capacity_at c.args.class c.requires)) (is_class c.args.class c.requires).capacity_most
