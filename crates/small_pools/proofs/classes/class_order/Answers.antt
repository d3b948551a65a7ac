use Rattle.std.proofs.Common.{◌≤◌, sym, subst}
use Rattle.small_pools.proofs.ClassFacts.{order_at, is_class}
use Rattle.small_pools.proofs.classes.class_order.Goals as goal

pub returns-clause-value : goal.returns-clause-value
returns-clause-value c = order_at c.args.class c.requires

pub returns-clause-most : goal.returns-clause-most
returns-clause-most c = subst (λ n. n ≤ 4) (sym (order_at c.args.class c.requires)) (is_class c.args.class c.requires).order_most
