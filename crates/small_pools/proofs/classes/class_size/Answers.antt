use Rattle.std.proofs.Common.{refl}
use Rattle.small_pools.specs.Classes.{size_of}
use Rattle.small_pools.proofs.ClassFacts.{is_class}
use Rattle.small_pools.proofs.classes.class_size.Goals as goal

pub returns-clause-value : goal.returns-clause-value
unfolding size_of
returns-clause-value c = refl

pub returns-clause-bounds : goal.returns-clause-bounds
returns-clause-bounds c = is_class c.args.class c.requires
