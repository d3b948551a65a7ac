use Rattle.std.proofs.Common.{◌+◌, ◌*◌, suc, ap}
use Rattle.key_table.proofs.widening.widen.Goals as goal

pub returns-clause-doubled : goal.returns-clause-doubled
returns-clause-doubled c times is = (suc times, ap (λ mask. mask * 2 + 1) is)
