-- The bytes behind the length are a trace that is run, or a line is refused.
use Rattle.std.proofs.Common.{inr, refl}
use Rattle.shardcache.proofs.TableRows.{appends_none}
use Rattle.shardcache.proofs.auditing.parse_framed.Goals as goal

pub returns-in_default-clause-refused : goal.returns-in_default-clause-refused
returns-in_default-clause-refused g c = inr (refl, appends_none _)

pub returns-in_default-from_slice-clause-refused : goal.returns-in_default-from_slice-clause-refused
returns-in_default-from_slice-clause-refused g c = inr (refl, appends_none _)

pub returns-in-Err-clause-refused : goal.returns-in-Err-clause-refused
returns-in-Err-clause-refused g c = rw c.in-Ok-from_slice.ensures.items at c.in-Err.ensures.refused
