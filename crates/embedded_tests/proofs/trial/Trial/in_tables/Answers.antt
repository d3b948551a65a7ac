use Rattle.std.proofs.Common.{inr, refl, arith}
use Rattle.embedded_tests.proofs.trial.Trial.in_tables.Goals as goal

pub open-requires-clause-opening : goal.open-requires-clause-opening
open-requires-clause-opening c = record {
  pages = (omega arith, omega arith, refl);
  some_rows = c.requires.rows.0;
  rows = c.requires.rows.1;
  regions = inr (refl, omega arith);
  bound = c.requires.bound;
}
