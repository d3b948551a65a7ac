use Rattle.std.proofs.Common.{inl, refl, arith}
use Rattle.embedded_tests.proofs.trial.Trial.new.Goals as goal

pub open-requires-clause-opening : goal.open-requires-clause-opening
open-requires-clause-opening c = record {
  pages = (omega arith, omega arith, refl);
  some_rows = c.requires.rows.0;
  rows = c.requires.rows.1;
  regions = inl refl;
  bound = c.requires.bound;
}
