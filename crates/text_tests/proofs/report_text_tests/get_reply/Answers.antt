use Rattle.std.proofs.Common.{arith, refl}
use Rattle.rows.specs.Apply.{Value}
use Rattle.text_tests.proofs.report_text_tests.get_reply.Goals as goal

pub returns-then-body-longest-clause-fits : goal.returns-then-body-longest-clause-fits
returns-then-body-longest-clause-fits c key count = (Value c.args.body.now, refl, omega (arith, c.if-body-longest.true))
