use Rattle.text_tests.proofs.Logs.{replaced_fits, stored_fits}
use Rattle.text_tests.proofs.report_text_tests.put_reply.Goals as goal

pub returns-in-Replaced : goal.returns-in-Replaced
returns-in-Replaced c = replaced_fits

pub returns-in_default : goal.returns-in_default
returns-in_default c = stored_fits
