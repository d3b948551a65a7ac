use Rattle.text_tests.proofs.Logs.{erased_fits, missing_fits}
use Rattle.text_tests.proofs.report_text_tests.erase_reply.Goals as goal

pub returns-in-Erased : goal.returns-in-Erased
returns-in-Erased c = erased_fits

pub returns-in_default : goal.returns-in_default
returns-in_default c = missing_fits
