-- The first LF that a search finds is at the first position.
use Rattle.memchr.specs.Find.{is_byte}
use Rattle.report_check.proofs.Cuts.{first_byte_position}
use Rattle.report_check.proofs.line.position_of_lf.Goals as goal

pub returns : goal.returns
returns c = first_byte_position (is_byte 10) c.args.bytes.now c.memchr.result c.memchr.ensures
