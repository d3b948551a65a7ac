-- The first LF that a search finds is at the first position.
use Rattle.memchr.specs.Find.{is_byte}
use Rattle.value_script.proofs.Cuts.{first_byte_position}
use Rattle.value_script.proofs.lines.position_of_lf.Goals as goal

pub returns : goal.returns
returns c = first_byte_position (is_byte 10) c.args.text.now c.memchr.result c.memchr.ensures
