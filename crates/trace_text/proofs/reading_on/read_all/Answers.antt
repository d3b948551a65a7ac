-- What was read is what was added.
use Rattle.trace_text.proofs.reading_on.read_all.Goals as goal

pub returns : goal.returns
returns g c = record {
  read = c.read_lines.new.lines;
  many = c.read_lines.auto.lines;
  are = c.read_lines.ensures;
  adds = c.in_ok-add_commands.ensures;
}
