use Rattle.std.proofs.Common.{arith}
use Rattle.std.proofs.lemmas.Grind.{common_steps}
use Rattle.row_bytes.proofs.Fields.{fields_in}
use Rattle.row_bytes.proofs.reading.value_in.Goals as goal

pub slice_bounds-result-end : goal.slice_bounds-result-end
slice_bounds-result-end c = grind (arith, common_steps, fields_in c.args.content.now c.requires)
