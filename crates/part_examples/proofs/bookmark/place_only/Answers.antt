use Rattle.std.proofs.Common.{Some}
use Rattle.part_examples.proofs.Only.{only-placed}
use Rattle.part_examples.proofs.bookmark.place_only.Goals as goal

pub returns : goal.returns
returns c = only-placed c.args.region.now c.place.new.self c.in-Ok.place (Some 0) 1 c.args.size c.requires.empty c.in-Ok.ensures.added
