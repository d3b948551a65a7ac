use Rattle.regions.specs.Contents.{live_at}
use Rattle.index_tree.proofs.Mended.{front_holds, front_mended}
use Rattle.index_tree.proofs.mending.mend_front.Goals as goal

pub lead_on-requires : goal.lead_on-requires
lead_on-requires c = front_holds (live_at c.args.region.now) c.args.from c.args.front c.requires.nodes c.requires.front

pub returns : goal.returns
returns c = front_mended c.args.from c.args.to c.args.front c.args.region.now c.lead_on.new.region c.requires.front c.lead_on.ensures
