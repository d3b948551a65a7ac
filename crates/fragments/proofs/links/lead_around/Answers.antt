use Rattle.fragments.proofs.Setting.{holds_still}
use Rattle.fragments.proofs.links.lead_around.Goals as goal

pub lead_back-requires : goal.lead_back-requires
lead_back-requires c = holds_still c.args.next c.args.region.now c.lead_on.new.region c.lead_on.ensures.same c.requires.next
