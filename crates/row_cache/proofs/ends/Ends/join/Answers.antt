use Rattle.regions.specs.Contents.{live_at}
use Rattle.row_cache.proofs.Joined.{joined}
use Rattle.row_cache.proofs.Kept.{some_still}
use Rattle.row_cache.proofs.Relinked.{relinked_again, relinked_lives}
use Rattle.row_cache.proofs.ends.Ends.join.Goals as goal

pub set_before-requires : goal.set_before-requires
set_before-requires c =
    let r = c.args.region.now in let s = c.set_behind.new.region in
    some_still (live_at r) (live_at s) c.args.older (relinked_lives r s c.set_behind.ensures.same) c.requires.older

pub returns-clause-links : goal.returns-clause-links
returns-clause-links c =
    joined c.args.newer c.args.older (live_at c.args.region.now) (live_at c.set_behind.new.region) (live_at c.set_before.new.region) c.set_behind.ensures.links c.set_before.ensures.links

pub returns-clause-same : goal.returns-clause-same
returns-clause-same c = relinked_again c.args.region.now c.set_behind.new.region c.set_before.new.region c.set_behind.ensures.same c.set_before.ensures.same
