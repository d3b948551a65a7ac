use Rattle.std.proofs.Common.{None, refl, ◌∙◌}
use Rattle.regions.specs.Contents.{live_at}
use Rattle.row_cache.proofs.Joined.{both_set}
use Rattle.row_cache.proofs.Kept.{chain_with, front_has, some_still}
use Rattle.row_cache.proofs.Relinked.{relinked_again, relinked_lives}
use Rattle.row_cache.proofs.ends.Ends.push_front.Goals as goal

pub set_before-requires : goal.set_before-requires
set_before-requires c =
    let x = c.requires.chain in let r = c.args.region.now in let s = c.link_both.new.region in
    some_still (live_at r) (live_at s) c.args.self.now.front (relinked_lives r s c.link_both.ensures.same) (front_has (live_at r) c.args.self.now x.0 x.1)

pub returns-clause-same : goal.returns-clause-same
returns-clause-same c = relinked_again c.args.region.now c.link_both.new.region c.set_before.new.region c.link_both.ensures.same c.set_before.ensures.same

pub returns-clause-chain : goal.returns-clause-chain
returns-clause-chain c = λ ps chain lacks.
    (let r = c.args.region.now in let s = c.set_before.new.region in let ends = c.args.self.now in let w = c.link_both.ensures in let e = c.set_before.ensures in
    let set = both_set c.args.at None ends.front (live_at r) (live_at c.link_both.new.region) w.newer (w.older ∙ c.link_to.ensures) w.others in
    chain_with (live_at r) (live_at c.link_both.new.region) (live_at s) ends _ c.args.at ps chain lacks c.requires.room c.requires.row
    set e.links e.last refl (relinked_lives r s (returns-clause-same c)))
