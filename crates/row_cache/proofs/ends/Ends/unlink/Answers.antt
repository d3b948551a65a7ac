use Rattle.std.proofs.Common.{◌∙◌}
use Rattle.regions.specs.Contents.{live_at}
use Rattle.row_cache.proofs.Joined.{newer_led, older_led}
use Rattle.row_cache.proofs.Kept.{before_has, behind_has, chain_without, here_has}
use Rattle.row_cache.proofs.Relinked.{relinked_lives}
use Rattle.row_cache.proofs.ends.Ends.unlink.Goals as goal

pub neighbours_of-beside-requires : goal.neighbours_of-beside-requires
neighbours_of-beside-requires c = (let x = c.requires in (here_has (live_at c.args.region.now) c.args.self.now x.0 c.args.at x.1 x.2).0)

pub join-requires-clause-newer : goal.join-requires-clause-newer
join-requires-clause-newer c =
    let x = c.requires in let live = live_at c.args.region.now in let ends = c.args.self.now in let b = c.neighbours_of-beside in
    before_has live ends x.0 c.args.at x.1 b.result.newer x.2 (b.ensures.newer ∙ newer_led live ends c.args.at x.0 x.1 x.2)

pub join-requires-clause-older : goal.join-requires-clause-older
join-requires-clause-older c =
    let x = c.requires in let live = live_at c.args.region.now in let ends = c.args.self.now in let b = c.neighbours_of-beside in
    behind_has live ends x.0 c.args.at x.1 b.result.older x.2 (b.ensures.older ∙ older_led live ends c.args.at x.0 x.1 x.2)

pub returns-clause-chain : goal.returns-clause-chain
returns-clause-chain c = λ xs ys chain.
    (let r = c.args.region.now in let s = c.join.new.region in let j = c.join.ensures in let ends = c.args.self.now in let b = c.neighbours_of-beside in
    chain_without (live_at r) (live_at s) ends c.join.new.self b.result.newer b.result.older xs c.args.at ys chain
    (b.ensures.newer ∙ newer_led (live_at r) ends c.args.at xs ys chain) (b.ensures.older ∙ older_led (live_at r) ends c.args.at xs ys chain) j.links j.front j.last (relinked_lives r s j.same))
