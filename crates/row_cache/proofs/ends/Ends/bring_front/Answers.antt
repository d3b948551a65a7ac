use Rattle.std.proofs.Common.{◌++◌, sym, ◌∙◌}
use Rattle.regions.specs.Contents.{live_at}
use Rattle.row_cache.proofs.Joined.{end_there}
use Rattle.row_cache.proofs.Kept.{chain_first, here_has}
use Rattle.row_cache.proofs.Relinked.{holds_still, relinked_again, relinked_lives}
use Rattle.row_cache.proofs.ends.Ends.bring_front.Goals as goal

pub returns-then-eq-clause-chain : goal.returns-then-eq-clause-chain
returns-then-eq-clause-chain c = λ xs ys chain.
    chain_first (live_at c.args.region.now) c.args.self.now xs c.args.at ys chain (end_there c.args.self.now.front c.args.at (sym c.eq.ensures ∙ c.if-eq.true))

pub push_front-requires-clause-row : goal.push_front-requires-clause-row
push_front-requires-clause-row c =
    let x = c.requires in let r = c.args.region.now in let s = c.unlink.new.region in
    holds_still (live_at r) (live_at s) c.args.at (relinked_lives r s c.unlink.ensures.same) (here_has (live_at r) c.args.self.now x.0 c.args.at x.1 x.2).0

pub push_front-requires-clause-room : goal.push_front-requires-clause-room
push_front-requires-clause-room c = (let x = c.requires in (here_has (live_at c.args.region.now) c.args.self.now x.0 c.args.at x.1 x.2).1)

pub push_front-requires-clause-chain : goal.push_front-requires-clause-chain
push_front-requires-clause-chain c =
    (let x = c.requires in (x.0 ++ x.1, c.unlink.ensures.chain x.0 x.1 x.2, (here_has (live_at c.args.region.now) c.args.self.now x.0 c.args.at x.1 x.2).2))

pub returns-clause-chain : goal.returns-clause-chain
returns-clause-chain c = λ xs ys chain.
    c.push_front.ensures.chain (xs ++ ys) (c.unlink.ensures.chain xs ys chain) (here_has (live_at c.args.region.now) c.args.self.now xs c.args.at ys chain).2

pub returns-clause-same : goal.returns-clause-same
returns-clause-same c = relinked_again c.args.region.now c.unlink.new.region c.push_front.new.region c.unlink.ensures.same c.push_front.ensures.same
