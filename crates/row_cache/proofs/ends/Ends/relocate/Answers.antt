use Rattle.std.proofs.Common.{◌++◌, ◌∷◌, sym}
use Rattle.regions.specs.Contents.{live_at}
use Rattle.row_cache.proofs.Chains.{lacks_split, lacks_merge}
use Rattle.row_cache.proofs.Joined.{newer_like, older_like}
use Rattle.row_cache.proofs.Kept.{before_has, behind_has, chain_less, chain_moved, chain_whole, here_has, some_still}
use Rattle.row_cache.proofs.Relinked.{relinked_again, relinked_lives}
use Rattle.row_cache.proofs.ends.Ends.relocate.Goals as goal

pub set_behind-requires : goal.set_behind-requires
set_behind-requires c =
    let x = c.requires.chain in let live = live_at c.args.region.now in let ends = c.args.self.now in
    let chain = (chain_whole live c.args.to ends (x.0 ++ c.args.from ∷ x.1) x.2).0 in
    before_has live ends x.0 c.args.from x.1 c.neighbours_of-beside.result.newer chain (newer_like live ends c.args.from c.args.to x.0 x.1 c.neighbours_of-beside.result.newer c.neighbours_of-beside.ensures.newer c.requires.same chain)

pub set_before-requires : goal.set_before-requires
set_before-requires c =
    let x = c.requires.chain in let r = c.args.region.now in let s = c.set_behind.new.region in let ends = c.args.self.now in
    let chain = (chain_whole (live_at r) c.args.to ends (x.0 ++ c.args.from ∷ x.1) x.2).0 in
    some_still (live_at r) (live_at s) c.neighbours_of-beside.result.older (relinked_lives r s c.set_behind.ensures.same)
    (behind_has (live_at r) ends x.0 c.args.from x.1 c.neighbours_of-beside.result.older chain (older_like (live_at r) ends c.args.from c.args.to x.0 x.1 c.neighbours_of-beside.result.older c.neighbours_of-beside.ensures.older c.requires.same chain))

pub returns-clause-same : goal.returns-clause-same
returns-clause-same c = relinked_again c.args.region.now c.set_behind.new.region c.set_before.new.region c.set_behind.ensures.same c.set_before.ensures.same

pub returns-clause-chain : goal.returns-clause-chain
returns-clause-chain c = λ xs ys given.
    (let r = c.args.region.now in let s = c.set_before.new.region in let ends = c.args.self.now in let from = c.args.from in let to = c.args.to in
    let whole = chain_whole (live_at r) to ends (xs ++ from ∷ ys) given in
    let to_lacks = lacks_split to xs (from ∷ ys) whole.1 in
    let from_lacks = lacks_split from xs ys (here_has (live_at r) ends xs from ys whole.0).2 in
    let j = c.set_behind.ensures in let k = c.set_before.ensures in
    chain_less (live_at s) from c.set_before.new.self (xs ++ to ∷ ys) (lacks_merge from xs (to ∷ ys) from_lacks.0 (λ e. c.requires.apart (sym e), from_lacks.1))
    (chain_moved (live_at r) (live_at c.set_behind.new.region) (live_at s) ends c.set_behind.new.self c.set_before.new.self c.neighbours_of-beside.result.newer c.neighbours_of-beside.result.older from to xs ys whole.0
    c.requires.same to_lacks.0 (to_lacks.1).1 c.requires.room c.requires.row (newer_like (live_at r) ends from to xs ys c.neighbours_of-beside.result.newer c.neighbours_of-beside.ensures.newer c.requires.same whole.0)
    (older_like (live_at r) ends from to xs ys c.neighbours_of-beside.result.older c.neighbours_of-beside.ensures.older c.requires.same whole.0)
    j.links j.front j.last k.links k.front k.last (relinked_lives r s (returns-clause-same c))))
