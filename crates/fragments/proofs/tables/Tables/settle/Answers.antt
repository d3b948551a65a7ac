use Rattle.std.proofs.Common.{arith}
use Rattle.fragments.proofs.Settled.{chains_settled, parts_settled, empty_after}
use Rattle.fragments.proofs.tables.Tables.settle.Goals as goal

pub returns-clause-chains : goal.returns-clause-chains
returns-clause-chains c = λ live are.
    (let t = c.args.self.now in
    let entries = c.hand_over.ensures.were in
    let more = entries.chains in let most = entries.firsts in
    chains_settled t c.hand_over.new.self c.args.name c.requires.name (omega (arith, more)) (omega (arith, most)) c.hand_over.ensures.state c.requires.grows c.requires.none live are)

pub returns-clause-parts : goal.returns-clause-parts
returns-clause-parts c =
    (let t = c.args.self.now in
    let entries = c.hand_over.ensures.were in
    let more = entries.chains in let most = entries.firsts in
    parts_settled t c.hand_over.new.self c.args.name c.requires.name (omega (arith, more)) (omega (arith, most)) c.hand_over.ensures.state c.requires.grows c.requires.none)

pub returns-clause-empty : goal.returns-clause-empty
returns-clause-empty c =
    (let t = c.args.self.now in
    let entries = c.hand_over.ensures.were in
    let more = entries.chains in let most = entries.firsts in
    empty_after t c.hand_over.new.self c.args.name c.requires.name (omega (arith, more)) (omega (arith, most)) c.hand_over.ensures.state c.requires.grows c.requires.none)
