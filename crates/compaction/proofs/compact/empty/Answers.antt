use Rattle.compaction.proofs.Stays.{freed-kept, guarded-stay}
use Rattle.compaction.proofs.compact.empty.Goals as goal

pub returns-clause-stay : goal.returns-clause-stay
returns-clause-stay g c =
    let bare = g.M.Movers.bare in let n = c.args.source in let old = c.args.region.now in let drained = c.drain.new.region in let new = c.free_closed.new.self in
    guarded-stay bare c.args.group n old new c.requires.closed c.requires.guards (freed-kept bare n _ old drained new c.drain.ensures.drained c.free_closed.ensures.freed)
