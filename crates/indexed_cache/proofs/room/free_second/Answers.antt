use Rattle.indexed_cache.proofs.Kept.{keeps-none, segments-compacted}
use Rattle.indexed_cache.proofs.room.free_second.Goals as goal

pub returns-then-free-ge2-clause-kept : goal.returns-then-free-ge2-clause-kept
returns-then-free-ge2-clause-kept c = keeps-none c.args.cache.now

pub returns-then-free-eq0-clause-kept : goal.returns-then-free-eq0-clause-kept
returns-then-free-eq0-clause-kept c = keeps-none c.args.cache.now

pub returns-clause-kept : goal.returns-clause-kept
returns-clause-kept c = record { room = c.compact.ensures.room; segments = segments-compacted c.args.cache.now.region c.compact.new.self.region c.compact.ensures.holds }
