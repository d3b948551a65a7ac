use Rattle.shardcache_c.specs.Refusals.{IsClosed}
use Rattle.shardcache_c.proofs.Opens.{because, held}
use Rattle.shardcache_c.proofs.exports.stats.shardcache_stats.Goals as goal

pub returns-clause-done : goal.returns-clause-done
returns-clause-done c = λ done. let did = c.tell-code.ensures.done done in
    (did.0, held c.in-Some.ensures.taken.0 c.deref.ensures did.1, did.2, did.3, did.4, did.5, did.6, did.7)

pub returns-clause-why : goal.returns-clause-why
returns-clause-why c = λ no.
    because (IsClosed c.tell-code.result) c.in-Some.ensures.taken.0 c.deref.ensures (c.tell-code.ensures.why no)
