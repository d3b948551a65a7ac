use Rattle.shardcache_c.specs.Refusals.{RefusesClosing}
use Rattle.shardcache_c.proofs.Opens.{because}
use Rattle.shardcache_c.proofs.exports.opening.shardcache_close.Goals as goal

pub returns-clause-why : goal.returns-clause-why
returns-clause-why c = λ no.
    because (RefusesClosing c.close-code.result) c.in-Some.ensures.taken.0 c.deref_mut.ensures.value (c.close-code.ensures.why no)
