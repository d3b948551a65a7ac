use Rattle.std.proofs.Common.{ap, ◌∙◌}
use Rattle.shardcache_c.specs.Handles.{cache_of}
use Rattle.shardcache_c.specs.Refusals.{RefusesCompaction}
use Rattle.shardcache_c.proofs.Opens.{because, held}
use Rattle.shardcache_c.proofs.exports.guards.shardcache_compact.Goals as goal

pub returns-clause-done : goal.returns-clause-done
returns-clause-done c = λ done. let did = c.compact-code.ensures.done done in
    (did.0, did.1, held c.in-Some.ensures.taken.0 c.deref_mut.ensures.value did.2, ap cache_of c.put.ensures ∙ did.3, did.4)

pub returns-clause-why : goal.returns-clause-why
returns-clause-why c = λ no.
    because (RefusesCompaction c.compact-code.result) c.in-Some.ensures.taken.0 c.deref_mut.ensures.value (c.compact-code.ensures.why no)
