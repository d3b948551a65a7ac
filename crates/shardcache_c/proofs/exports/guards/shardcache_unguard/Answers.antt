use Rattle.std.proofs.Common.{ap, ◌∙◌}
use Rattle.shardcache_c.specs.Handles.{cache_of}
use Rattle.shardcache_c.specs.Refusals.{RefusesUnguard}
use Rattle.shardcache_c.proofs.Opens.{because, held}
use Rattle.shardcache_c.proofs.exports.guards.shardcache_unguard.Goals as goal

pub returns-clause-done : goal.returns-clause-done
returns-clause-done c = λ done. let did = c.unguard-code.ensures.done done in
    (did.0, did.1, held c.in-Some.ensures.taken.0 c.deref_mut.ensures.value did.2, ap cache_of c.put.ensures ∙ did.3, did.4, did.5)

pub returns-clause-why : goal.returns-clause-why
returns-clause-why c = λ no.
    because (RefusesUnguard c.unguard-code.result c.args.table) c.in-Some.ensures.taken.0 c.deref_mut.ensures.value (c.unguard-code.ensures.why no)
