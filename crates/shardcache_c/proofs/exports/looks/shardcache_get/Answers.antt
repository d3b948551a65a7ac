use Rattle.std.proofs.Common.{ap, ◌∙◌}
use Rattle.shardcache_c.specs.Handles.{cache_of}
use Rattle.shardcache_c.specs.Refusals.{RefusesGet}
use Rattle.shardcache_c.proofs.Opens.{because, held}
use Rattle.shardcache_c.proofs.exports.looks.shardcache_get.Goals as goal

pub returns-clause-found : goal.returns-clause-found
returns-clause-found c = λ found. let did = c.get-code.ensures.found found in
    (did.0, did.1, held c.in-Some.ensures.taken.0 c.deref_mut.ensures.value did.2, ap cache_of c.put.ensures ∙ did.3, did.4, did.5, did.6, did.7, did.8)

pub returns-clause-missing : goal.returns-clause-missing
returns-clause-missing c = λ missing. let did = c.get-code.ensures.missing missing in
    (did.0, held c.in-Some.ensures.taken.0 c.deref_mut.ensures.value did.1, did.2)

pub returns-clause-why : goal.returns-clause-why
returns-clause-why c = λ no.
    because (RefusesGet c.get-code.result c.args.table c.args.key.now) c.in-Some.ensures.taken.0 c.deref_mut.ensures.value (c.get-code.ensures.why no)
