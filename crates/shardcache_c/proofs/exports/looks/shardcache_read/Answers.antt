use Rattle.std.proofs.Common.{ap, ◌∙◌, length}
use Rattle.shardcache_c.specs.Handles.{cache_of}
use Rattle.shardcache_c.specs.Refusals.{RefusesRead}
use Rattle.shardcache_c.proofs.Opens.{because, held}
use Rattle.shardcache_c.proofs.exports.looks.shardcache_read.Goals as goal

pub returns-clause-done : goal.returns-clause-done
returns-clause-done c = λ done. let did = c.read-code.ensures.done done in
    (did.0, did.1, held c.in-Some.ensures.taken.0 c.deref_mut.ensures.value did.2, ap cache_of c.put.ensures ∙ did.3, did.4, did.5, did.6, did.7, did.8)

pub returns-clause-short : goal.returns-clause-short
returns-clause-short c = λ short. let did = c.read-code.ensures.short short in
    (did.0, held c.in-Some.ensures.taken.0 c.deref_mut.ensures.value did.1, did.2, did.3, did.4, did.5)

pub returns-clause-missing : goal.returns-clause-missing
returns-clause-missing c = λ missing. let did = c.read-code.ensures.missing missing in
    (did.0, held c.in-Some.ensures.taken.0 c.deref_mut.ensures.value did.1, did.2)

pub returns-clause-why : goal.returns-clause-why
returns-clause-why c = λ no.
    because (RefusesRead c.read-code.result c.args.table c.args.key.now (length c.args.into.now)) c.in-Some.ensures.taken.0 c.deref_mut.ensures.value (c.read-code.ensures.why no)
