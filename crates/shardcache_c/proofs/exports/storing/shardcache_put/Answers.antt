use Rattle.std.proofs.Common.{ap, ◌∙◌, length}
use Rattle.shardcache_c.specs.Handles.{cache_of}
use Rattle.shardcache_c.specs.Refusals.{RefusesPut}
use Rattle.shardcache_c.proofs.Opens.{because, held}
use Rattle.shardcache_c.proofs.exports.storing.shardcache_put.Goals as goal

pub returns-clause-done : goal.returns-clause-done
returns-clause-done c = λ done. let did = c.put-code.ensures.done done in
    (did.0, did.1, held c.in-Some.ensures.taken.0 c.deref_mut.ensures.value did.2, ap cache_of c.put.ensures ∙ did.3, did.4)

pub returns-clause-why : goal.returns-clause-why
returns-clause-why c = λ no.
    because (RefusesPut c.put-code.result c.args.table c.args.key.now (length c.args.value.now)) c.in-Some.ensures.taken.0 c.deref_mut.ensures.value (c.put-code.ensures.why no)
