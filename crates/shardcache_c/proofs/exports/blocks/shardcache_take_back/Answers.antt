use Rattle.std.proofs.Common.{ap, ◌∙◌}
use Rattle.shardcache_c.specs.Handles.{cache_of}
use Rattle.shardcache_c.specs.Refusals.{IsClosed}
use Rattle.shardcache_c.proofs.Opens.{because, held}
use Rattle.shardcache_c.proofs.exports.blocks.shardcache_take_back.Goals as goal

pub returns-clause-done : goal.returns-clause-done
returns-clause-done c = λ done. let did = c.take_back-code.ensures.done done in
    (did.0, did.1, held c.in-Some.ensures.taken.0 c.deref_mut.ensures.value did.2, ap cache_of c.put.ensures ∙ did.3, did.4, did.5)

pub returns-clause-why : goal.returns-clause-why
returns-clause-why c = λ no.
    because (IsClosed c.take_back-code.result) c.in-Some.ensures.taken.0 c.deref_mut.ensures.value (c.take_back-code.ensures.why no)
