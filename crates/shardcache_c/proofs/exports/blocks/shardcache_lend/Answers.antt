use Rattle.std.proofs.Common.{sym, ap, subst, ◌∙◌}
use Rattle.std.specs.Prelude.{Option, Some}
use Rattle.shardcache_c.specs.declared.lease.Lease.{Lease}
use Rattle.shardcache_c.specs.Handles.{cache_in, cache_of}
use Rattle.shardcache_c.specs.Refusals.{RefusesLend}
use Rattle.shardcache_c.proofs.Opens.{because, held}
use Rattle.shardcache_c.proofs.exports.blocks.shardcache_lend.Goals as goal

pub returns-clause-done : goal.returns-clause-done
returns-clause-done c = λ done. let did = c.lend-code.ensures.done done in (
  did.0,
  did.1,
  held c.in-Some-take.ensures.taken.0 c.deref_mut.ensures.value did.2,
  ap cache_of c.put-2.ensures ∙ did.3,
  did.4,
  c.put-3.ensures ∙ ap Some did.5,
  did.6,
)

pub returns-clause-why : goal.returns-clause-why
returns-clause-why c = λ no.
    because (RefusesLend c.lend-code.result c.args.table c.args.head c.args.block.now.kept.value) c.in-Some-take.ensures.taken.0 c.deref_mut.ensures.value
    (subst (λ (lease : Option Lease). RefusesLend c.lend-code.result c.args.table c.args.head lease (cache_in c.deref_mut.result.now))
    (ap Some c.deref_mut-2.ensures.value ∙ sym c.in-Some.ensures.taken.0) (c.lend-code.ensures.why no))
