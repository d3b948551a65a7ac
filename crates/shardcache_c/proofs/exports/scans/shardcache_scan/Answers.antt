use Rattle.std.proofs.Common.{length}
use Rattle.shardcache_c.specs.Refusals.{RefusesKeys}
use Rattle.shardcache_c.proofs.Opens.{because, held}
use Rattle.shardcache_c.proofs.exports.scans.shardcache_scan.Goals as goal

pub returns-clause-done : goal.returns-clause-done
returns-clause-done c = λ done. let did = c.scan_keys-code.ensures.done done in
    (did.0, held c.in-Some.ensures.taken.0 c.deref_mut.ensures.value did.1, did.2, did.3)

pub returns-clause-why : goal.returns-clause-why
returns-clause-why c = λ no.
    because (RefusesKeys c.scan_keys-code.result c.args.table c.args.count (length c.args.into.now)) c.in-Some.ensures.taken.0 c.deref_mut.ensures.value (c.scan_keys-code.ensures.why no)
