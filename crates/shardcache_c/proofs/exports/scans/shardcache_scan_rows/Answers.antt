use Rattle.shardcache_c.specs.Refusals.{RefusesRows}
use Rattle.shardcache_c.proofs.Opens.{because, held}
use Rattle.shardcache_c.proofs.exports.scans.shardcache_scan_rows.Goals as goal

pub returns-clause-done : goal.returns-clause-done
returns-clause-done c = λ done. let did = c.scan_rows-code.ensures.done done in
    (did.0, held c.in-Some.ensures.taken.0 c.deref_mut.ensures.value did.1, did.2)

pub returns-clause-why : goal.returns-clause-why
returns-clause-why c = λ no.
    because (RefusesRows c.scan_rows-code.result c.args.table c.args.count) c.in-Some.ensures.taken.0 c.deref_mut.ensures.value (c.scan_rows-code.ensures.why no)
