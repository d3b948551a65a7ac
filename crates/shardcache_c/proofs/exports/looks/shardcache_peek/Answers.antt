use Rattle.shardcache_c.specs.Refusals.{RefusesPeek}
use Rattle.shardcache_c.proofs.Opens.{because, held}
use Rattle.shardcache_c.proofs.exports.looks.shardcache_peek.Goals as goal

pub returns-clause-found : goal.returns-clause-found
returns-clause-found c = λ found. let did = c.peek-code.ensures.found found in
    (did.0, held c.in-Some.ensures.taken.0 c.deref.ensures did.1, did.2, did.3, did.4, did.5)

pub returns-clause-missing : goal.returns-clause-missing
returns-clause-missing c = λ missing. let did = c.peek-code.ensures.missing missing in
    (did.0, held c.in-Some.ensures.taken.0 c.deref.ensures did.1, did.2)

pub returns-clause-why : goal.returns-clause-why
returns-clause-why c = λ no.
    because (RefusesPeek c.peek-code.result c.args.table c.args.key.now) c.in-Some.ensures.taken.0 c.deref.ensures (c.peek-code.ensures.why no)
