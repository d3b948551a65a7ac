-- One entry, whichever it is.
use Rattle.std.proofs.Common.{◌≡◌, refl, subst, sym}
use Rattle.trace_text.specs.Parts.{origin}
use Rattle.cache_model.specs.declared.entry.Entry.{Entry}
use Rattle.report_check.specs.inside.Walks.{Steps}
use Rattle.report_check.proofs.Stepping.{evict-steps, still-open, tried-steps}
use Rattle.report_check.proofs.walking.step.Goals as goal

pub returns-in-Evicted : goal.returns-in-Evicted
returns-in-Evicted c = λ pages s walked before stands.
    subst (λ (e : Entry). Steps c.args.trace.now pages s walked before e c.evict.result (record c.args.walk.now { cache = c.evict.new.self }) c.args.logs.now) (sym c.in-Evicted.is)
    (evict-steps c.args.trace.now pages s walked before c.args.walk.now (record c.args.walk.now { cache = c.evict.new.self }) c.args.logs.now stands c.in-Evicted.put c.evict.result c.evict.ensures.possible c.evict.ensures.removed refl)

pub do_next-requires-clause-open : goal.do_next-requires-clause-open
do_next-requires-clause-open c =
    let at = c.requires.stands in
    let trace = c.args.trace.now in
    let of = subst (λ n. c.origin_of-origin.result ≡ origin c.in-Done.number n) c.shards.ensures.value c.origin_of-origin.ensures in
    still-open trace c.shards.ensures.consistent c.args.walk.now c.args.walk.now c.args.logs.now c.args.logs.now c.args.entry c.in-Done.number c.origin_of-origin.result c.in-Done.is of
    c.index_mut-rest.result.now c.index_mut-rest.result.now c.index_mut-rest.ensures.value c.facts.ensures.rest c.facts.ensures.in_log _ c.index-logs-origin.result c.index-logs-origin.result refl
    at.0 at.1 at.2 at.3 at.4

pub returns-in-Done : goal.returns-in-Done
returns-in-Done c =
    let trace = c.args.trace.now in
    let of = subst (λ n. c.origin_of-origin.result ≡ origin c.in-Done.number n) c.shards.ensures.value c.origin_of-origin.ensures in
    tried-steps trace c.shards.ensures.consistent c.args.walk.now _ c.args.logs.now _ c.args.entry c.in-Done.number c.origin_of-origin.result c.in-Done.is of
    c.index_mut-rest.result.now c.do_next.new.rest c.index_mut-rest.ensures.value c.facts.ensures.rest c.facts.ensures.in_log _ c.do_next.new.log c.index-logs-origin.result refl
    c.do_next.result c.do_next.ensures.other c.do_next.ensures.done refl refl
