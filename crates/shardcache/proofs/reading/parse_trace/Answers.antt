-- The bytes are a trace that is run, or a line is refused.
use Rattle.std.proofs.Common.{◌≡◌, Ok, inl, inr, refl, sym, ap, ◌∙◌, subst}
use Rattle.std.proofs.lemmas.Result.{IfErr-weaker, IfOk-weaker}
use Rattle.trace_text.specs.Parsed.{Parsed, trace_in}
use Rattle.settings.specs.Settings.{view}
use Rattle.shard_node.specs.Nodes.{HasTablePages}
use Rattle.shardcache.specs.TraceFor.{Own, Unfit, trace_for}
use Rattle.shardcache.proofs.Fitting.{fits_pages, reads_fit, reads_refused, reads_unfit}
use Rattle.shardcache.proofs.TableRows.{appends_none}
use Rattle.shardcache.proofs.reading.parse_trace.Goals as goal

pub returns-in-Ok-clause-read : goal.returns-in-Ok-clause-read
returns-in-Ok-clause-read g c =
    let found = view c.args.settings in let bytes = c.args.bytes.items in
    IfOk-weaker c.keep_fit.result _ _ (λ kept h. subst (λ (t : Parsed). trace_for found bytes ≡ Ok (trace_in t)) (sym h.0) (reads_fit found bytes (trace_in c.in-Ok.trace) c.in-Ok.ensures.read h.1))
    c.keep_fit.ensures.kept

pub returns-in-Ok-clause-shards : goal.returns-in-Ok-clause-shards
returns-in-Ok-clause-shards g c =
    IfOk-weaker c.keep_fit.result _ _ (λ kept h. sym (ap (λ (t : Parsed). t.shards) h.0 ∙ c.in-Ok.ensures.shards)) c.keep_fit.ensures.kept

pub returns-in-Ok-clause-tables : goal.returns-in-Ok-clause-tables
returns-in-Ok-clause-tables g c =
    let settings = c.args.settings in
    IfOk-weaker c.keep_fit.result _ _ (λ kept h. subst (λ (t : Parsed). HasTablePages (trace_in t) settings.pages) (sym h.0) (fits_pages settings.mode settings.pages (trace_in c.in-Ok.trace) h.1))
    c.keep_fit.ensures.kept

pub returns-in-Ok-clause-refused : goal.returns-in-Ok-clause-refused
returns-in-Ok-clause-refused g c =
    IfErr-weaker c.keep_fit.result _ _ (λ answered h. inl (1, Unfit h.0, reads_unfit (view c.args.settings) c.args.bytes.items (trace_in c.in-Ok.trace) h.0 c.in-Ok.ensures.read h.1, h.2))
    c.keep_fit.ensures.refused

pub returns-in-Err-Trace-clause-refused : goal.returns-in-Err-Trace-clause-refused
returns-in-Err-Trace-clause-refused g c =
    let refused = rw c.in-Err-Trace.field-0-is at c.in-Err-Trace.ensures.refused in
    let written = rw c.in-Err-Trace.field-0-is at c.refuse.ensures.written in
    inl (c.in-Err-Trace.line, Own c.in-Err-Trace.cause, reads_refused (view c.args.settings) c.args.bytes.items c.in-Err-Trace.line c.in-Err-Trace.cause refused, written)

pub returns-in-Err-Memory-clause-refused : goal.returns-in-Err-Memory-clause-refused
returns-in-Err-Memory-clause-refused g c = inr (refl, appends_none _)
