-- What an audit reads, and how it ends.
use Rattle.std.proofs.Common.{◌≡◌, ℕ, ◌≤◌, List, length, Option, Some, None, Result, Ok, Err, IfOk, inl, sym, ap, subst, ◌∙◌}
use Rattle.std.specs.Result.{OnOk, OnErr}
use Rattle.outside.specs.Moves.{Sends}
use Rattle.layout.specs.Sizes.{most_trace_bytes}
use Rattle.trace_text.specs.Parsed.{trace_in}
use Rattle.run_log.specs.Runs.{RanState}
use Rattle.report_check.specs.declared.verdict.Verdict.{Verdict}
use Rattle.report_check.specs.Frame.{framed}
use Rattle.report_check.specs.Verdict.{verdict, verdict_text}
use Rattle.settings.specs.Settings.{Settings}
use Rattle.shardcache.specs.declared.auditing.Framed.{Framed}
use Rattle.shardcache.specs.declared.status.Status.{Status}
use Rattle.shardcache.specs.declared.status.Status.TheVariants as status
use Rattle.shardcache.specs.Audits.{Audited, audit_for, with_report}
use Rattle.shardcache.specs.TraceFor.{trace_for}
use Rattle.shardcache.specs.inside.Ending.{EndsInput, EndsOutput}
use Rattle.shardcache.specs.inside.Framed.{audit_of}
use Rattle.shardcache.proofs.Printed.{ends_output}
use Rattle.shardcache.proofs.TableRows.{audit-of}

-- the trace that was read of the front of an input, and the report behind it
pub reads_audit : {E : Type 0} (found : Settings) (bytes trace report : List ℕ) (r : Result Framed E) → length bytes ≤ most_trace_bytes → framed bytes ≡ Some (trace, report)
    → IfOk r (λ framed. trace_for found trace ≡ Ok (trace_in framed.trace)) → IfOk r (λ framed. framed.report.items ≡ report)
    → IfOk r (λ framed. audit_for found bytes ≡ Ok (audit_of framed))
reads_audit found bytes trace report (Ok f) short cut read same =
    audit-of found bytes trace report short cut ∙ (ap (with_report report) read ∙ ap (λ (text : List ℕ). Ok (record { trace = trace_in f.trace; report = text })) (sym same))
reads_audit found bytes trace report (Err e) short cut read same = tt

-- a verdict was sent, and the answer says whether it was all of it
module _ {K T E : Type 0} (bytes : K → Option (List ℕ)) (count : K → ℕ) (old new : K) where
  pub ends_verdict : (r : Result T E) (written answered : Status) (ran : Option RanState) (found : Settings) (framed : Framed) (told : Verdict) (report : List ℕ)
      → OnOk r (written ≡ status.Done) → OnErr r (written ≡ status.WriteFault) → Sends bytes count old new r (verdict_text told)
      → told ≡ verdict (trace_in framed.trace) found.shards found.pages report → report ≡ framed.report.items → answered ≡ written → ran ≡ None
      → EndsInput Audited found (audit_of framed) answered ran (bytes old) (bytes new)
  ends_verdict r written answered ran found framed told report done fault sent is same answers none =
      inl (
        verdict_text told,
        (none, ap verdict_text (is ∙ ap (verdict (trace_in framed.trace) found.shards found.pages) same)),
        subst (λ s. EndsOutput s (bytes old) (bytes new) (verdict_text told)) (sym answers) (ends_output bytes count old new (verdict_text told) r written done fault sent),
      )
