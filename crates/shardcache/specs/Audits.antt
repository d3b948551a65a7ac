-- What an audit works on, and what it writes.
use Rattle.std.specs.Prelude.{◌≡◌, ℕ, nat_lt, List, length, codes, if◌then◌else◌, Option, Some, None, Result, Ok, Err}
use Rattle.layout.specs.Sizes.{most_trace_bytes}
use Rattle.trace_text.specs.Trace.{Trace}
use Rattle.cache_model.specs.Report.{line}
use Rattle.run_log.specs.Runs.{RanState}
use Rattle.report_check.specs.Frame.{framed}
use Rattle.report_check.specs.Verdict.{verdict, verdict_text}
use Rattle.settings.specs.Settings.{Settings}
use Rattle.shardcache.specs.TraceFor.{NotRun, TooLong, refusal_text, trace_for}

-- a trace, and what may be its report
pub record Audit : Type 0 where
  pub trace : Trace
  pub report : List ℕ

-- why nothing is audited: the input is not a trace behind its length and a report behind that, or the trace is one that is not run
pub data NotAudited : Type 0 where
  Unframed : NotAudited
  Unread : NotRun → NotAudited

abbrev pub with_report : List ℕ → Result Trace NotRun → Result Audit NotAudited
with_report report (Err why) = Err (Unread why)
with_report report (Ok trace) = Ok (record { trace = trace; report = report })

abbrev pub audit_in : Settings → Option (List ℕ × List ℕ) → Result Audit NotAudited
audit_in settings None = Err Unframed
audit_in settings (Some (trace, report)) = with_report report (trace_for settings trace)

-- what the settings make of the bytes of an input: that all of them are too many comes first, and the trace's own refusals come last
abbrev pub audit_for : Settings → List ℕ → Result Audit NotAudited
audit_for settings bytes = if nat_lt most_trace_bytes (length bytes) then Err (Unread TooLong) else audit_in settings (framed bytes)

-- how a refusal is printed
abbrev pub audit_refusal_text : NotAudited → List ℕ
audit_refusal_text Unframed = line (codes "refused line 0 Frame")
audit_refusal_text (Unread why) = refusal_text why

-- no run, and the verdict on the report, as one of as many shards and pages as the settings ask for
abbrev pub Audited : Settings → Audit → Option RanState → List ℕ → Type 0
Audited settings audit ran text =
    (ran ≡ None) × (text ≡ verdict_text (verdict audit.trace settings.shards settings.pages audit.report))
