-- A trace and what may be its report, as the code has them.
use Rattle.trace_text.specs.Parsed.{trace_in}
use Rattle.shardcache.specs.declared.auditing.Framed.{Framed}
use Rattle.shardcache.specs.Audits.{Audit}

abbrev pub audit_of : Framed → Audit
audit_of framed = record { trace = trace_in framed.trace; report = framed.report.items }
