-- The bytes are a trace behind its length and a report behind that, or a line is refused.
use Rattle.std.proofs.Common.{inl, sym}
use Rattle.std.proofs.lemmas.Result.{IfErr-weaker}
use Rattle.settings.specs.Settings.{view}
use Rattle.shardcache.proofs.Audited.{reads_audit}
use Rattle.shardcache.proofs.TableRows.{refuses_framed, unframed}
use Rattle.shardcache.proofs.auditing.parse_audit.Goals as goal

pub returns-in-Some-clause-read : goal.returns-in-Some-clause-read
returns-in-Some-clause-read g c =
    reads_audit (view c.args.settings) c.args.bytes.now c.in-Some.trace.now c.in-Some.report.now c.parse_framed.result c.requires.short (sym c.in-Some.ensures.framed)
    c.parse_framed.ensures.read c.parse_framed.ensures.report

pub returns-in-Some-clause-refused : goal.returns-in-Some-clause-refused
returns-in-Some-clause-refused g c =
    IfErr-weaker c.parse_framed.result _ _ (λ answered refused.
    refuses_framed (view c.args.settings) c.args.bytes.now c.in-Some.trace.now c.in-Some.report.now answered _ _ c.requires.short (sym c.in-Some.ensures.framed) refused)
    c.parse_framed.ensures.refused

pub returns-in-None-clause-refused : goal.returns-in-None-clause-refused
returns-in-None-clause-refused g c =
    inl (unframed (view c.args.settings) c.args.bytes.now c.requires.short (sym c.in-None.ensures.framed), c.write_line.ensures.written)
