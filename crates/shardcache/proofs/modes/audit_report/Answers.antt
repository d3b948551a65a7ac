-- From a trace and its report that were read to the verdict.
use Rattle.std.proofs.Common.{ap}
use Rattle.settings.specs.declared.settings.mode.Mode.TheVariants.{Audit}
use Rattle.settings.specs.Settings.{view}
use Rattle.shardcache.specs.Meanings.{meaning_of}
use Rattle.shardcache.proofs.TableRows.{ends_input, ends_stopped}
use Rattle.shardcache.proofs.modes.audit_report.Goals as goal

pub returns-in-Ok-clause-ending : goal.returns-in-Ok-clause-ending
returns-in-Ok-clause-ending g c =
    ends_input (meaning_of Audit) _ (view c.args.settings) _ _ _ _ _ _ _ _ (ap g.K.Sink.written c.in-Ok.ensures.quiet) c.in-Ok.ensures.taken
    c.check_report.ensures.ending

pub returns-in-Err-clause-ending : goal.returns-in-Err-clause-ending
returns-in-Err-clause-ending g c =
    ends_stopped (meaning_of Audit) _ (view c.args.settings) _ _ _ _ _ _ _ c.without_run.ensures.status c.without_run.ensures.ran c.in-Err.ensures.stopped
