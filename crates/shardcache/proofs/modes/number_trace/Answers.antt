-- From a trace that was read to what was written of it.
use Rattle.std.proofs.Common.{ap}
use Rattle.settings.specs.declared.settings.mode.Mode.TheVariants.{Index}
use Rattle.settings.specs.Settings.{view}
use Rattle.shardcache.specs.Meanings.{meaning_of}
use Rattle.shardcache.proofs.TableRows.{ends_input, ends_stopped}
use Rattle.shardcache.proofs.modes.number_trace.Goals as goal

pub returns-in-Ok-clause-ending : goal.returns-in-Ok-clause-ending
returns-in-Ok-clause-ending g c =
    ends_input (meaning_of Index) _ (view c.args.settings) _ _ _ _ _ _ _ _ (ap g.K.Sink.written c.in-Ok.ensures.quiet) c.in-Ok.ensures.taken
    c.number_keys.ensures.ending

pub returns-in-Err-clause-ending : goal.returns-in-Err-clause-ending
returns-in-Err-clause-ending g c =
    ends_stopped (meaning_of Index) _ (view c.args.settings) _ _ _ _ _ _ _ c.without_run.ensures.status c.without_run.ensures.ran c.in-Err.ensures.stopped
