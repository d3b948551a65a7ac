-- From a trace that was made to what was written of it.
use Rattle.std.proofs.Common.{ap}
use Rattle.settings.specs.declared.settings.mode.Mode.TheVariants.{Gen}
use Rattle.settings.specs.Settings.{view}
use Rattle.shardcache.specs.Meanings.{meaning_of}
use Rattle.shardcache.proofs.TableRows.{ends_input, ends_stopped}
use Rattle.shardcache.proofs.modes.summarize_made.Goals as goal

pub returns-in-Ok-clause-ending : goal.returns-in-Ok-clause-ending
returns-in-Ok-clause-ending g c source before after =
    ends_input (meaning_of Gen) _ (view c.args.settings) _ _ _ _ _ _ _ _ (ap g.K.Sink.written c.in-Ok.ensures.quiet) (c.in-Ok.ensures.taken source)
    c.summarize_shards.ensures.ending

pub returns-in-Err-clause-ending : goal.returns-in-Err-clause-ending
returns-in-Err-clause-ending g c source before after =
    ends_stopped (meaning_of Gen) _ (view c.args.settings) _ _ _ _ _ _ _ c.without_run.ensures.status c.without_run.ensures.ran
    (c.in-Err.ensures.stopped source before after)
