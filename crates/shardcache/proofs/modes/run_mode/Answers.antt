-- What the mode asks was done.
use Rattle.settings.specs.declared.settings.mode.Mode.TheVariants.{Run, Sim, Gen, Audit, Dirty, Index, Values}
use Rattle.shardcache.proofs.TableRows.{in_mode}
use Rattle.shardcache.proofs.modes.run_mode.Goals as goal

pub returns-in-Run-clause-ending : goal.returns-in-Run-clause-ending
returns-in-Run-clause-ending g c = in_mode _ Run _ _ _ _ _ _ _ _ c.in-Run.is c.report_trace.ensures.ending

pub returns-in-Sim-clause-ending : goal.returns-in-Sim-clause-ending
returns-in-Sim-clause-ending g c = in_mode _ Sim _ _ _ _ _ _ _ _ c.in-Sim.is c.report_trace-in-Sim.ensures.ending

pub returns-in-Gen-clause-ending : goal.returns-in-Gen-clause-ending
returns-in-Gen-clause-ending g c = in_mode _ Gen _ _ _ _ _ _ _ _ c.in-Gen.is (c.summarize_made.ensures.ending _ _ _)

pub returns-in-Audit-clause-ending : goal.returns-in-Audit-clause-ending
returns-in-Audit-clause-ending g c = in_mode _ Audit _ _ _ _ _ _ _ _ c.in-Audit.is c.audit_report.ensures.ending

pub returns-in-Dirty-clause-ending : goal.returns-in-Dirty-clause-ending
returns-in-Dirty-clause-ending g c = in_mode _ Dirty _ _ _ _ _ _ _ _ c.in-Dirty.is c.flush_trace.ensures.ending

pub returns-in-Index-clause-ending : goal.returns-in-Index-clause-ending
returns-in-Index-clause-ending g c = in_mode _ Index _ _ _ _ _ _ _ _ c.in-Index.is c.number_trace.ensures.ending

pub returns-in-Values-clause-ending : goal.returns-in-Values-clause-ending
returns-in-Values-clause-ending g c = in_mode _ Values _ _ _ _ _ _ _ _ c.in-Values.is c.play_script.ensures.ending
