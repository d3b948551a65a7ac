-- The trace that a call runs, from its settings and the bytes of the trace, or why it runs none; and how a refusal is printed.
use Rattle.std.specs.Prelude.{ℕ, ◌==◌, nat_lt, Bool, true, false, ◌++◌, List, codes, decimal, Option, Some, None, Result, Ok, Err, if◌then◌else◌}
use Rattle.layout.specs.Sizes.{fewest_table_pages}
use Rattle.trace_text.specs.declared.refusal.Cause.{Cause}
use Rattle.trace_text.specs.Causes.{cause_name}
use Rattle.trace_text.specs.Reading.{Refusal, trace_of}
use Rattle.trace_text.specs.Reading as trace_refusal
use Rattle.trace_text.specs.Trace.{Trace}
use Rattle.cache_model.specs.Report.{line}
use Rattle.value_script.specs.Causes.{cause_name as script_cause_name}
use Rattle.value_script.specs.Reading.{Refusal as ScriptRefusal}
use Rattle.value_script.specs.Reading as script_refusal
use Rattle.settings.specs.declared.settings.mode.Mode.{Mode}
use Rattle.settings.specs.declared.settings.mode.Mode.TheVariants.{Run, Sim, Gen, Audit, Dirty, Index, Values}
use Rattle.settings.specs.Settings.{Settings}
use Rattle.shardcache.specs.declared.misfit.Misfit.{Misfit}
use Rattle.shardcache.specs.declared.misfit.Misfit.TheVariants.{Version, PagesTooFew}

-- what is wrong on a line: a cause of the trace's own; or, of its first line, that a trace of this version is not run so
pub data Fault : Type 0 where
  Own : Cause → Fault
  Unfit : Misfit → Fault

-- why no trace is run: it is too long, or a line is refused
pub data NotRun : Type 0 where
  TooLong : NotRun
  AtLine : ℕ → Fault → NotRun

-- the modes that run a trace on shards, or check such a run, know tables
abbrev pub knows_tables : Mode → Bool
knows_tables Run = true
knows_tables Sim = true
knows_tables Gen = true
knows_tables Audit = true
knows_tables Dirty = false
knows_tables Index = false
knows_tables Values = false

-- what keeps a trace that names tables from being run: the mode knows none, or there are too few pages for them
abbrev pub misfit_in : Bool → ℕ → Option Misfit
misfit_in knows pages = if knows then (if nat_lt pages fewest_table_pages then Some PagesTooFew else None) else Some Version

-- only a trace of version 2 names tables
abbrev pub misfit_of : Mode → ℕ → Trace → Option Misfit
misfit_of mode pages trace = if trace.version == 2 then misfit_in (knows_tables mode) pages else None

-- a trace that was read is run where nothing keeps it from that
abbrev pub fitting : Option Misfit → Trace → Result Trace NotRun
fitting None trace = Ok trace
fitting (Some misfit) trace = Err (AtLine 1 (Unfit misfit))

abbrev pub if_fitting : (Trace → Option Misfit) → Result Trace Refusal → Result Trace NotRun
if_fitting misfit (Err trace_refusal.TooLong) = Err TooLong
if_fitting misfit (Err (trace_refusal.AtLine number cause)) = Err (AtLine number (Own cause))
if_fitting misfit (Ok trace) = fitting (misfit trace) trace

-- what the settings make of the bytes of a trace: the trace, or why there is none; the trace's own refusals come first
abbrev pub trace_for : Settings → List ℕ → Result Trace NotRun
trace_for settings bytes = if_fitting (misfit_of settings.mode settings.pages) (trace_of bytes settings.shards)

-- how a refusal at a line is printed, with the name of its cause
abbrev pub refused_line : ℕ → List ℕ → List ℕ
refused_line number name = line (codes "refused line " ++ decimal number ++ codes " " ++ name)

abbrev pub misfit_name : Misfit → List ℕ
misfit_name Version = codes "Version"
misfit_name PagesTooFew = codes "PagesTooFew"

abbrev pub fault_name : Fault → List ℕ
fault_name (Own cause) = cause_name cause
fault_name (Unfit misfit) = misfit_name misfit

-- how a refusal of a trace is printed
abbrev pub refusal_text : NotRun → List ℕ
refusal_text TooLong = line (codes "refused line 0 TooLong")
refusal_text (AtLine number fault) = refused_line number (fault_name fault)

-- how a refusal of a script is printed
abbrev pub script_refusal_text : ScriptRefusal → List ℕ
script_refusal_text script_refusal.TooLong = line (codes "refused line 0 TooLong")
script_refusal_text (script_refusal.AtLine number cause) = refused_line number (script_cause_name cause)
