-- What each mode means, as a value: what it reads, and what its text and its refusals mean.
use Rattle.std.specs.Prelude.{◌≡◌, ℕ, ◌+◌, Bool, true, false, List, [], length, Some, None, Result, Ok, Err, is_ok, Option}
use Rattle.std.specs.Io.KnownBytes.{IsAtEnd}
use Rattle.layout.specs.Sizes.{most_trace_bytes}
use Rattle.trace_text.specs.Trace.{Trace}
use Rattle.cache_model.specs.declared.entry.Entry.{Entry}
use Rattle.cache_model.specs.Report.{IsReportOf}
use Rattle.cache_model.specs.Summary.{IsSummaryOf}
use Rattle.run_log.specs.Runs.{IsFinished, RanState, journals_in}
use Rattle.made_trace.specs.Made.{made}
use Rattle.dirty_mode.specs.DirtyText.{dirty_text}
use Rattle.index_mode.specs.IndexText.{index_text}
use Rattle.value_script.specs.Order.{Order}
use Rattle.value_script.specs.Reading.{Refusal as ScriptRefusal, script_of}
use Rattle.value_script.specs.Reading as script_refusal
use Rattle.values_mode.specs.Text.{values_text}
use Rattle.settings.specs.declared.settings.mode.Mode.{Mode}
use Rattle.settings.specs.declared.settings.mode.Mode.TheVariants.{Run, Sim, Gen, Dirty, Index, Values}
use Rattle.settings.specs.declared.settings.mode.Mode.TheVariants as modes
use Rattle.settings.specs.Settings.{Settings}
use Rattle.shardcache.specs.Audits.{Audit, Audited, NotAudited, Unframed, Unread, audit_for, audit_refusal_text}
use Rattle.shardcache.specs.TraceFor.{NotRun, TooLong, AtLine, refusal_text, script_refusal_text, trace_for}

-- ---- what is read

-- A source is read to its end for a trace, or for why none is run; but of a trace that is too long one byte above the most is read.
abbrev pub IsReadOut : Result Trace NotRun → List ℕ → Option (List ℕ) → Type 0
IsReadOut (Ok trace) taken left = IsAtEnd left
IsReadOut (Err TooLong) taken left = length taken ≡ most_trace_bytes + 1
IsReadOut (Err (AtLine number fault)) taken left = IsAtEnd left

-- the same for a script
abbrev pub IsScriptReadOut : Result (List Order) ScriptRefusal → List ℕ → Option (List ℕ) → Type 0
IsScriptReadOut (Ok script) taken left = IsAtEnd left
IsScriptReadOut (Err script_refusal.TooLong) taken left = length taken ≡ most_trace_bytes + 1
IsScriptReadOut (Err (script_refusal.AtLine number cause)) taken left = IsAtEnd left

-- the same for an input of an audit
abbrev pub IsAuditReadOut : Result Audit NotAudited → List ℕ → Option (List ℕ) → Type 0
IsAuditReadOut (Ok audit) taken left = IsAtEnd left
IsAuditReadOut (Err Unframed) taken left = IsAtEnd left
IsAuditReadOut (Err (Unread TooLong)) taken left = length taken ≡ most_trace_bytes + 1
IsAuditReadOut (Err (Unread (AtLine number fault))) taken left = IsAtEnd left

-- How a mode takes what it works on: whether it reads its source, which bytes it takes, as what, and how a refusal is printed. Input
-- is what is accepted, and Why is why nothing is.
pub record Reading : Type 1 where
  pub Input : Type 0
  pub Why : Type 0
  pub reads : Bool
  -- of what was taken from the source
  pub bytes_of : Settings → List ℕ → List ℕ
  pub meaning : Settings → List ℕ → Result Input Why
  -- what was taken, and what is left, where that is what the bytes are read as
  pub IsRead : Result Input Why → List ℕ → Option (List ℕ) → Type 0
  pub refusal : Why → List ℕ

-- a trace that is read, and of a version that the mode runs on so many pages
abbrev pub trace_read : Reading
trace_read = record {
  Input = Trace;
  Why = NotRun;
  reads = true;
  bytes_of = λ found taken. taken;
  meaning = trace_for;
  IsRead = IsReadOut;
  refusal = refusal_text;
}

-- a trace that is made of the number, where nothing is taken
abbrev pub trace_made : Reading
trace_made = record {
  Input = Trace;
  Why = NotRun;
  reads = false;
  bytes_of = λ found taken. made found.number found.commands;
  meaning = trace_for;
  IsRead = λ read taken left. taken ≡ [];
  refusal = refusal_text;
}

-- a script that is read
abbrev pub script_read : Reading
script_read = record {
  Input = List Order;
  Why = ScriptRefusal;
  reads = true;
  bytes_of = λ found taken. taken;
  meaning = λ found bytes. script_of bytes;
  IsRead = IsScriptReadOut;
  refusal = script_refusal_text;
}

-- a trace and its report that are read
abbrev pub audit_read : Reading
audit_read = record {
  Input = Audit;
  Why = NotAudited;
  reads = true;
  bytes_of = λ found taken. taken;
  meaning = audit_for;
  IsRead = IsAuditReadOut;
  refusal = audit_refusal_text;
}

-- what was taken, or is made, is read as this
pub record ReadsAs (r : Reading) (found : Settings) (taken : List ℕ) (left : Option (List ℕ)) (read : Result r.Input r.Why) : Type 0 where
  pub is : r.meaning found (r.bytes_of found taken) ≡ read
  pub out : r.IsRead read taken left

-- it is refused, and this is what is written of it
abbrev pub Refuses : Reading → Settings → List ℕ → Option (List ℕ) → List ℕ → Type 0
Refuses r found taken left text = (why : r.Why) × ReadsAs r found taken left (Err why) × (text ≡ r.refusal why)

-- whether what is read, of these bytes, or is made, is accepted
abbrev pub is_accepted : Reading → Settings → List ℕ → Bool
is_accepted r found bytes = is_ok (r.meaning found (r.bytes_of found bytes))

-- ---- what is left and written

-- the record of a finished run of the trace, on the shards and with the pages that the settings ask for, and a text that says this of
-- its journals
abbrev pub Shown : (Trace → ℕ → ℕ → List ℕ → List (List Entry) → Type 0) → Settings → Trace → Option RanState → List ℕ → Type 0
Shown Says settings trace ran text = (run : RanState) × (ran ≡ Some run) × IsFinished trace settings.shards settings.pages run
    × Says trace settings.shards settings.pages text (journals_in run.journals)

-- no record, and this text, with so many pages
abbrev pub Written : {Input : Type 0} → (Input → ℕ → List ℕ) → Settings → Input → Option RanState → List ℕ → Type 0
Written text_of settings input ran text = (ran ≡ None) × (text ≡ text_of input settings.pages)

-- ---- by the mode

-- what a mode takes, and what is left and written of it where it is accepted
pub record Meaning : Type 1 where
  pub reading : Reading
  pub IsOutput : Settings → reading.Input → Option RanState → List ℕ → Type 0

abbrev pub meaning_of : Mode → Meaning
meaning_of Run = record { reading = trace_read; IsOutput = Shown IsReportOf }
meaning_of Sim = record { reading = trace_read; IsOutput = Shown IsReportOf }
meaning_of Gen = record { reading = trace_made; IsOutput = Shown IsSummaryOf }
meaning_of modes.Audit = record { reading = audit_read; IsOutput = Audited }
meaning_of Dirty = record { reading = trace_read; IsOutput = Written dirty_text }
meaning_of Index = record { reading = trace_read; IsOutput = Written index_text }
meaning_of Values = record { reading = script_read; IsOutput = Written values_text }

-- what was taken is accepted, and this is what is left and written of it
abbrev pub Does : Meaning → Settings → List ℕ → Option (List ℕ) → Option RanState → List ℕ → Type 0
Does m found taken left ran text =
    (input : m.reading.Input) × ReadsAs m.reading found taken left (Ok input) × m.IsOutput found input ran text
