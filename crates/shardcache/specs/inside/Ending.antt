-- How the last steps of a call end.
use Rattle.std.specs.Prelude.{◌≡◌, ℕ, ◌⊎◌, true, List, [], codes, Ok, Err, Option, None}
use Rattle.std.specs.Io.KnownBytes.{Appends, Consumes}
use Rattle.outside.specs.Moves.{AppendsFront}
use Rattle.value_script.specs.Reading.{script_of}
use Rattle.value_script.specs.Reading as script_refusal
use Rattle.value_script.specs.declared.refusal.Cause.{Cause as ScriptCause}
use Rattle.cache_model.specs.Report.{line}
use Rattle.run_log.specs.Runs.{RanState}
use Rattle.shardcache.specs.declared.status.Status.{Status}
use Rattle.shardcache.specs.declared.status.Status.TheVariants as status
use Rattle.settings.specs.Settings.{Settings}
use Rattle.shardcache.specs.Audits.{Unframed, Unread, audit_for, audit_refusal_text}
use Rattle.shardcache.specs.Meanings.{Does, Meaning, Reading, ReadsAs, Refuses}
use Rattle.shardcache.specs.TraceFor.{AtLine, Fault, refusal_text, script_refusal_text, trace_for}

-- ---- what is written

-- A text was written to its end with this status; or the sink failed, and a front of it was written; or memory ran
-- out, and nothing was.
abbrev pub EndsWith : Status → Status → Option (List ℕ) → Option (List ℕ) → List ℕ → Type 0
EndsWith answered wanted before after text =
    ((answered ≡ wanted) × Appends before after text)
    ⊎ (((answered ≡ status.WriteFault) × AppendsFront before after text) ⊎ ((answered ≡ status.Memory) × Appends before after []))

-- a text was written to its end; or the sink failed, and a front of it was written
abbrev pub EndsOutput : Status → Option (List ℕ) → Option (List ℕ) → List ℕ → Type 0
EndsOutput answered before after text =
    ((answered ≡ status.Done) × Appends before after text) ⊎ ((answered ≡ status.WriteFault) × AppendsFront before after text)

-- what is to be written of what was accepted was, or a front of it; or memory ran out, and nothing was
abbrev pub EndsInput : {Input : Type 0} → (Settings → Input → Option RanState → List ℕ → Type 0) → Settings → Input → Status
    → Option RanState → Option (List ℕ) → Option (List ℕ) → Type 0
EndsInput IsOutput settings input answered ran before after =
    ((text : List ℕ) × IsOutput settings input ran text × EndsOutput answered before after text)
    ⊎ ((answered ≡ status.Memory) × (ran ≡ None) × Appends before after [])

-- ---- what was read

-- the bytes are refused as a trace to run, at a line, and that was written; or memory ran out, and nothing was
abbrev pub RefusesTrace : Settings → List ℕ → Status → Option (List ℕ) → Option (List ℕ) → Type 0
RefusesTrace settings bytes answered before after =
    ((number : ℕ) × (fault : Fault) × (trace_for settings bytes ≡ Err (AtLine number fault))
    × EndsWith answered status.Refused before after (refusal_text (AtLine number fault)))
    ⊎ ((answered ≡ status.Memory) × Appends before after [])

-- the same of a script
abbrev pub RefusesScript : List ℕ → Status → Option (List ℕ) → Option (List ℕ) → Type 0
RefusesScript bytes answered before after =
    ((number : ℕ) × (cause : ScriptCause) × (script_of bytes ≡ Err (script_refusal.AtLine number cause))
    × EndsWith answered status.Refused before after (script_refusal_text (script_refusal.AtLine number cause)))
    ⊎ ((answered ≡ status.Memory) × Appends before after [])

-- the same of an input of an audit
abbrev pub RefusesAudit : Settings → List ℕ → Status → Option (List ℕ) → Option (List ℕ) → Type 0
RefusesAudit settings bytes answered before after =
    ((audit_for settings bytes ≡ Err Unframed) × EndsWith answered status.Refused before after (audit_refusal_text Unframed))
    ⊎ (((number : ℕ) × (fault : Fault) × (audit_for settings bytes ≡ Err (Unread (AtLine number fault)))
    × EndsWith answered status.Refused before after (refusal_text (AtLine number fault)))
    ⊎ ((answered ≡ status.Memory) × Appends before after []))

-- this was taken, and accepted
pub record Takes (r : Reading) (found : Settings) (before left : Option (List ℕ)) (input : r.Input) : Type 0 where
  pub taken : List ℕ
  pub took : Consumes before left taken
  pub reads : ReadsAs r found taken left (Ok input)

-- The bytes that were taken were refused and that was written, or the source failed and that was, or memory ran out.
abbrev pub EndsUnread : Reading → Type 0 → Settings → Status → List ℕ → Option (List ℕ) → Option (List ℕ) → Option (List ℕ) → Type 0
EndsUnread r failed found answered taken left before after =
    ((text : List ℕ) × Refuses r found taken left text × EndsWith answered status.Refused before after text)
    ⊎ ((failed × (r.reads ≡ true) × EndsWith answered status.ReadFault before after (line (codes "read fault")))
    ⊎ ((answered ≡ status.Memory) × Appends before after []))

-- nothing was accepted
pub record Stops (r : Reading) (failed : Type 0) (found : Settings) (answered : Status)
    (before left before_sink after_sink : Option (List ℕ)) : Type 0 where
  pub taken : List ℕ
  pub took : Consumes before left taken
  pub ending : EndsUnread r failed found answered taken left before_sink after_sink

-- What was taken was accepted, and what is to be written of it was, or a front of it; or nothing was accepted, and nothing run.
pub record EndsCall (m : Meaning) (failed : Type 0) (found : Settings) (answered : Status) (ran : Option RanState)
    (before left before_sink after_sink : Option (List ℕ)) : Type 0 where
  pub taken : List ℕ
  pub took : Consumes before left taken
  pub ending : ((text : List ℕ) × Does m found taken left ran text × EndsOutput answered before_sink after_sink text)
      ⊎ ((ran ≡ None) × EndsUnread m.reading failed found answered taken left before_sink after_sink)
