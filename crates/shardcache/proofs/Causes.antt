-- What a call comes to where no device failed.
use Rattle.std.proofs.Common.{◌≡◌, ℕ, ◌≤◌, true, false, List, ◌++◌, length, Option, Some, None, Result, Ok, Err, is_ok, arith, refl, sym, ap, subst, inl, inr, ◌⊎◌, ◌∙◌, append-nil}
use Rattle.std.specs.Io.KnownBytes.{Consumes, IsAtEnd}
use Rattle.std.proofs.lemmas.List.{length-append}
use Rattle.trace_text.specs.Trace.{Trace}
use Rattle.value_script.specs.Order.{Order}
use Rattle.value_script.specs.Reading.{Refusal as ScriptRefusal, script_of}
use Rattle.value_script.specs.Reading as script_refusal
use Rattle.run_log.specs.Runs.{RanState}
use Rattle.settings.specs.declared.settings.mode.Mode.{Mode}
use Rattle.settings.specs.declared.settings.mode.Mode.TheVariants.{Run, Sim, Gen, Dirty, Index, Values}
use Rattle.settings.specs.declared.settings.mode.Mode.TheVariants as modes
use Rattle.shardcache.specs.declared.status.Status.{Status}
use Rattle.shardcache.specs.declared.status.Status.TheVariants as status
use Rattle.settings.specs.Settings.{Settings, settings}
use Rattle.shardcache.specs.Audits.{Audit, NotAudited, Unframed, Unread, audit_for}
use Rattle.shardcache.specs.Meanings.{Does, IsAuditReadOut, IsReadOut, IsScriptReadOut, ReadsAs, Refuses, audit_read, is_accepted, meaning_of, script_read, trace_read}
use Rattle.shardcache.specs.Table.{FollowsTable}
use Rattle.shardcache.specs.TraceFor.{NotRun, TooLong, AtLine, trace_for}
use Rattle.shardcache.proofs.Fitting.{too_long_for}
use Rattle.shardcache.proofs.TableRows.{is_too_long_audit, is_too_long_script}

all_taken : (bytes taken : List ℕ) (left : Option (List ℕ)) → Consumes (Some bytes) left taken → IsAtEnd left → taken ≡ bytes
all_taken bytes taken None took ended = absurd took
all_taken bytes taken (Some rest) took ended = sym (append-nil taken) ∙ ap (λ r. taken ++ r) (sym ended) ∙ sym took

few_taken : (bytes taken : List ℕ) (left : Option (List ℕ)) → Consumes (Some bytes) left taken → length taken ≤ length bytes
few_taken bytes taken None took = absurd took
few_taken bytes taken (Some rest) took = let all = ap length took in let parts = length-append taken rest in omega (arith, all, parts)

-- what was read means what the whole source does
read_same : (found : Settings) (meaning : Result Trace NotRun) (bytes taken : List ℕ) (left : Option (List ℕ)) → Consumes (Some bytes) left taken → ReadsAs trace_read found taken left meaning
    → trace_for found bytes ≡ meaning
read_same found meaning bytes taken left took reads = go meaning reads.is reads.out
  where
    go : (m : Result Trace NotRun) → trace_for found taken ≡ m → IsReadOut m taken left → trace_for found bytes ≡ m
    go (Ok trace) is out = ap (trace_for found) (sym (all_taken bytes taken left took out)) ∙ is
    go (Err TooLong) is out = let few = few_taken bytes taken left took in too_long_for found bytes (omega (arith, few, out))
    go (Err (AtLine number fault)) is out = ap (trace_for found) (sym (all_taken bytes taken left took out)) ∙ is

script_same : (found : Settings) (meaning : Result (List Order) ScriptRefusal) (bytes taken : List ℕ) (left : Option (List ℕ)) → Consumes (Some bytes) left taken → ReadsAs script_read found taken left meaning
    → script_of bytes ≡ meaning
script_same found meaning bytes taken left took reads = go meaning reads.is reads.out
  where
    go : (m : Result (List Order) ScriptRefusal) → script_of taken ≡ m → IsScriptReadOut m taken left → script_of bytes ≡ m
    go (Ok script) is out = ap script_of (sym (all_taken bytes taken left took out)) ∙ is
    go (Err script_refusal.TooLong) is out = let few = few_taken bytes taken left took in is_too_long_script bytes (omega (arith, few, out))
    go (Err (script_refusal.AtLine number cause)) is out = ap script_of (sym (all_taken bytes taken left took out)) ∙ is

audit_same : (found : Settings) (meaning : Result Audit NotAudited) (bytes taken : List ℕ) (left : Option (List ℕ)) → Consumes (Some bytes) left taken → ReadsAs audit_read found taken left meaning
    → audit_for found bytes ≡ meaning
audit_same found meaning bytes taken left took reads = go meaning reads.is reads.out
  where
    go : (m : Result Audit NotAudited) → audit_for found taken ≡ m → IsAuditReadOut m taken left → audit_for found bytes ≡ m
    go (Ok audit) is out = ap (audit_for found) (sym (all_taken bytes taken left took out)) ∙ is
    go (Err Unframed) is out = ap (audit_for found) (sym (all_taken bytes taken left took out)) ∙ is
    go (Err (Unread TooLong)) is out = let few = few_taken bytes taken left took in is_too_long_audit found bytes (omega (arith, few, out))
    go (Err (Unread (AtLine number fault))) is out = ap (audit_for found) (sym (all_taken bytes taken left took out)) ∙ is

of_source : (bytes taken : List ℕ) (before left : Option (List ℕ)) → before ≡ Some bytes → Consumes before left taken → Consumes (Some bytes) left taken
of_source bytes taken before left is took = subst (λ b. Consumes b left taken) is took

-- what a mode read, or made, means what it does of the whole source
reads_same : (mode : Mode) (found : Settings) (bytes taken : List ℕ) (before left : Option (List ℕ)) (read : Result (meaning_of mode).reading.Input (meaning_of mode).reading.Why)
    → ((meaning_of mode).reading.reads ≡ true → before ≡ Some bytes) → Consumes before left taken → ReadsAs (meaning_of mode).reading found taken left read
    → (meaning_of mode).reading.meaning found ((meaning_of mode).reading.bytes_of found bytes) ≡ read
reads_same Run found bytes taken before left read told took reads = read_same found read bytes taken left (of_source bytes taken before left (told refl) took) reads
reads_same Sim found bytes taken before left read told took reads = read_same found read bytes taken left (of_source bytes taken before left (told refl) took) reads
reads_same Gen found bytes taken before left read told took reads = reads.is
reads_same modes.Audit found bytes taken before left read told took reads = audit_same found read bytes taken left (of_source bytes taken before left (told refl) took) reads
reads_same Dirty found bytes taken before left read told took reads = read_same found read bytes taken left (of_source bytes taken before left (told refl) took) reads
reads_same Index found bytes taken before left read told took reads = read_same found read bytes taken left (of_source bytes taken before left (told refl) took) reads
reads_same Values found bytes taken before left read told took reads = script_same found read bytes taken left (of_source bytes taken before left (told refl) took) reads

-- what was done was accepted, and what was refused was not
does_accepted : (mode : Mode) (found : Settings) (bytes taken : List ℕ) (before left : Option (List ℕ)) (ran : Option RanState) (text : List ℕ)
    → ((meaning_of mode).reading.reads ≡ true → before ≡ Some bytes) → Consumes before left taken → Does (meaning_of mode) found taken left ran text
    → is_accepted (meaning_of mode).reading found bytes ≡ true
does_accepted mode found bytes taken before left ran text told took does =
    ap is_ok (reads_same mode found bytes taken before left (Ok does.0) told took does.1)

refuses_accepted : (mode : Mode) (found : Settings) (bytes taken : List ℕ) (before left : Option (List ℕ)) (text : List ℕ)
    → ((meaning_of mode).reading.reads ≡ true → before ≡ Some bytes) → Consumes before left taken → Refuses (meaning_of mode).reading found taken left text
    → is_accepted (meaning_of mode).reading found bytes ≡ false
refuses_accepted mode found bytes taken before left text told took refuses =
    ap is_ok (reads_same mode found bytes taken before left (Err refuses.0) told took refuses.1)

one_wanted : (found wanted : Settings) (words : List (List ℕ)) → settings words ≡ Some found → settings words ≡ Some wanted → found ≡ wanted
one_wanted found wanted words is asked = let e : Some found ≡ Some wanted = sym is ∙ asked in cc

pub accepted : (failed : Type 0) (answered : Status) (ran : Option RanState) (words : List (List ℕ)) (before left before_sink after_sink : Option (List ℕ)) (bytes : List ℕ) (wanted : Settings)
    → FollowsTable failed answered ran words before left before_sink after_sink → ((meaning_of wanted.mode).reading.reads ≡ true → before ≡ Some bytes) → settings words ≡ Some wanted
    → is_accepted (meaning_of wanted.mode).reading wanted bytes ≡ true → (answered ≡ status.ReadFault → ⊥) → (answered ≡ status.WriteFault → ⊥)
    → (answered ≡ status.Done) ⊎ (answered ≡ status.Memory)
accepted failed status.Done ran words before left before_sink after_sink bytes wanted follows is asked ok no_read no_write = inl refl
accepted failed status.Usage ran words before left before_sink after_sink bytes wanted follows is asked ok no_read no_write =
    let none : settings words ≡ None = follows.row.1 in absurd (let e : None ≡ Some wanted = sym none ∙ asked in cc)
accepted failed status.Refused ran words before left before_sink after_sink bytes wanted follows is asked ok no_read no_write =
    let row = follows.row in
    let no : is_accepted (meaning_of row.1.mode).reading row.1 bytes ≡ false = refuses_accepted row.1.mode row.1 bytes follows.taken before left follows.text
    (λ reads. is (subst (λ w. (meaning_of w.mode).reading.reads ≡ true) (one_wanted row.1 wanted words row.2 asked) reads)) follows.took row.3 in
    let yes : is_accepted (meaning_of row.1.mode).reading row.1 bytes ≡ true = subst (λ w. is_accepted (meaning_of w.mode).reading w bytes ≡ true) (sym (one_wanted row.1 wanted words row.2 asked)) ok in
    let e : false ≡ true = sym no ∙ yes in
    cc
accepted failed status.ReadFault ran words before left before_sink after_sink bytes wanted follows is asked ok no_read no_write = absurd (no_read refl)
accepted failed status.WriteFault ran words before left before_sink after_sink bytes wanted follows is asked ok no_read no_write = absurd (no_write refl)
accepted failed status.Memory ran words before left before_sink after_sink bytes wanted follows is asked ok no_read no_write = inr refl

pub refused : (failed : Type 0) (answered : Status) (ran : Option RanState) (words : List (List ℕ)) (before left before_sink after_sink : Option (List ℕ)) (bytes : List ℕ) (wanted : Settings)
    → FollowsTable failed answered ran words before left before_sink after_sink → ((meaning_of wanted.mode).reading.reads ≡ true → before ≡ Some bytes) → settings words ≡ Some wanted
    → is_accepted (meaning_of wanted.mode).reading wanted bytes ≡ false → (answered ≡ status.ReadFault → ⊥) → (answered ≡ status.WriteFault → ⊥)
    → (answered ≡ status.Refused) ⊎ (answered ≡ status.Memory)
refused failed status.Done ran words before left before_sink after_sink bytes wanted follows is asked err no_read no_write =
    let row = follows.row in
    let yes : is_accepted (meaning_of row.0.mode).reading row.0 bytes ≡ true = does_accepted row.0.mode row.0 bytes follows.taken before left ran follows.text
    (λ reads. is (subst (λ w. (meaning_of w.mode).reading.reads ≡ true) (one_wanted row.0 wanted words row.1 asked) reads)) follows.took row.2 in
    let no : is_accepted (meaning_of row.0.mode).reading row.0 bytes ≡ false = subst (λ w. is_accepted (meaning_of w.mode).reading w bytes ≡ false) (sym (one_wanted row.0 wanted words row.1 asked)) err in
    let e : false ≡ true = sym no ∙ yes in
    cc
refused failed status.Usage ran words before left before_sink after_sink bytes wanted follows is asked err no_read no_write =
    let none : settings words ≡ None = follows.row.1 in absurd (let e : None ≡ Some wanted = sym none ∙ asked in cc)
refused failed status.Refused ran words before left before_sink after_sink bytes wanted follows is asked err no_read no_write = inl refl
refused failed status.ReadFault ran words before left before_sink after_sink bytes wanted follows is asked err no_read no_write = absurd (no_read refl)
refused failed status.WriteFault ran words before left before_sink after_sink bytes wanted follows is asked err no_read no_write = absurd (no_write refl)
refused failed status.Memory ran words before left before_sink after_sink bytes wanted follows is asked err no_read no_write = inr refl
