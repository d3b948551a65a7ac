-- From what was read and written to the table of the top call.
use Rattle.std.proofs.Common.{◌≡◌, ℕ, ◌+◌, ◌<◌, ◌≤◌, true, false, ltb, List, [], length, take, drop, Option, Some, None, Ok, Err, arith, refl, sym, ap, subst, inl, inr, ◌⊎◌, ◌∙◌, append-nil}
use Rattle.std.specs.Prelude.{codes}
use Rattle.std.specs.Io.KnownBytes.{Appends, Consumes, IsAtEnd}
use Rattle.std.proofs.lemmas.Bool.Decides.{nat_tests}
use Rattle.std.proofs.lemmas.List.{take-append-drop}
use Rattle.layout.specs.Sizes.{most_trace_bytes}
use Rattle.trace_text.specs.Trace.{Trace}
use Rattle.made_trace.specs.Made.{made}
use Rattle.value_script.specs.Order.{Order}
use Rattle.value_script.specs.Reading.{script_of}
use Rattle.value_script.specs.Reading as script_refusal
use Rattle.cache_model.specs.Report.{line}
use Rattle.run_log.specs.Runs.{RanState}
use Rattle.settings.specs.declared.settings.mode.Mode.{Mode}
use Rattle.shardcache.specs.declared.status.Status.{Status}
use Rattle.shardcache.specs.declared.status.Status.TheVariants as status
use Rattle.settings.specs.Settings.{Settings, settings}
use Rattle.report_check.specs.Frame.{framed}
use Rattle.shardcache.specs.Audits.{Audit, Unframed, Unread, audit_for, audit_refusal_text, with_report}
use Rattle.shardcache.specs.Meanings.{Does, Meaning, Reading, audit_read, meaning_of, script_read, trace_made, trace_read}
use Rattle.shardcache.specs.Table.{FollowsTable, Writes, WritesAll}
use Rattle.shardcache.specs.TraceFor.{TooLong, AtLine, refusal_text, script_refusal_text, trace_for}
use Rattle.shardcache.specs.inside.Ending.{EndsCall, EndsInput, EndsOutput, EndsUnread, EndsWith, RefusesAudit, RefusesScript, RefusesTrace, Stops, Takes}
use Rattle.shardcache.proofs.Fitting.{too_long_for}

-- ---- where nothing moved

pub takes_none : (o : Option (List ℕ)) → Consumes o o []
takes_none None = tt
takes_none (Some xs) = refl

pub appends_none : (o : Option (List ℕ)) → Appends o o []
appends_none None = tt
appends_none (Some xs) = sym (append-nil xs)

-- ---- to the table

-- what was written to its end is as the table says
writes_all : (failed : Type 0) (wanted : Status) (words : List (List ℕ)) (taken : List ℕ) (left : Option (List ℕ)) (ran : Option RanState) (text : List ℕ)
    → WritesAll failed wanted words taken left ran text → Writes failed wanted words taken left ran text
writes_all failed status.Done words taken left ran text row = row
writes_all failed status.Usage words taken left ran text row = row
writes_all failed status.Refused words taken left ran text row = row
writes_all failed status.ReadFault words taken left ran text row = row
writes_all failed status.WriteFault words taken left ran text row = absurd row
writes_all failed status.Memory words taken left ran text row = absurd row

-- a text that was written where nothing was run, or a front of it, or nothing
pub follows_ending : (failed : Type 0) (answered wanted : Status) (ran : Option RanState) (words : List (List ℕ)) (before left before_sink after_sink : Option (List ℕ)) (taken text : List ℕ)
    → ran ≡ None → Consumes before left taken → WritesAll failed wanted words taken left ran text → EndsWith answered wanted before_sink after_sink text
    → FollowsTable failed answered ran words before left before_sink after_sink
follows_ending failed answered wanted ran words before left before_sink after_sink taken text none took row (inl (is, wrote)) =
    record { taken = taken; text = text; took = took; wrote = wrote; row = rw is (writes_all failed wanted words taken left ran text row) }
follows_ending failed answered wanted ran words before left before_sink after_sink taken text none took row (inr (inl (is, front))) =
    record {
      taken = taken;
      text = take front.count text;
      took = took;
      wrote = front.appended;
      row = rw is (wanted, drop front.count text, rw (take-append-drop front.count text) row);
    }
follows_ending failed answered wanted ran words before left before_sink after_sink taken text none took row (inr (inr (is, wrote))) =
    record { taken = taken; text = []; took = took; wrote = wrote; row = rw is (none, refl) }

-- the status is that of the outcome
pub ends_as : (answered other wanted : Status) (before after : Option (List ℕ)) (text : List ℕ) → answered ≡ other → EndsWith other wanted before after text
    → EndsWith answered wanted before after text
ends_as answered other wanted before after text is ends = subst (λ s. EndsWith s wanted before after text) (sym is) ends

-- what a mode says of a run, or a front of it
follows_output : (failed : Type 0) (answered : Status) (ran : Option RanState) (words : List (List ℕ)) (before left before_sink after_sink : Option (List ℕ)) (taken text : List ℕ)
    → Consumes before left taken → WritesAll failed status.Done words taken left ran text → EndsOutput answered before_sink after_sink text
    → FollowsTable failed answered ran words before left before_sink after_sink
follows_output failed answered ran words before left before_sink after_sink taken text took row (inl (is, wrote)) =
    record { taken = taken; text = text; took = took; wrote = wrote; row = rw is row }
follows_output failed answered ran words before left before_sink after_sink taken text took row (inr (is, front)) =
    record {
      taken = taken;
      text = take front.count text;
      took = took;
      wrote = front.appended;
      row = rw is (status.Done, drop front.count text, rw (take-append-drop front.count text) row);
    }

-- memory ran out before anything was read
pub follows_nothing : (failed : Type 0) (answered : Status) (ran : Option RanState) (words : List (List ℕ)) (left sink : Option (List ℕ)) → answered ≡ status.Memory → ran ≡ None
    → FollowsTable failed answered ran words left left sink sink
follows_nothing failed answered ran words left sink is none =
    record { taken = []; text = []; took = takes_none left; wrote = appends_none sink; row = rw is (none, refl) }

-- a call that was asked for what these settings say
pub follows_call : (failed : Type 0) (found : Settings) (answered : Status) (ran : Option RanState) (words : List (List ℕ)) (before left before_sink after_sink : Option (List ℕ))
    → settings words ≡ Some found → EndsCall (meaning_of found.mode) failed found answered ran before left before_sink after_sink
    → FollowsTable failed answered ran words before left before_sink after_sink
follows_call failed found answered ran words before left before_sink after_sink asked ends = go ends.ending
  where
    taken : List ℕ
    taken = ends.taken

    go : ((text : List ℕ) × Does (meaning_of found.mode) found taken left ran text × EndsOutput answered before_sink after_sink text)
        ⊎ ((ran ≡ None) × EndsUnread (meaning_of found.mode).reading failed found answered taken left before_sink after_sink)
        → FollowsTable failed answered ran words before left before_sink after_sink
    go (inl (text, does, written)) =
        follows_output failed answered ran words before left before_sink after_sink taken text ends.took (found, asked, does) written
    go (inr (none, inl (text, refused, written))) =
        follows_ending failed answered status.Refused ran words before left before_sink after_sink taken text none ends.took (none, found, asked, refused) written
    go (inr (none, inr (inl (fault, reads, written)))) =
        follows_ending failed answered status.ReadFault ran words before left before_sink after_sink taken (line (codes "read fault")) none ends.took
        (fault, none, found, asked, reads, refl) written
    go (inr (none, inr (inr (is, wrote)))) =
        record { taken = taken; text = []; took = ends.took; wrote = wrote; row = subst (λ s. Writes failed s words taken left ran []) (sym is) (none, refl) }

-- a read fault is one of the source
pub read_failed : (failed : Type 0) (answered : Status) (ran : Option RanState) (words : List (List ℕ)) (before left before_sink after_sink : Option (List ℕ))
    → FollowsTable failed answered ran words before left before_sink after_sink → answered ≡ status.ReadFault → failed
read_failed failed answered ran words before left before_sink after_sink follows is =
    (subst (λ s. Writes failed s words follows.taken left ran follows.text) is follows.row).0

-- ---- by the mode

pub in_mode : (mode is : Mode) (failed : Type 0) (found : Settings) (answered : Status) (ran : Option RanState) (before left before_sink after_sink : Option (List ℕ)) → mode ≡ is
    → EndsCall (meaning_of is) failed found answered ran before left before_sink after_sink
    → EndsCall (meaning_of mode) failed found answered ran before left before_sink after_sink
in_mode mode is failed found answered ran before left before_sink after_sink same ends =
    subst (λ m. EndsCall (meaning_of m) failed found answered ran before left before_sink after_sink) (sym same) ends

-- what was accepted is run, and nothing was written before that
pub ends_input : (m : Meaning) (failed : Type 0) (found : Settings) (input : m.reading.Input) (answered : Status) (ran : Option RanState)
    (before left before_sink run_sink after_sink : Option (List ℕ)) → run_sink ≡ before_sink → Takes m.reading found before left input
    → EndsInput m.IsOutput found input answered ran run_sink after_sink → EndsCall m failed found answered ran before left before_sink after_sink
ends_input m failed found input answered ran before left before_sink run_sink after_sink same takes ends =
    go (subst (λ sink. EndsInput m.IsOutput found input answered ran sink after_sink) same ends)
  where
    go : EndsInput m.IsOutput found input answered ran before_sink after_sink → EndsCall m failed found answered ran before left before_sink after_sink
    go (inl (text, output, written)) = record { taken = takes.taken; took = takes.took; ending = inl (text, (input, takes.reads, output), written) }
    go (inr (is, none, wrote)) = record { taken = takes.taken; took = takes.took; ending = inr (none, inr (inr (is, wrote))) }

-- nothing was accepted
pub ends_stopped : (m : Meaning) (failed : Type 0) (found : Settings) (answered ended : Status) (ran : Option RanState) (before left before_sink after_sink : Option (List ℕ))
    → answered ≡ ended → ran ≡ None → Stops m.reading failed found ended before left before_sink after_sink
    → EndsCall m failed found answered ran before left before_sink after_sink
ends_stopped m failed found answered ended ran before left before_sink after_sink is none stops = record {
  taken = stops.taken;
  took = stops.took;
  ending = inr (none, subst (λ s. EndsUnread m.reading failed found s stops.taken left before_sink after_sink) (sym is) stops.ending);
}

-- ---- what is too long

pub is_too_long_script : (bytes : List ℕ) → most_trace_bytes < length bytes → script_of bytes ≡ Err script_refusal.TooLong
is_too_long_script bytes long = let test : ltb most_trace_bytes (length bytes) ≡ true = grind (arith, nat_tests) in rw test refl

pub is_too_long_audit : (found : Settings) (bytes : List ℕ) → most_trace_bytes < length bytes → audit_for found bytes ≡ Err (Unread TooLong)
is_too_long_audit found bytes long = let test : ltb most_trace_bytes (length bytes) ≡ true = grind (arith, nat_tests) in rw test refl

-- ---- what is read

pub takes_trace : (found : Settings) (before left : Option (List ℕ)) (bytes : List ℕ) (trace : Trace) → Consumes before left bytes → IsAtEnd left
    → trace_for found bytes ≡ Ok trace → Takes trace_read found before left trace
takes_trace found before left bytes trace took ended is = record { taken = bytes; took = took; reads = record { is = is; out = ended } }

pub takes_script : (found : Settings) (before left : Option (List ℕ)) (bytes : List ℕ) (script : List Order) → Consumes before left bytes → IsAtEnd left
    → script_of bytes ≡ Ok script → Takes script_read found before left script
takes_script found before left bytes script took ended is = record { taken = bytes; took = took; reads = record { is = is; out = ended } }

pub stops_trace : (failed : Type 0) (found : Settings) (answered : Status) (before left before_sink after_sink : Option (List ℕ)) (bytes : List ℕ) → Consumes before left bytes
    → IsAtEnd left → RefusesTrace found bytes answered before_sink after_sink → Stops trace_read failed found answered before left before_sink after_sink
stops_trace failed found answered before left before_sink after_sink bytes took ended (inl (number, fault, is, written)) = record {
  taken = bytes;
  took = took;
  ending = inl (refusal_text (AtLine number fault), (AtLine number fault, record { is = is; out = ended }, refl), written);
}
stops_trace failed found answered before left before_sink after_sink bytes took ended (inr memory) =
    record { taken = bytes; took = took; ending = inr (inr memory) }

pub stops_script : (failed : Type 0) (found : Settings) (answered : Status) (before left before_sink after_sink : Option (List ℕ)) (bytes : List ℕ) → Consumes before left bytes
    → IsAtEnd left → RefusesScript bytes answered before_sink after_sink → Stops script_read failed found answered before left before_sink after_sink
stops_script failed found answered before left before_sink after_sink bytes took ended (inl (number, cause, is, written)) = record {
  taken = bytes;
  took = took;
  ending = inl (
    script_refusal_text (script_refusal.AtLine number cause),
    (script_refusal.AtLine number cause, record { is = is; out = ended }, refl),
    written,
  );
}
stops_script failed found answered before left before_sink after_sink bytes took ended (inr memory) =
    record { taken = bytes; took = took; ending = inr (inr memory) }

pub stops_long_trace : (failed : Type 0) (found : Settings) (answered : Status) (before left before_sink after_sink : Option (List ℕ)) (taken : List ℕ)
    → length taken ≡ most_trace_bytes + 1 → Consumes before left taken → EndsWith answered status.Refused before_sink after_sink (refusal_text TooLong)
    → Stops trace_read failed found answered before left before_sink after_sink
stops_long_trace failed found answered before left before_sink after_sink taken long took written = record {
  taken = taken;
  took = took;
  ending = inl (refusal_text TooLong, (TooLong, record { is = too_long_for found taken (omega (arith, long)); out = long }, refl), written);
}

pub stops_long_script : (failed : Type 0) (found : Settings) (answered : Status) (before left before_sink after_sink : Option (List ℕ)) (taken : List ℕ)
    → length taken ≡ most_trace_bytes + 1 → Consumes before left taken → EndsWith answered status.Refused before_sink after_sink (refusal_text TooLong)
    → Stops script_read failed found answered before left before_sink after_sink
stops_long_script failed found answered before left before_sink after_sink taken long took written = record {
  taken = taken;
  took = took;
  ending = inl (
    refusal_text TooLong,
    (script_refusal.TooLong, record { is = is_too_long_script taken (omega (arith, long)); out = long }, refl),
    written,
  );
}

-- what an input is that is cut so
pub audit-of : (found : Settings) (bytes trace report : List ℕ) → length bytes ≤ most_trace_bytes → framed bytes ≡ Some (trace, report)
    → audit_for found bytes ≡ with_report report (trace_for found trace)
audit-of found bytes trace report short cut =
    let test : ltb most_trace_bytes (length bytes) ≡ false = grind (arith, nat_tests, short) in
    rw (test, cut) refl

pub unframed : (found : Settings) (bytes : List ℕ) → length bytes ≤ most_trace_bytes → framed bytes ≡ None → audit_for found bytes ≡ Err Unframed
unframed found bytes short none =
    let test : ltb most_trace_bytes (length bytes) ≡ false = grind (arith, nat_tests, short) in
    rw (test, none) refl

pub takes_audit : (found : Settings) (before left : Option (List ℕ)) (bytes : List ℕ) (audit : Audit) → Consumes before left bytes → IsAtEnd left
    → audit_for found bytes ≡ Ok audit → Takes audit_read found before left audit
takes_audit found before left bytes audit took ended is = record { taken = bytes; took = took; reads = record { is = is; out = ended } }

pub stops_audit : (failed : Type 0) (found : Settings) (answered : Status) (before left before_sink after_sink : Option (List ℕ)) (bytes : List ℕ) → Consumes before left bytes
    → IsAtEnd left → RefusesAudit found bytes answered before_sink after_sink → Stops audit_read failed found answered before left before_sink after_sink
stops_audit failed found answered before left before_sink after_sink bytes took ended (inl (is, written)) = record {
  taken = bytes;
  took = took;
  ending = inl (audit_refusal_text Unframed, (Unframed, record { is = is; out = ended }, refl), written);
}
stops_audit failed found answered before left before_sink after_sink bytes took ended (inr (inl (number, fault, is, written))) = record {
  taken = bytes;
  took = took;
  ending = inl (refusal_text (AtLine number fault), (Unread (AtLine number fault), record { is = is; out = ended }, refl), written);
}
stops_audit failed found answered before left before_sink after_sink bytes took ended (inr (inr memory)) =
    record { taken = bytes; took = took; ending = inr (inr memory) }

pub stops_long_audit : (failed : Type 0) (found : Settings) (answered : Status) (before left before_sink after_sink : Option (List ℕ)) (taken : List ℕ)
    → length taken ≡ most_trace_bytes + 1 → Consumes before left taken → EndsWith answered status.Refused before_sink after_sink (refusal_text TooLong)
    → Stops audit_read failed found answered before left before_sink after_sink
stops_long_audit failed found answered before left before_sink after_sink taken long took written = record {
  taken = taken;
  took = took;
  ending = inl (refusal_text TooLong, (Unread TooLong, record { is = is_too_long_audit found taken (omega (arith, long)); out = long }, refl), written);
}

-- from the trace to the input that has it
pub refuses_framed : (found : Settings) (bytes trace report : List ℕ) (answered : Status) (before_sink after_sink : Option (List ℕ)) → length bytes ≤ most_trace_bytes
    → framed bytes ≡ Some (trace, report) → RefusesTrace found trace answered before_sink after_sink → RefusesAudit found bytes answered before_sink after_sink
refuses_framed found bytes trace report answered before_sink after_sink short cut (inl (number, fault, is, written)) =
    inr (inl (number, fault, audit-of found bytes trace report short cut ∙ ap (with_report report) is, written))
refuses_framed found bytes trace report answered before_sink after_sink short cut (inr memory) = inr (inr memory)

-- ---- whatever is read

pub stops_fault : (r : Reading) (failed : Type 0) (found : Settings) (answered : Status) (before left before_sink after_sink : Option (List ℕ)) (taken : List ℕ)
    → r.reads ≡ true → failed → Consumes before left taken → EndsWith answered status.ReadFault before_sink after_sink (line (codes "read fault"))
    → Stops r failed found answered before left before_sink after_sink
stops_fault r failed found answered before left before_sink after_sink taken reads fault took written =
    record { taken = taken; took = took; ending = inr (inl (fault, reads, written)) }

pub stops_memory : (r : Reading) (failed : Type 0) (found : Settings) (answered : Status) (before left sink : Option (List ℕ)) (taken : List ℕ) → Consumes before left taken
    → answered ≡ status.Memory → Stops r failed found answered before left sink sink
stops_memory r failed found answered before left sink taken took is =
    record { taken = taken; took = took; ending = inr (inr (is, appends_none sink)) }

-- ---- a trace that is made

pub takes_made : (found : Settings) (source : Option (List ℕ)) (bytes : List ℕ) (trace : Trace) → bytes ≡ made found.number found.commands → trace_for found bytes ≡ Ok trace
    → Takes trace_made found source source trace
takes_made found source bytes trace is parsed =
    record { taken = []; took = takes_none source; reads = record { is = ap (trace_for found) (sym is) ∙ parsed; out = refl } }

pub stops_made : (failed : Type 0) (found : Settings) (answered : Status) (source before_sink after_sink : Option (List ℕ)) (bytes : List ℕ) → bytes ≡ made found.number found.commands
    → RefusesTrace found bytes answered before_sink after_sink → Stops trace_made failed found answered source source before_sink after_sink
stops_made failed found answered source before_sink after_sink bytes is (inl (number, fault, refused, written)) = record {
  taken = [];
  took = takes_none source;
  ending = inl (
    refusal_text (AtLine number fault),
    (AtLine number fault, record { is = ap (trace_for found) (sym is) ∙ refused; out = refl }, refl),
    written,
  );
}
stops_made failed found answered source before_sink after_sink bytes is (inr memory) =
    record { taken = []; took = takes_none source; ending = inr (inr memory) }

pub stops_long_made : (failed : Type 0) (found : Settings) (answered : Status) (source before_sink after_sink : Option (List ℕ)) (bytes : List ℕ) → bytes ≡ made found.number found.commands
    → most_trace_bytes < length bytes → EndsWith answered status.Refused before_sink after_sink (refusal_text TooLong)
    → Stops trace_made failed found answered source source before_sink after_sink
stops_long_made failed found answered source before_sink after_sink bytes is long written = record {
  taken = [];
  took = takes_none source;
  ending = inl (refusal_text TooLong, (TooLong, record { is = ap (trace_for found) (sym is) ∙ too_long_for found bytes long; out = refl }, refl), written);
}
