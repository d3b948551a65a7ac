-- What is written of a run that is finished, and what a call answers then.
use Rattle.std.proofs.Common.{◌≡◌, ℕ, List, map, Option, Result, Ok, Err, inl, inr, sym, ap, subst, ◌∙◌}
use Rattle.std.specs.Result.{OnOk, OnErr}
use Rattle.std.specs.List.{enumerate_from}
use Rattle.outside.specs.Moves.{Sends}
use Rattle.layout.specs.Counts.{Rose}
use Rattle.rows.specs.Apply.{Reply}
use Rattle.trace_text.specs.Trace.{Trace}
use Rattle.cache_model.specs.declared.entry.Entry.{Entry}
use Rattle.cache_model.specs.Logged.{AreLogged}
use Rattle.cache_model.specs.Report.{Occupancy, answers, occupancy}
use Rattle.run_log.specs.JournalState.{JournalState}
use Rattle.run_log.specs.Replies.{Replies}
use Rattle.run_log.specs.declared.shard_line.ShardLine.{ShardLine}
use Rattle.run_log.specs.Runs.{IsFinished, RanState, journals_in, occupancies_in, replies_in}
use Rattle.shardcache.specs.declared.status.Status.{Status}
use Rattle.shardcache.specs.declared.status.Status.TheVariants as status
use Rattle.shardcache.specs.inside.Ending.{EndsOutput}

module _ {K T E : Type 0} (bytes : K → Option (List ℕ)) (count : K → ℕ) (old new : K) (r : Result T E) where
  -- what is sent by logs, journals and lines is sent of the run that left them
  pub sent_run : (text_of : List (ℕ × Reply) → List (List Entry) → List Occupancy → List ℕ) (trace : Trace) (n pages : ℕ) (ran : RanState)
      (logs : List Replies) (journals : List JournalState) (lines : List ShardLine) → IsFinished trace n pages ran
      → logs ≡ ran.logs → journals ≡ ran.journals → lines ≡ ran.lines
      → ((found : List (ℕ × Reply)) → AreLogged trace n (replies_in logs) found → Sends bytes count old new r (text_of found (journals_in journals) (occupancies_in lines)))
      → Sends bytes count old new r (text_of (answers trace n pages (journals_in ran.journals)) (journals_in ran.journals) (map (occupancy trace n pages) (enumerate_from 0 (journals_in ran.journals))))
  sent_run text_of trace n pages ran logs journals lines run same_logs same_journals same_lines sent =
      let all : List (ℕ × Reply) = answers trace n pages (journals_in ran.journals) in
      let logged = subst (λ (ls : List Replies). AreLogged trace n (replies_in ls) all) (sym same_logs) run.logged in
      subst (λ (text : List ℕ). Sends bytes count old new r text)
      (ap (λ (js : List JournalState). text_of all (journals_in js) (occupancies_in lines)) same_journals
      ∙ (ap (λ (ls : List ShardLine). text_of all (journals_in ran.journals) (occupancies_in ls)) same_lines
      ∙ ap (λ (os : List Occupancy). text_of all (journals_in ran.journals) os) run.occupied))
      (sent all logged)

-- a text was sent, and the answer says whether it was all of it
module _ {K T E : Type 0} (bytes : K → Option (List ℕ)) (count : K → ℕ) (old new : K) (text : List ℕ) where
  pub ends_output : (r : Result T E) (answered : Status) → OnOk r (answered ≡ status.Done) → OnErr r (answered ≡ status.WriteFault)
      → Sends bytes count old new r text → EndsOutput answered (bytes old) (bytes new) text
  ends_output (Ok v) answered done fault sent = inl (done, sent.written)
  ends_output (Err e) answered done fault sent = inr (fault, sent.front)

  pub fails_with_sink : (r : Result T E) (answered : Status) → OnOk r (answered ≡ status.Done)
      → Sends bytes count old new r text → answered ≡ status.WriteFault → Rose (count old) (count new)
  fails_with_sink (Ok v) answered done sent is = absurd (let clash : status.Done ≡ status.WriteFault = sym done ∙ is in cc)
  fails_with_sink (Err e) answered done sent is = sent.failed
