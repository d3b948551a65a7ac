-- Journals that are legal and complete reply to each part, and logs that hold these replies hold the answers.
use Rattle.std.proofs.Common.{◌≡◌, ℕ, zero, suc, ◌<◌, ◌==◌, ◌&&◌, ◌||◌, Bool, true, false, cond, List, [], ◌∷◌, length, get_or, slice_get, Some, arith, refl, sym, ap, subst, ◌∙◌}
use Rattle.std.specs.List.{All, filter, list_any, slice_index_or}
use Rattle.std.specs.Option.{IsSome, option_and_then}
use Rattle.std.proofs.lemmas.Bool.{eq-eqb}
use Rattle.std.proofs.lemmas.List.{get_or-map, length-map}
use Rattle.std.proofs.lemmas.List.Elements.{All-filter}
use Rattle.std.proofs.lemmas.Option.{slice_get-get_or}
use Rattle.rows.specs.Operation.{Operation}
use Rattle.trace_text.specs.Parsed.{IsConsistent, IsWellFormed, Parsed, trace_in}
use Rattle.trace_text.specs.Parts.{has_part, origin, parts}
use Rattle.trace_text.specs.Trace.{Trace}
use Rattle.cache_model.specs.declared.entry.Entry.{Entry}
use Rattle.cache_model.specs.Legal.{IsComplete, IsLegal, command_of, done, is_done, reply_at}
use Rattle.cache_model.specs.Logged.{AreLogged}
use Rattle.cache_model.specs.OwnParts.{HoldsReplies, Log, part_reply}
use Rattle.cache_model.specs.Replied.{HoldTheReplies}
use Rattle.cache_model.specs.Report.{answers}
use Rattle.run_log.specs.Replies.{Replies}
use Rattle.run_log.specs.Runs.{replies_in}
use Rattle.cache_lemmas.proofs.Laws.{a_journal_goes_on-number, a_legal_journal_replies, logs_hold_the_answers}
use Rattle.part_lemmas.specs.Due.{operations_for}
use Rattle.part_lemmas.specs.Exchange.{done_for}
use Rattle.part_lemmas.proofs.Cursors.Places.{no_operation, numbered}
use Rattle.part_lemmas.proofs.OwnParts.BegunParts.{commands-found}
use Rattle.part_lemmas.proofs.Together.Logs.{of-all-parts}
use Rattle.report_check.specs.inside.Walks.{AreLogs}

no_log : Replies
no_log = record { replies = []; room = 0 }

-- what a filter keeps is in the list
any-kept : (p : ℕ → Bool) (xs : List ℕ) (k d : ℕ) → k < length (filter p xs) → list_any (λ j. j == get_or (filter p xs) k d) xs ≡ true
any-kept p [] k d below = absurd (omega (arith, below))
any-kept p (x ∷ xs) k d below = go (p x) (λ m less. any-kept p xs m d less) k below
  where
    or-true : (b : Bool) → (b || true) ≡ true
    or-true true = refl
    or-true false = refl

    later : (i : ℕ) → list_any (λ j. j == i) xs ≡ true → list_any (λ j. j == i) (x ∷ xs) ≡ true
    later i any = rw any (or-true (x == i))

    go : (b : Bool) → ((m : ℕ) → m < length (filter p xs) → list_any (λ j. j == get_or (filter p xs) m d) xs ≡ true)
        → (m : ℕ) → m < length (cond b (x ∷ filter p xs) (filter p xs)) → list_any (λ j. j == get_or (cond b (x ∷ filter p xs) (filter p xs)) m d) (x ∷ xs) ≡ true
    go true kept zero less = let here : (x == x) ≡ true = eq-eqb x x refl in rw here refl
    go true kept (suc m) less = later (get_or (filter p xs) m d) (kept m (omega (arith, less)))
    go false kept m less = later (get_or (filter p xs) m d) (kept m less)

module _ (trace : Parsed) (pages : ℕ) (journals : List (List Entry)) (read : IsConsistent trace) (formed : All IsWellFormed (trace_in trace).operations)
    (many : length journals ≡ trace.shards) (legal : (s : ℕ) (d : List Entry) → s < trace.shards → IsLegal (trace_in trace) pages (slice_index_or journals s d))
    (complete : (s : ℕ) (d : List Entry) → s < trace.shards → IsComplete (trace_in trace) trace.shards s (slice_index_or journals s d)) where
  abbrev t : Trace
  t = trace_in trace

  abbrev n : ℕ
  n = trace.shards

  found : All (λ operation. command_of t operation.number ≡ Some operation) t.operations
  found = commands-found t (numbered trace.bytes trace.commands read.spelled.numbered)

  -- each part of an origin at a shard
  replied : (o s : ℕ) → o < n → s < n → All (λ i. IsSome (part_reply t pages journals (i, s))) (parts t n o s)
  replied o s origin-below below k d within =
      let journal = get_or journals s [] in
      let ops = operations_for t n o s in
      let i = get_or (parts t n o s) k d in
      let inside : k < length ops = omega (arith, within, length-map ops (λ (x : Operation). x.number)) in
      let one = get_or ops k no_operation in
      let number : i ≡ one.number = get_or-map (λ (x : Operation). x.number) ops k no_operation d inside in
      let command : command_of t i ≡ Some one =
      ap (command_of t) number
      ∙ All-filter (λ x. origin x.number n == o && has_part n s x) (λ x. command_of t x.number ≡ Some x) t.operations found k no_operation inside in
      let served : done_for n o journal ≡ parts t n o s = complete s [] below o origin-below in
      let seen : list_any (λ j. j == get_or (done_for n o journal) k d) (done journal) ≡ true =
      any-kept (λ j. origin j n == o) (done journal) k d (subst (λ (list : List ℕ). k < length list) (sym served) within) in
      let any : list_any (is_done i) journal ≡ true =
      a_journal_goes_on-number i journal ∙ ap (λ (list : List ℕ). list_any (λ j. j == get_or list k d) (done journal)) (sym served) ∙ seen in
      let there : slice_get journals s ≡ Some journal = slice_get-get_or journals s [] (omega (arith, below, many)) in
      subst IsSome (sym (ap (option_and_then (λ js. reply_at t pages js i)) there)) (a_legal_journal_replies t pages i journal one (legal s [] below) any command)

  pub held : (logs : List Replies) → AreLogs trace pages journals logs → HoldTheReplies t n pages journals (replies_in logs)
  held logs are = record {
    one_journal_each = many;
    keys = λ k d below put. record { some = (formed k d below).key_some; short = (formed k d below).key_most };
    commands = found;
    replied = of-all-parts (λ part. IsSome (part_reply t pages journals part)) t n (omega (arith, read.some_shards)) replied;
    logged = λ o d below. each o d below;
  }
    where
      each : (o : ℕ) (d : Log) → o < n → HoldsReplies t n o (part_reply t pages journals) (slice_index_or (replies_in logs) o d)
      each o d below =
          let within : o < length logs = omega (arith, below, are.many) in
          subst (HoldsReplies t n o (part_reply t pages journals)) (sym (get_or-map (λ (log : Replies). log.replies) logs o no_log d within)) (are.each o no_log below)

  -- so the logs have the answers
  pub answered : (logs : List Replies) → AreLogs trace pages journals logs → AreLogged t n (replies_in logs) (answers t n pages journals)
  answered logs are = logs_hold_the_answers t n pages journals (replies_in logs) (held logs are)
