-- One line more, which spells the journal of its shard or does not.
use Rattle.std.proofs.Common.{◌≡◌, ◌+◌, ◌-◌, ◌<◌, List, [], ◌∷◌, ◌++◌, drop, arith, sym, ap, ◌∙◌}
use Rattle.std.specs.List.{range_with_len}
use Rattle.std.specs.Option.{option_map}
use Rattle.std.proofs.lemmas.List.{drop-drop, map-append}
use Rattle.cache_model.specs.declared.entry.Entry.{Entry}
use Rattle.run_log.specs.JournalState.{JournalState}
use Rattle.run_log.specs.Runs.{journals_in}
use Rattle.report_check.specs.Lines.{Line, lines_of}
use Rattle.report_check.specs.Spelled.{journal_of, journals_of}
use Rattle.report_check.proofs.ReadJournals.{all-read, behind, shard-other, shard-read}
use Rattle.report_check.proofs.journals.read_journals.Goals as goal

pub loop-shard-preserved : goal.loop-shard-preserved
loop-shard-preserved c =
    let l = c.loop-shard in let i = l.invariant in let cut = c.cut_line.ensures in
    let below : l.shard < c.args.shards = c.loop-shard-test.true in
    let shorter = i.shorter in let less = cut.no_longer in
    let read = journals_in l.journals.items in
    let others = range_with_len (l.shard + 1) (c.args.shards - (l.shard + 1)) in
    record {
      below = omega (arith, below);
      joined =
          shard-read c.args.count c.args.shards l.shard (lines_of c.args.bytes.now) (lines_of l.rest.now) read below i.joined c.in-Some.journal.entries
          (ap (journal_of c.args.count l.shard) (sym cut.first) ∙ sym c.in_ok-journal.ensures ∙ ap (option_map (λ (journal : JournalState). journal.entries)) c.in-Some.is)
          ∙ ap (λ (lines : List Line). behind (read ++ c.in-Some.journal.entries ∷ []) (journals_of c.args.count others lines)) (sym cut.behind)
          ∙ ap (λ (before : List (List Entry)). behind before (journals_of c.args.count others (lines_of c.cut_line.result.1.now)))
          (sym (map-append (λ (journal : JournalState). journal.entries) l.journals.items (c.in-Some.journal ∷ [])))
          ∙ ap (λ (journals : List JournalState). behind (journals_in journals) (journals_of c.args.count others (lines_of c.cut_line.result.1.now)))
          (sym c.in_ok-push.ensures.items);
      lines = cut.behind ∙ ap (drop 1) i.lines ∙ drop-drop 1 l.shard (lines_of c.args.bytes.now);
      shorter = omega (arith, shorter, less);
    }

pub returns-in_default-clause-read : goal.returns-in_default-clause-read
returns-in_default-clause-read c =
    let l = c.loop-shard in
    shard-other c.args.count c.args.shards l.shard (lines_of c.args.bytes.now) (lines_of l.rest.now) (journals_in l.journals.items) c.loop-shard-test.true l.invariant.joined
    (ap (journal_of c.args.count l.shard) (sym c.cut_line.ensures.first) ∙ sym c.in_ok-journal.ensures ∙ ap (option_map (λ (journal : JournalState). journal.entries)) c.in_default.is)

pub returns-clause-read : goal.returns-clause-read
returns-clause-read c =
    let l = c.loop-shard in let i = l.invariant in
    let below = i.below in
    let end : l.shard ≡ c.args.shards = grind (arith, below) in
    record {
      journals = all-read c.args.count c.args.shards l.shard (lines_of c.args.bytes.now) (lines_of l.rest.now) (journals_in l.journals.items) end i.joined;
      behind = i.lines ∙ ap (λ k. drop k (lines_of c.args.bytes.now)) end;
    }
