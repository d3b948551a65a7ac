-- A line that is there and ends, and spells a journal.
use Rattle.std.proofs.Common.{Bor, ℕ, Global, List, Option, Some, Vec, ap, sym, ◌∙◌}
use Rattle.std.specs.Option.{option_map}
use Rattle.cache_model.specs.declared.entry.Entry.{Entry}
use Rattle.run_log.specs.JournalState.{JournalState}
use Rattle.report_check.specs.Spelled.{journal_of}
use Rattle.report_check.proofs.Entries.{shown}
use Rattle.report_check.proofs.journals.journal_of.Goals as goal

pub returns-in_default-behind_shard : goal.returns-in_default-behind_shard
returns-in_default-behind_shard c =
    let line = c.in-Some.is ∙ ap (λ (o : Option (Bor (List ℕ))). Some o) c.in-Some-line.is in
    sym (ap (λ (o : Option (Option (Bor (List ℕ)))). journal_of c.args.count c.args.shard (option_map shown o)) line
    ∙ c.in_default-behind_shard.ensures.other c.args.count)

pub returns-in_default-2 : goal.returns-in_default-2
returns-in_default-2 c =
    let line = c.in-Some.is ∙ ap (λ (o : Option (Bor (List ℕ))). Some o) c.in-Some-line.is in
    ap (option_map (λ (entries : Vec Entry Global). entries.items)) (sym c.in_default-2.is) ∙ c.in_ok-entries.ensures.entries
    ∙ sym (ap (λ (o : Option (Option (Bor (List ℕ)))). journal_of c.args.count c.args.shard (option_map shown o)) line
    ∙ c.in-Some-behind_shard.ensures.found c.args.count)

pub returns : goal.returns
returns c =
    let line = c.in-Some.is ∙ ap (λ (o : Option (Bor (List ℕ))). Some o) c.in-Some-line.is in
    ap (λ (journal : JournalState). Some journal.entries) c.of.ensures
    ∙ (ap (option_map (λ (entries : Vec Entry Global). entries.items)) (sym c.in-Some-2.is) ∙ c.in_ok-entries.ensures.entries)
    ∙ sym (ap (λ (o : Option (Option (Bor (List ℕ)))). journal_of c.args.count c.args.shard (option_map shown o)) line
    ∙ c.in-Some-behind_shard.ensures.found c.args.count)
