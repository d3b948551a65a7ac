-- One journal more, or the first that is not sound.
use Rattle.std.proofs.Common.{◌≡◌, ℕ, ◌+◌, ◌<◌, length, take, arith, ap, subst, sym, ◌∙◌}
use Rattle.std.proofs.lemmas.List.{length-map, length-take-le}
use Rattle.trace_text.specs.Parsed.{trace_in}
use Rattle.run_log.specs.JournalState.{JournalState}
use Rattle.run_log.specs.Runs.{journals_in}
use Rattle.part_lemmas.proofs.Cursors.Places.{length-operations}
use Rattle.report_check.specs.inside.Walks.{Walks}
use Rattle.report_check.proofs.WalkedAll.{AreWalkedTo, all-walked, entries-at, none-walked, numbered-at, walked-more, walked-refused}
use Rattle.report_check.proofs.walking.walk_all.Goals as goal

pub loop-shard-init : goal.loop-shard-init
loop-shard-init c =
    subst (AreWalkedTo c.args.trace.now c.args.pages 0 (journals_in c.args.journals.now) c.args.logs.now) (sym c.new-lines.ensures.items)
    (none-walked c.args.trace.now c.args.pages (journals_in c.args.journals.now) c.args.logs.now c.requires.logs)

pub walk_journal-requires-clause-numbered : goal.walk_journal-requires-clause-numbered
walk_journal-requires-clause-numbered c =
    let journals = c.args.journals.now in
    let many = c.requires.one_each in
    let test = c.loop-shard-test.true in
    let shards = c.shards-shard-end.ensures.value in
    let long = length-map journals (λ (j : JournalState). j.entries) in
    let below : c.loop-shard.shard < length journals = omega (arith, many, test, shards) in
    let within : c.loop-shard.shard < length (journals_in journals) = omega (arith, below, long) in
    numbered-at (journals_in journals) c.loop-shard.shard c.entries-entries.result.now within
    (entries-at journals c.loop-shard.shard c.index-journals-shard.result c.entries-entries.result.now below c.index-journals-shard.is c.entries-entries.ensures.value) c.requires.numbered

pub walk_journal-requires-clause-logs : goal.walk_journal-requires-clause-logs
walk_journal-requires-clause-logs c =
    let journals = c.args.journals.now in
    let many = c.requires.one_each in
    let test = c.loop-shard-test.true in
    let shards = c.shards-shard-end.ensures.value in
    let long = length-map journals (λ (j : JournalState). j.entries) in
    (take c.loop-shard.shard (journals_in journals), length-take-le c.loop-shard.shard (journals_in journals) (omega (arith, many, test, shards, long)), c.loop-shard.invariant.logs)

pub returns-in_default : goal.returns-in_default
returns-in_default c =
    let trace = c.args.trace.now in
    let journals = c.args.journals.now in
    let l = c.loop-shard in
    let many = c.requires.one_each in
    let test = c.loop-shard-test.true in
    let shards = c.shards-shard-end.ensures.value in
    let long = length-map journals (λ (j : JournalState). j.entries) in
    let below : l.shard < length journals = omega (arith, many, test, shards) in
    let within : l.shard < length (journals_in journals) = omega (arith, below, long) in
    let front = take l.shard (journals_in journals) in
    let entries = c.entries-entries.result.now in
    let walked = c.in_ok-line.ensures front (length-take-le l.shard (journals_in journals) (omega (arith, within))) l.invariant.logs in
    let commands : length c.commands.result.now ≡ length (trace_in trace).operations = ap length c.commands.ensures.value ∙ sym (length-operations trace.bytes trace.commands) in
    walked-refused trace c.args.pages (journals_in journals) l.shard (length c.commands.result.now + l.shard + 1) entries within
    (entries-at journals l.shard c.index-journals-shard.result entries below c.index-journals-shard.is c.entries-entries.ensures.value) l.logs l.lines.items l.invariant
    (subst (Walks trace c.args.pages l.shard front entries c.walk_journal.new.logs) c.in_default.is walked)
    (ap (λ (n : ℕ). n + l.shard + 1) commands)

pub loop-shard-preserved : goal.loop-shard-preserved
loop-shard-preserved c =
    let trace = c.args.trace.now in
    let journals = c.args.journals.now in
    let l = c.loop-shard in
    let many = c.requires.one_each in
    let test = c.loop-shard-test.true in
    let shards = c.shards-shard-end.ensures.value in
    let long = length-map journals (λ (j : JournalState). j.entries) in
    let below : l.shard < length journals = omega (arith, many, test, shards) in
    let within : l.shard < length (journals_in journals) = omega (arith, below, long) in
    let front = take l.shard (journals_in journals) in
    let entries = c.entries-entries.result.now in
    let walked = c.in_ok-line.ensures front (length-take-le l.shard (journals_in journals) (omega (arith, within))) l.invariant.logs in
    subst (AreWalkedTo trace c.args.pages (l.shard + 1) (journals_in journals) c.walk_journal.new.logs) (sym c.in_ok-push.ensures.items)
    (walked-more trace c.args.pages (journals_in journals) l.shard entries within
    (entries-at journals l.shard c.index-journals-shard.result entries below c.index-journals-shard.is c.entries-entries.ensures.value) l.logs c.walk_journal.new.logs l.lines.items c.in-Some.line l.invariant
    (subst (Walks trace c.args.pages l.shard front entries c.walk_journal.new.logs) c.in-Some.is walked))

pub returns : goal.returns
returns c =
    let journals = c.args.journals.now in
    let l = c.loop-shard in
    let many = c.requires.one_each in
    let test = c.loop-shard-test.false in
    let most = l.auto.shard-end in
    let shards = c.shards-shard-end.ensures.value in
    let long = length-map journals (λ (j : JournalState). j.entries) in
    all-walked c.args.trace.now c.args.pages (journals_in journals) l.shard (omega (arith, many, test, most, shards, long)) l.logs l.lines.items l.invariant
