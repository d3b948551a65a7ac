-- One entry more, or the first that may not stand where it does.
use Rattle.std.proofs.Common.{refl, subst}
use Rattle.std.proofs.lemmas.List.{take_all}
use Rattle.report_check.specs.inside.Walks.{StandsOver}
use Rattle.report_check.proofs.WalkedThrough.{entry-refused, entry-walked}
use Rattle.report_check.proofs.walking.walk_entries.Goals as goal

pub loop-entry-preserved : goal.loop-entry-preserved
loop-entry-preserved c = λ pages s walked stands.
    let l = c.loop-entry in
    entry-walked c.args.trace.now pages s walked c.args.entries.now l.entry-index _ _ c.loop-entry-test.true refl c.step.new.walk c.step.new.logs c.in_ok-step.field-0 c.if-not-branch.false
    (c.in_ok-step.ensures pages s walked _ (l.invariant pages s walked stands))

pub returns-then-not-branch : goal.returns-then-not-branch
returns-then-not-branch c = λ pages s walked stands.
    let l = c.loop-entry in
    entry-refused c.args.trace.now pages s walked c.args.entries.now l.entry-index _ _ c.loop-entry-test.true refl c.step.new.walk c.step.new.logs c.in_ok-step.field-0 c.if-not-branch.true
    (c.in_ok-step.ensures pages s walked _ (l.invariant pages s walked stands))

pub step-requires-clause-stands : goal.step-requires-clause-stands
step-requires-clause-stands c =
    let at = c.requires.stands in
    (at.0, at.1, at.2, _, c.loop-entry.invariant at.0 at.1 at.2 at.3)

pub returns : goal.returns
returns c = λ pages s walked stands.
    let l = c.loop-entry in
    subst (λ es. StandsOver c.args.trace.now pages s walked es l.walk l.logs) (take_all l.entry-index c.args.entries.now c.loop-entry-test.false) (l.invariant pages s walked stands)
