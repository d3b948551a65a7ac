-- The journal is sound, or it is not.
use Rattle.std.proofs.Common.{◌≡◌, All, [], true≢false, subst, sym, ◌∙◌}
use Rattle.part_lemmas.specs.Rest.{RestState}
use Rattle.report_check.specs.inside.Walks.{Ends}
use Rattle.report_check.proofs.WalkedThrough.{not-through, through}
use Rattle.report_check.proofs.walking.walk_through.Goals as goal

pub returns-then-not-branch : goal.returns-then-not-branch
returns-then-not-branch c = λ pages walked stands.
    subst (λ may. Ends c.args.trace.now pages c.args.shard walked c.args.entries.now may c.walk_entries.new.walk c.walk_entries.new.logs) c.if-not-branch.true
    (c.in_ok-walk_entries.ensures pages c.args.shard walked stands)

pub returns-then-not-are_done : goal.returns-then-not-are_done
returns-then-not-are_done c = λ pages walked stands.
    not-through c.args.trace.now pages c.args.shard walked c.args.entries.now c.walk_entries.new.walk c.walk_entries.new.logs
    (subst (λ may. Ends c.args.trace.now pages c.args.shard walked c.args.entries.now may c.walk_entries.new.walk c.walk_entries.new.logs) c.if-not-branch.false
    (c.in_ok-walk_entries.ensures pages c.args.shard walked stands))
    (λ all. true≢false (sym (c.are_done.ensures.1 (subst (All (λ (rest : RestState). rest.left ≡ [])) (sym c.as_slice.ensures.value) all)) ∙ c.if-not-are_done.true))

pub returns : goal.returns
returns c = λ pages walked stands.
    through c.args.trace.now pages c.args.shard walked c.args.entries.now c.walk_entries.new.walk c.walk_entries.new.logs
    (subst (λ may. Ends c.args.trace.now pages c.args.shard walked c.args.entries.now may c.walk_entries.new.walk c.walk_entries.new.logs) c.if-not-branch.false
    (c.in_ok-walk_entries.ensures pages c.args.shard walked stands))
    c.line_of.result (subst (All (λ (rest : RestState). rest.left ≡ [])) c.as_slice.ensures.value (c.are_done.ensures.0 c.if-not-are_done.false)) c.line_of.ensures
