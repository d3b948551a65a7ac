-- Earlier bodies stay, and the last one stands where it is kept.
use Rattle.std.proofs.Common.{ap, refl, slice_set, Some, ◌∙◌}
use Rattle.run_log.proofs.ReplyLists.{all_lie, recorded_last}
use Rattle.run_log.proofs.reply_log.ReplyLog.put.Goals as goal

pub invariant_of-self : goal.invariant_of-self
invariant_of-self c =
    all_lie c.self.inside.bodies c.keep-kept.new.self c.self.inside.recorded.items c.args.part _ _ c.args.kind c.keep-kept.result.holder
    c.keep-kept.ensures.longer c.keep-kept.ensures.trace c.keep-kept.ensures.stands.0 c.self.invariant

pub returns-clause-replies : goal.returns-clause-replies
returns-clause-replies c =
    recorded_last c.self.inside.bodies c.keep-kept.new.self c.args.body.now c.self.inside.recorded.items c.args.part _ _ c.args.kind c.keep-kept.result.holder
    c.keep-kept.ensures.before c.keep-kept.ensures.trace c.keep-kept.ensures.stands refl c.self.invariant
    ∙ ap (λ view. slice_set view.replies c.args.part (Some (c.args.kind, c.args.body.now))) c.self.view_is
