-- Commands are numbered from 1, in order.
use Rattle.std.proofs.Common.{◌≡◌, ℕ, ◌+◌, ◌-◌, ◌<◌, List, length, get_or, sym, ap, subst, ◌∙◌, arith}
use Rattle.std.specs.List.{Contains}
use Rattle.trace_text.specs.declared.command.Command.{Command}
use Rattle.trace_text.specs.Parsed.{AreNumbered}
use Rattle.trace_text.proofs.trace.Trace.value_start.Goals as goal

-- what is told of the place before a number is told of the command of that number
told_of : (commands list : List Command) (command : Command) (number at start : ℕ) → AreNumbered commands → list ≡ commands → at ≡ number - 1
    → ((d : Command) → at < length list → start ≡ (get_or list at d).value.start)
    → Contains commands command → command.number ≡ number → start ≡ command.value.start
told_of commands list command number at start are same place told there is =
    let k = there.0 in
    let counted : command.number ≡ k + 1 = ap (λ (c : Command). c.number) (sym there.2) ∙ are k command there.1 in
    let here : at ≡ k = omega (arith, counted, is, place) in
    let within : at < length list = subst (λ (cs : List Command). at < length cs) (sym same) (subst (λ i. i < length commands) (sym here) there.1) in
    let found : get_or list at command ≡ command =
    ap (λ (cs : List Command). get_or cs at command) same ∙ (ap (λ i. get_or commands i command) here ∙ there.2) in
    told command within ∙ ap (λ (c : Command). c.value.start) found

pub returns : goal.returns
returns c command there is =
    let inside = c.self.inside in
    let here : Contains inside.commands command = rw (← c.self.view_is) at there in
    told_of inside.commands c.as_slice.result.now command c.args.number c.saturating_sub-at.result c.value_start_at.result
    c.self.invariant.consistent.spelled.numbered c.as_slice.ensures c.saturating_sub-at.ensures c.value_start_at.ensures here is
