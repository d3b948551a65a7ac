use Rattle.std.proofs.Common.{◌≡◌, ℕ, ◌+◌, List, [], ◌∷◌, cond, map, refl, sym, ap, ◌∙◌, arith}
use Rattle.std.specs.List.{count_by}
use Rattle.std.proofs.lemmas.List.Sums.{sum_by-cons, count_by-le-length}
use Rattle.trace_text.specs.declared.command.Command.{Command}
use Rattle.rows.specs.Operation.{Operation, is_put}
use Rattle.trace_text.specs.Operation.{operation}
use Rattle.dirty_mode.proofs.store.put_count.Goals as goal

same_count : (bytes : List ℕ) (commands : List Command) → count_by (λ (o : Operation). is_put o.kind) (map (operation bytes) commands) ≡ count_by (λ (c : Command). is_put c.kind) commands
same_count bytes [] = refl
same_count bytes (c ∷ cs) =
    sum_by-cons (λ (o : Operation). cond (is_put o.kind) 1 0) (operation bytes c) (map (operation bytes) cs)
    ∙ (ap (λ n. cond (is_put c.kind) 1 0 + n) (same_count bytes cs) ∙ sym (sum_by-cons (λ (c : Command). cond (is_put c.kind) 1 0) c cs))

pub overflow_cast-result : goal.overflow_cast-result
overflow_cast-result c =
    let few = c.commands.ensures.few in let less = count_by-le-length (λ (k : Command). is_put k.kind) c.commands.result.now in let is = c.puts_among.ensures in omega (arith, few, less, is)

pub returns : goal.returns
returns c = c.puts_among.ensures ∙ (ap (count_by (λ (k : Command). is_put k.kind)) c.commands.ensures.value ∙ sym (same_count c.args.trace.now.bytes c.args.trace.now.commands))
