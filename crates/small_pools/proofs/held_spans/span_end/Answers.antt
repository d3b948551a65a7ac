use Rattle.std.proofs.Common.{◌≡◌, ◌+◌, ◌*◌, ◌%◌, ◌^◌, ap, ◌∙◌, arith}
use Rattle.std.proofs.lemmas.Nat.{one_shl}
use Rattle.small_pools.specs.Classes.{order_of}
use Rattle.small_pools.proofs.held_spans.span_end.Goals as goal

pub overflow_add-result : goal.overflow_add-result
overflow_add-result c =
    let most = c.class_order.ensures.most in
    let long : 1 * 2 ^ c.class_order.result % 2 ^ 32 ≡ 2 ^ order_of c.args.class = one_shl c.class_order.result 32 (omega (arith, most)) ∙ ap (λ n. 2 ^ n) c.class_order.ensures.value in
    let small = c.requires.small in omega (arith, long, small)

pub returns : goal.returns
returns c =
    let most = c.class_order.ensures.most in
    let long : 1 * 2 ^ c.class_order.result % 2 ^ 32 ≡ 2 ^ order_of c.args.class = one_shl c.class_order.result 32 (omega (arith, most)) ∙ ap (λ n. 2 ^ n) c.class_order.ensures.value in
    ap (λ n. c.args.first + n) long
