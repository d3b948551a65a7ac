use Rattle.std.proofs.Common.{◌^◌, ◌≤◌, arith}
use Rattle.std.proofs.Math.Nat.{pow-le-pow_right}
use Rattle.layout.specs.Sizes.{greatest_order, most_pages}
use Rattle.span_lists.proofs.spans.span_pages.Goals as goal

pub returns-clause-bound : goal.returns-clause-bound
returns-clause-bound c =
    let few = c.requires in
    let low : 2 ^ c.args.order ≤ most_pages = pow-le-pow_right {n = 2} (omega arith) {i = c.args.order} {j = greatest_order} (omega (arith, few)) in
    omega (arith, low)
