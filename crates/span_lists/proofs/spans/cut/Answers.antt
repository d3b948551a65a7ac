use Rattle.std.proofs.Common.{◌≡◌, ◌+◌, ◌-◌, ◌%◌, ◌^◌, sym, subst, ap, arith}
use Rattle.std.proofs.lemmas.Nat.{pow_pos}
use Rattle.common_lemmas.proofs.Powers.{pow_twice, coarser, ends_aligned}
use Rattle.index_lists.specs.Table.{Table}
use Rattle.span_lists.specs.declared.spans.PageState.{PageState}
use Rattle.span_lists.proofs.Fresh.{begun_more, begun_less, consistent_begun}
use Rattle.span_lists.proofs.spans.cut.Goals as goal

pub loop-least-preserved-then-first-span_pages : goal.loop-least-preserved-then-first-span_pages
loop-least-preserved-then-first-span_pages c =
    let first = c.loop-least.first in let order = c.loop-least.least - 1 in
    let i = c.loop-least.invariant in let most = i.1 in let low = i.3 in let some = c.loop-least-test.true in
    let fits = c.if-first-span_pages.true in let long = c.span_pages.ensures.value in let same = c.span_pages-first.ensures.value in
    let next : order + 1 ≡ c.loop-least.least = omega (arith, some) in
    let twice : 2 ^ c.loop-least.least ≡ 2 ^ order + 2 ^ order = subst (λ n. 2 ^ n ≡ 2 ^ order + 2 ^ order) next (pow_twice order) in
    let aligned = coarser first order c.loop-least.least (omega (arith, next)) i.4 in
    let pos = pow_pos order in
    let end : first + c.span_pages-first.result ≡ first + 2 ^ order = ap (λ n. first + n) same in (
      rw ((ap (λ (t : Table PageState). t.entries) c.set.ensures), c.push_front.ensures, same)
          (begun_more c.args.pages first c.loop-least.least order c.loop-least.states.entries c.loop-least.lists i.0 (omega (arith, next)) most aligned (omega (arith, fits, long, pos))),
      omega (arith, most),
      omega (arith, fits, long, same),
      omega (arith, low, twice, same),
      subst (λ n. n % 2 ^ order ≡ 0) (sym end) (ends_aligned first order order (omega arith) aligned),
    )

pub loop-least-preserved : goal.loop-least-preserved
loop-least-preserved c =
    let first = c.loop-least.first in let order = c.loop-least.least - 1 in
    let i = c.loop-least.invariant in let most = i.1 in let some = c.loop-least-test.true in
    let over = c.if-first-span_pages.false in let long = c.span_pages.ensures.value in (
      begun_less c.args.pages first c.loop-least.least order c.loop-least.states.entries c.loop-least.lists i.0 (omega arith),
      omega (arith, most),
      i.2,
      omega (arith, over, long),
      coarser first order c.loop-least.least (omega arith) i.4,
    )

pub returns-clause-consistent : goal.returns-clause-consistent
returns-clause-consistent c =
    let i = c.loop-least.invariant in let most = i.2 in let low = i.3 in
    let none : c.loop-least.least ≡ 0 = (let test = c.loop-least-test.false in omega (arith, test)) in
    let one : 2 ^ c.loop-least.least ≡ 1 = ap (λ n. 2 ^ n) none in
    consistent_begun c.args.pages c.loop-least.first c.loop-least.least c.loop-least.states.entries c.loop-least.lists i.0 (omega (arith, most, low, one)) c.requires.most
