use Rattle.std.proofs.Common.{◌≡◌, suc, ◌+◌, ◌-◌, ℕ, length, set, replicate, ap, ◌∙◌, arith}
use Rattle.index_lists.specs.Table.{Table}
use Rattle.index_lists.specs.inside.Links.{numbered}
use Rattle.index_lists.proofs.Begun.{begun, length-begun, one_more, all_begun}
use Rattle.index_lists.proofs.links.Links.new.Goals as goal

pub loop-list-init : goal.loop-list-init
loop-list-init c =
    let all : c.args.lists + c.args.indices ≡ c.args.lists + c.args.indices - 0 = omega arith in
    let written = c.in_ok-links.ensures.written in
    (c.in_ok-links.ensures.entries ∙ ap (λ n. replicate n 0) all, omega arith, omega (arith, written))

pub set-requires : goal.set-requires
set-requires c =
    let long = ap length c.loop-list.invariant.0 ∙ length-begun 0 c.loop-list.list (c.args.lists + c.args.indices - c.loop-list.list) in
    let low = c.loop-list-test.true in omega (arith, long, low)

pub loop-list-preserved : goal.loop-list-preserved
loop-list-preserved c =
    let at = c.loop-list.list in let low = c.loop-list-test.true in
    let rest = c.args.lists + c.args.indices - (at + 1) in
    let left : c.args.lists + c.args.indices - at ≡ suc rest = omega (arith, low) in
    let written = ap (λ (t : Table ℕ). t.written) c.set.ensures in let most = c.loop-list.invariant.2 in
    let entries = ap (λ (t : Table ℕ). t.entries) c.set.ensures ∙ ap (λ l. set l at at) (c.loop-list.invariant.0 ∙ ap (begun 0 at) left) in
    let here : at ≡ 0 + at = omega arith in
    (entries ∙ ap (set (begun 0 at (suc rest)) at) here ∙ one_more 0 at rest, omega (arith, written), omega (arith, written, most, low))

pub invariant_of-result : goal.invariant_of-result
invariant_of-result c =
    let high = c.loop-list-test.false in let most = c.loop-list.auto.list-end in
    let long = ap length c.loop-list.invariant.0 ∙ length-begun 0 c.loop-list.list (c.args.lists + c.args.indices - c.loop-list.list) in
    let small = c.requires in let low = c.loop-list.invariant.1 in
    (omega (arith, long, high, most), omega (arith, small), omega (arith, low, high), c.loop-list.invariant.2)

pub returns-clause-links : goal.returns-clause-links
returns-clause-links c =
    let high = c.loop-list-test.false in let most = c.loop-list.auto.list-end in
    let end : c.loop-list.list ≡ c.args.lists = omega (arith, high, most) in
    let left : c.args.lists + c.args.indices - c.loop-list.list ≡ c.args.indices = omega (arith, end) in
    ap (numbered c.args.lists c.args.indices) (c.loop-list.invariant.0 ∙ ap (λ k. begun 0 k (c.args.lists + c.args.indices - c.loop-list.list)) end ∙ ap (begun 0 c.args.lists) left)
    ∙ all_begun c.args.lists c.args.indices
