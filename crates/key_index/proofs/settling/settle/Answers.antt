use Rattle.std.proofs.Common.{◌≡◌, ℕ, ◌+◌, ◌-◌, ◌<◌, length, sym, ap, subst, arith}
use Rattle.key_index.specs.inside.Dense.{AreDense, HasLost}
use Rattle.key_index.specs.Order.{Each}
use Rattle.key_index.specs.inside.Blocks.{entries_at, lens_of}
use Rattle.key_index.proofs.Settled.{all_blocks, mend_drop, mend_merge, mend_first, mend_join, mend_stay}
use Rattle.key_index.proofs.settling.settle.Goals as goal

pub returns-then-len-eq0-clause-in_use : goal.returns-then-len-eq0-clause-in_use
returns-then-len-eq0-clause-in_use c =
    let is = ap length c.entries-len.ensures.is in
    let mended = mend_drop c.args.blocks.now.contents c.args.at c.requires.lost (omega (arith, is, c.if-len-eq0.true)) in
    record { are_blocks = all_blocks c.drop_block.new.blocks.contents c.drop_block.ensures.fit (subst (Each (λ n. 0 < n)) (sym c.drop_block.ensures.lens) mended.1); dense = subst AreDense (sym c.drop_block.ensures.lens) mended.0 }

pub returns-in-Some-clause-in_use : goal.returns-in-Some-clause-in_use
returns-in-Some-clause-in_use c =
    let mended = mend_merge c.args.blocks.now.contents c.args.at (lens_of c.merge.new.blocks.contents) c.requires.lost c.in-Some.ensures.joins.1 c.merge.ensures.lens in
    record { are_blocks = all_blocks c.merge.new.blocks.contents c.merge.ensures.fit mended.1; dense = mended.0 }

pub returns-then-at-eq0-clause-in_use : goal.returns-then-at-eq0-clause-in_use
returns-then-at-eq0-clause-in_use c =
    let bs = c.args.blocks.now.contents in
    let is = ap length c.entries-len.ensures.is in
    let left : 0 < length (entries_at bs c.args.at) = omega (arith, is, c.if-len-eq0.false) in
    let zero = c.if-at-eq0.true in
    let mended = mend_first bs (subst (HasLost (lens_of bs)) zero c.requires.lost) (subst (λ (n : ℕ). 0 < length (entries_at bs n)) zero left) (subst (λ (n : ℕ). n + 1 < length bs
    → 128 < length (entries_at bs n) + length (entries_at bs (n + 1))) zero c.in_default.ensures.not) in
    record { are_blocks = all_blocks bs c.requires.fit mended.1; dense = mended.0 }

pub returns-in-Some-to_join-clause-in_use : goal.returns-in-Some-to_join-clause-in_use
returns-in-Some-to_join-clause-in_use c =
    let bs = c.args.blocks.now.contents in
    let is = ap length c.entries-len.ensures.is in
    let left : 0 < length (entries_at bs c.args.at) = omega (arith, is, c.if-len-eq0.false) in
    let k : c.args.at ≡ c.args.at - 1 + 1 = omega arith in
    let lost = subst (HasLost (lens_of bs)) k c.requires.lost in
    let left2 = subst (λ (n : ℕ). 0 < length (entries_at bs n)) k left in
    let more = subst (λ (n : ℕ). n + 1 < length bs → 128 < length (entries_at bs n) + length (entries_at bs (n + 1))) k c.in_default.ensures.not in
    let mended = mend_join bs (c.args.at - 1) (lens_of c.merge-in-Some-to_join.new.blocks.contents) lost left2 more c.merge-in-Some-to_join.ensures.lens in
    record { are_blocks = all_blocks c.merge-in-Some-to_join.new.blocks.contents c.merge-in-Some-to_join.ensures.fit mended.1; dense = mended.0 }

pub returns-clause-in_use : goal.returns-clause-in_use
returns-clause-in_use c =
    let bs = c.args.blocks.now.contents in
    let is = ap length c.entries-len.ensures.is in
    let left : 0 < length (entries_at bs c.args.at) = omega (arith, is, c.if-len-eq0.false) in
    let k : c.args.at ≡ c.args.at - 1 + 1 = omega arith in
    let lost = subst (HasLost (lens_of bs)) k c.requires.lost in
    let left2 = subst (λ (n : ℕ). 0 < length (entries_at bs n)) k left in
    let more = subst (λ (n : ℕ). n + 1 < length bs → 128 < length (entries_at bs n) + length (entries_at bs (n + 1))) k c.in_default.ensures.not in
    let mended = mend_stay bs (c.args.at - 1) lost left2 more c.in_default-to_join.ensures.not (subst (λ (n : ℕ). n < length bs) k c.requires.block) in
    record { are_blocks = all_blocks bs c.requires.fit mended.1; dense = mended.0 }
