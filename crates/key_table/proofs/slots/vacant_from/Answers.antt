use Rattle.std.proofs.Common.{arith}
use Rattle.key_table.proofs.slots.vacant_from.Goals as goal

pub unreachable-requires : goal.unreachable-requires
unreachable-requires c =
    let gap = c.requires.probed.gaps c.args.home in
    let near = gap.before in
    let end = c.loop-at-test.false in
    c.loop-at.invariant gap.at gap.behind (omega (arith, near, end)) gap.vacant
