use Rattle.std.proofs.Common.{arith}
use Rattle.key_table.specs.inside.Slots.{home_of}
use Rattle.key_table.proofs.seeking.seek.Goals as goal

pub unreachable-requires : goal.unreachable-requires
unreachable-requires g c =
    let home = home_of c.args.mask c.args.tag in
    let gap = c.requires.probed.gaps home in
    let near = gap.before in
    let is = c.home_of-home.ensures.home in
    let end = c.loop-at-test.false in
    c.loop-at.invariant.between gap.at gap.behind (omega (arith, near, is, end)) gap.vacant
