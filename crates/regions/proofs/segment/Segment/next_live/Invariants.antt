use Rattle.std.proofs.Common.{◌-◌, ◌≤◌, Some}
use Rattle.regions.specs.Contents.{starts_in, none_lives_in}
use Rattle.regions.proofs.segment.Segment.next_live.Given as goal

abbrev pub invariant-loop-at : goal.invariant-loop-at
invariant-loop-at l = (l.from ≤ l.at) × starts_in (Some l.self) l.at × none_lives_in (Some l.self) l.from l.at

abbrev pub decreases-loop-at : goal.decreases-loop-at
decreases-loop-at l = l.self-inside.used - l.at
