use Rattle.std.proofs.Common.{◌≡◌, replicate}
use Rattle.regions.specs.inside.Consistent.{unused}
use Rattle.regions.proofs.group.new_groups.Given as goal

abbrev pub invariant-loop-group : goal.invariant-loop-group
invariant-loop-group l = l.groups.items ≡ replicate l._group (unused l.most)
