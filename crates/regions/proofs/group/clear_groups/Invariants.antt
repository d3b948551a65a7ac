use Rattle.std.proofs.Common.{◌≡◌, ◌++◌, map, take, drop}
use Rattle.regions.specs.inside.Consistent.{cleared}
use Rattle.regions.proofs.group.clear_groups.Given as goal

abbrev pub invariant-loop-group : goal.invariant-loop-group
invariant-loop-group l = l.groups ≡ map cleared (take l.group l.initial.groups) ++ drop l.group l.initial.groups
