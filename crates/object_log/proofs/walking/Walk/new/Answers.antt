use Rattle.std.proofs.Common.{◌≡◌, ◌-◌, subst, arith}
use Rattle.std.specs.List.Sorted.{IsStrictlyIncreasing}
use Rattle.object_log.specs.Objects.{objects, objects_from, offsets}
use Rattle.object_log.proofs.Reading.{offsets-rise}
use Rattle.object_log.proofs.walking.Walk.new.Goals as goal

pub returns-clause-rising : goal.returns-clause-rising
returns-clause-rising c =
    let bytes = c.args.segment.now in let used = c.args.used in let zero : used ≡ used - 0 = omega arith in
    subst (λ n. IsStrictlyIncreasing (offsets (objects_from n bytes 0 used))) zero (offsets-rise bytes 0 used (objects bytes used) c.requires.objects)
