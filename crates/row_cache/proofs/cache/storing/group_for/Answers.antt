use Rattle.std.proofs.Common.{◌<◌, ◌%◌, sym, ap, ◌∙◌, arith}
use Rattle.std.proofs.Math.Nat.{mod-eq_of_lt}
use Rattle.std.proofs.lemmas.Nat.{mod_below}
use Rattle.regions.specs.Shapes.{group_count}
use Rattle.row_cache.proofs.cache.storing.group_for.Goals as goal

pub returns-then-number-groups-clause-group : goal.returns-then-number-groups-clause-group
returns-then-number-groups-clause-group c =
    let low = c.if-number-groups.true in let same = c.from-number.ensures in let count = c.groups-groups.ensures.count in
    let below : c.args.table < group_count c.args.region.now = omega (arith, low, same, count) in
    same ∙ sym (mod-eq_of_lt below)

pub returns-then-number-groups-clause-has : goal.returns-then-number-groups-clause-has
returns-then-number-groups-clause-has c = (let low = c.if-number-groups.true in let count = c.groups-groups.ensures.count in omega (arith, low, count))

pub returns-else-number-groups-clause-group : goal.returns-else-number-groups-clause-group
returns-else-number-groups-clause-group c =
    ap (λ n. n % c.groups-groups.result) c.from-number.ensures ∙ ap (λ n. c.args.table % n) c.groups-groups.ensures.count

pub returns-else-number-groups-clause-has : goal.returns-else-number-groups-clause-has
returns-else-number-groups-clause-has c =
    let count = c.groups-groups.ensures.count in let some = c.requires in
    let low = mod_below c.from-number.result c.groups-groups.result (omega (arith, count, some)) in
    omega (arith, low, count)
