use Rattle.std.proofs.Common.{suc, refl, subst, arith}
use Rattle.key_table.specs.inside.Slots.{IsFirstVacant, IsTight}
use Rattle.key_table.proofs.Held.{rows_put, within_set}
use Rattle.key_table.proofs.Probes.{probed_put}
use Rattle.key_table.proofs.slots.put.Goals as goal

pub is_loose-requires-clause-probed : goal.is_loose-requires-clause-probed
is_loose-requires-clause-probed c = (c.args.mask, c.requires.probed)

pub returns-then-not-is_loose-clause-tight : goal.returns-then-not-is_loose-clause-tight
returns-then-not-is_loose-clause-tight c is =
    subst (λ home. IsTight c.args.mask c.args.slots.now.items home) c.home_of-home.ensures.home
    (c.if-not-is_loose.ensures.tight refl c.args.mask c.requires.probed)

pub returns-then-not-is_loose-clause-within : goal.returns-then-not-is_loose-clause-within
returns-then-not-is_loose-clause-within c k h = (suc k, refl)

pub returns-clause-probed : goal.returns-clause-probed
returns-clause-probed c =
    let slots = c.args.slots.now.items in
    let first = subst (λ home. IsFirstVacant slots home c.vacant_from-at.result) c.home_of-home.ensures.home c.vacant_from-at.ensures in
    probed_put c.args.mask slots c.vacant_from-at.result c.args.entry c.requires.probed first (c.if-not-is_loose.ensures.loose refl) (omega arith)

pub returns-clause-rows : goal.returns-clause-rows
returns-clause-rows c is = rows_put c.args.slots.now.items c.vacant_from-at.result c.args.entry c.vacant_from-at.ensures.inside c.vacant_from-at.ensures.vacant (omega arith)

pub returns-clause-within : goal.returns-clause-within
returns-clause-within c = within_set c.args.slots.now.items c.vacant_from-at.result c.args.entry c.vacant_from-at.ensures.inside
