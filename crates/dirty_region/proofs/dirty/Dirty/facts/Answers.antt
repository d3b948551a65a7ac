use Rattle.std.proofs.Common.{◌≡◌, length, ap, arith, subst}
use Rattle.rows.specs.Row.{live}
use Rattle.regions.specs.Counts.{live_total}
use Rattle.regions.specs.Contents.{live_at}
use Rattle.dirty_region.specs.Puts.{Stand}
use Rattle.dirty_region.specs.State.{DirtyState}
use Rattle.dirty_region.specs.inside.Rings.{nth}
use Rattle.dirty_region.proofs.Listed.{length-listed}
use Rattle.dirty_region.proofs.Standing.{puts_stand}
use Rattle.dirty_region.proofs.dirty.Dirty.facts.Goals as goal

pub returns-clause-few : goal.returns-clause-few
returns-clause-few c =
    let r = c.self.inside.ring in
    let long = length-listed (nth r (live_at c.self.inside.region)) r.count in let seen = ap (λ (x : DirtyState). length x.queue.puts) c.self.view_is in
    let room = ap (λ (x : DirtyState). x.room) c.self.view_is in let few = c.self.invariant.0.stored.ring_of.numbers.few in omega (arith, long, seen, room, few)

pub returns-clause-live : goal.returns-clause-live
returns-clause-live c = subst (λ (x : DirtyState). live x.queue.puts ≡ live_total x.region) c.self.view_is c.self.invariant.0.stored.sizes

pub returns-clause-stand : goal.returns-clause-stand
returns-clause-stand c =
    subst (λ (x : DirtyState). Stand x.first x.queue.puts x.region) c.self.view_is (puts_stand c.self.inside.ring c.self.inside.region c.self.invariant.0.stored.ring_of)
