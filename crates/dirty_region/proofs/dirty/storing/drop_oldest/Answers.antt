use Rattle.std.proofs.Common.{◌∷◌, sym, ap, subst, ◌∙◌}
use Rattle.regions.specs.Contents.{live_at}
use Rattle.dirty_region.specs.inside.Rings.{RingState, nth, puts_in}
use Rattle.dirty_region.specs.inside.Consistent.{IsStored}
use Rattle.dirty_region.proofs.Rings.{ring_popped, puts_popped}
use Rattle.dirty_region.proofs.Stored.{stored_popped}
use Rattle.dirty_region.proofs.dirty.storing.drop_oldest.Goals as goal

pub returns-clause-stored : goal.returns-clause-stored
returns-clause-stored c =
    let r = c.args.ring.now in let i = c.forget_oldest.new.index in let s = c.kill_put.new.region in let h = c.requires.stored in let k = c.kill_put.ensures in
    subst (λ (x : RingState). IsStored x i s) (sym c.pop.ensures)
    (stored_popped r i c.args.region.now s c.place.result h.ring_of c.requires.some h.sizes h.spare c.place.ensures k.dropped k.live k.shape c.forget_oldest.ensures)

pub returns-clause-puts : goal.returns-clause-puts
returns-clause-puts c =
    let r = c.args.ring.now in let old = live_at c.args.region.now in let new = live_at c.kill_put.new.region in
    puts_popped r old new c.requires.some (ring_popped r old new c.place.result c.requires.stored.ring_of c.requires.some c.place.ensures c.kill_put.ensures.dropped)
    ∙ sym (ap (λ (x : RingState). nth r old 0 ∷ puts_in x new) c.pop.ensures)
