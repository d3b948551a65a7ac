use Rattle.std.proofs.Common.{◌≡◌, ◌-◌, ◌∷◌, sym, ap, subst, ◌∙◌, arith}
use Rattle.key_table.specs.Table.{AreSame}
use Rattle.regions.specs.Contents.{live_at}
use Rattle.dirty_region.specs.inside.Rings.{HasSomePut, key_at, slot}
use Rattle.dirty_region.specs.inside.PutRows.{IsKeyed, IsPutIndexOf, rows_in}
use Rattle.dirty_region.proofs.Indexes.{put_index_of, at_keys, entry_fits, entered}
use Rattle.dirty_region.proofs.seeking.enter.Goals as goal

pub insert-requires-clause-index : goal.insert-requires-clause-index
insert-requires-clause-index c =
    let k = c.keys.result in
    at_keys (λ s places. IsPutIndexOf (HasSomePut (live_at s) places) (key_at (live_at s) places) c.args.index.now) c.args.region.now k.region.now c.args.ring.now.places k.places.now
    c.keys.ensures.region c.keys.ensures.places (put_index_of c.args.ring.now (live_at c.args.region.now) (c.args.ring.now.count - 1) c.args.index.now c.requires.ring (omega arith) c.requires.index)

pub insert-requires-clause-room : goal.insert-requires-clause-room
insert-requires-clause-room c = entry_fits c.args.ring.now (live_at c.args.region.now) c.args.index.now c.requires.ring c.requires.some c.requires.index

pub returns : goal.returns
returns c =
    let k = c.keys.result in let r = c.args.ring.now in let i = c.args.index.now in let new = c.insert.new.self in
    let keyed = at_keys (λ s places. IsKeyed (key_at (live_at s) places) new) k.region.now c.args.region.now k.places.now r.places
    (sym c.keys.ensures.region) (sym c.keys.ensures.places) c.insert.ensures.keyed in
    let at : c.slot-slot.result ≡ slot r (r.count - 1) = c.slot-slot.ensures.slot ∙ ap (λ n. slot r (n - 1)) c.len.ensures.count in
    entered r (live_at c.args.region.now) i new c.requires.ring c.requires.some c.requires.index (subst (λ n. AreSame (n ∷ rows_in i) (rows_in new)) at c.insert.ensures.rows) c.insert.ensures.room keyed
