use Rattle.std.proofs.Common.{◌≡◌, arith}
use Rattle.rows.specs.Key.{key_shown}
use Rattle.regions.specs.Contents.{live_at}
use Rattle.dirty_region.specs.inside.Rings.{HasSomePut, key_at}
use Rattle.dirty_region.specs.inside.PutRows.{IsPutIndexOf}
use Rattle.dirty_region.proofs.PutRows.{surely_out}
use Rattle.dirty_region.proofs.Indexes.{put_index_of, at_keys, forgotten, row_inside}
use Rattle.dirty_region.proofs.seeking.forget.Goals as goal

pub remove-requires-clause-index : goal.remove-requires-clause-index
remove-requires-clause-index c =
    let k = c.keys.result in
    at_keys (λ s places. IsPutIndexOf (HasSomePut (live_at s) places) (key_at (live_at s) places) c.args.index.now) c.args.region.now k.region.now c.args.ring.now.places k.places.now
    c.keys.ensures.region c.keys.ensures.places (put_index_of c.args.ring.now (live_at c.args.region.now) c.args.ring.now.count c.args.index.now c.requires.ring (omega arith) c.requires.index)

pub remove-requires-clause-number : goal.remove-requires-clause-number
remove-requires-clause-number c =
    row_inside c.args.ring.now (live_at c.args.region.now) c.args.index.now c.requires.ring c.requires.index c.in-Ok.found.row c.in-Ok.ensures.0.has

pub remove-requires-clause-key : goal.remove-requires-clause-key
remove-requires-clause-key c =
    let k = c.keys.result in
    at_keys (λ s places. key_at (live_at s) places c.in-Ok.found.row ≡ key_shown c.args.key.now) c.args.region.now k.region.now c.args.ring.now.places k.places.now c.keys.ensures.region c.keys.ensures.places c.in-Ok.ensures.1

pub returns-clause-index : goal.returns-clause-index
returns-clause-index c =
    let r = c.args.ring.now in let live = live_at c.args.region.now in let i = c.args.index.now in let new = c.remove.new.self in let n = c.in-Ok.found.row in let has = c.in-Ok.ensures.0.has in let e = c.remove.ensures in
    forgotten r live (key_shown c.args.key.now) n i new c.requires.ring c.requires.index has c.in-Ok.ensures.1 (surely_out c.remove.result n i new has e.rows e.absent) e.room
    (e.keyed (key_at live r.places) c.requires.index.keyed)
