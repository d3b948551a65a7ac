use Rattle.std.proofs.Common.{◌≡◌, List, ◌∷◌, sym, ap, subst, ◌∙◌, arith}
use Rattle.rows.specs.Key.{key_shown}
use Rattle.rows.specs.Row.{Row}
use Rattle.common_lemmas.specs.Lists.{times}
use Rattle.key_table.specs.Table.{AreSame}
use Rattle.regions.specs.Contents.{live_at}
use Rattle.regions.specs.declared.place.Place.{Place}
use Rattle.dirty_region.specs.inside.Rings.{HasSomePut, key_at}
use Rattle.dirty_region.specs.inside.PutRows.{IsPutIndexOf, rows_in}
use Rattle.dirty_region.proofs.Indexes.{put_index_of, at_keys, oldest_out}
use Rattle.dirty_region.proofs.seeking.forget_oldest.Goals as goal

pub remove_row-requires-clause-index : goal.remove_row-requires-clause-index
remove_row-requires-clause-index c =
    let k = c.keys.result in
    at_keys (λ s places. IsPutIndexOf (HasSomePut (live_at s) places) (key_at (live_at s) places) c.args.index.now) c.args.region.now k.region.now c.args.ring.now.places k.places.now
    c.keys.ensures.region c.keys.ensures.places (put_index_of c.args.ring.now (live_at c.args.region.now) c.args.ring.now.count c.args.index.now c.requires.ring (omega arith) c.requires.index)

pub remove_row-requires-clause-key : goal.remove_row-requires-clause-key
remove_row-requires-clause-key c =
    let k = c.keys.result in let n = c.slot-slot.result in
    let key : key_at (live_at c.args.region.now) c.args.ring.now.places n ≡ key_shown c.key_of_row-key.result =
    sym (c.key_of_row-key.ensures.key ∙ (ap (λ (x : Row). x.key) c.content_of.ensures.read ∙ ap (λ (ps : List Place). key_at (live_at c.args.region.now) ps n) c.places.ensures)) in
    at_keys (λ s places. key_at (live_at s) places n ≡ key_shown c.key_of_row-key.result) c.args.region.now k.region.now c.args.ring.now.places k.places.now c.keys.ensures.region c.keys.ensures.places key

pub returns : goal.returns
returns c =
    let r = c.args.ring.now in let live = live_at c.args.region.now in let i = c.args.index.now in let new = c.remove_row.new.self in let e = c.remove_row.ensures in let at = c.slot-slot.ensures.slot in
    oldest_out c.remove_row.result r live i new c.requires.ring c.requires.some c.requires.index e.room (e.keyed (key_at live r.places) c.requires.index.keyed)
    (λ is. subst (λ n. AreSame (rows_in i) (n ∷ rows_in new)) at (e.rows is)) (λ is. subst (λ n. times n (rows_in i) ≡ 0) at (e.absent is)) e.unchanged
