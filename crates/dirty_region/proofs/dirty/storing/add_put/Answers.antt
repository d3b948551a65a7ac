use Rattle.std.proofs.Common.{◌≡◌, ◌+◌, ◌-◌, refl, sym, ap, subst, ◌∙◌, arith}
use Rattle.rows.specs.Row.{Row}
use Rattle.key_table.specs.Table.{IsSpotFor}
use Rattle.regions.specs.Contents.{live_at}
use Rattle.dirty_region.specs.inside.Rings.{RingState, IsRingOf, AddsPut, pushed, puts_in}
use Rattle.dirty_region.specs.inside.Indexed.{IsIndexBefore, nth_key}
use Rattle.row_bytes.specs.NewRows.{row_of}
use Rattle.dirty_region.proofs.Rings.{ring_pushed, puts_pushed}
use Rattle.dirty_region.proofs.Indexes.{index_pushed}
use Rattle.dirty_region.proofs.dirty.storing.add_put.Goals as goal

pub enter-requires-clause-ring : goal.enter-requires-clause-ring
enter-requires-clause-ring c =
    let r = c.args.ring.now in let p = c.place_put-place.result in let put = row_of c.args.put in let live = live_at c.args.region.now in let after = live_at c.place_put-place.new.region in
    let adds = subst (λ n. AddsPut p n put live after) c.next_position.ensures c.place_put-place.ensures.added in
    subst (λ (x : RingState). IsRingOf x after) (sym c.push.ensures) (ring_pushed r live after p put c.requires.ring c.requires.few adds).ring_of

pub enter-requires-clause-spot : goal.enter-requires-clause-spot
enter-requires-clause-spot c =
    let r = c.args.ring.now in let p = c.place_put-place.result in let put = row_of c.args.put in let live = live_at c.args.region.now in let after = live_at c.place_put-place.new.region in
    let adds = subst (λ n. AddsPut p n put live after) c.next_position.ensures c.place_put-place.ensures.added in
    let is = ring_pushed r live after p put c.requires.ring c.requires.few adds in
    let last : nth_key (pushed p r) after (r.count + 1 - 1) ≡ put.key = ap (nth_key (pushed p r) after) (let e : r.count + 1 - 1 ≡ r.count = omega arith in e) ∙ ap (λ (x : Row). x.key) is.new in
    subst (λ (x : RingState). IsSpotFor (nth_key x after (x.count - 1)) c.args.spot) (sym c.push.ensures) (subst (λ key. IsSpotFor key c.args.spot) (sym last) c.requires.spot)

pub enter-requires-clause-index : goal.enter-requires-clause-index
enter-requires-clause-index c =
    let r = c.args.ring.now in let p = c.place_put-place.result in let put = row_of c.args.put in let live = live_at c.args.region.now in let after = live_at c.place_put-place.new.region in
    let adds = subst (λ n. AddsPut p n put live after) c.next_position.ensures c.place_put-place.ensures.added in
    let is = ring_pushed r live after p put c.requires.ring c.requires.few adds in
    subst (λ (x : RingState). IsIndexBefore x after c.args.index.now) (sym c.push.ensures) (index_pushed r live after p put put.key c.args.index.now is refl c.requires.index)

pub returns-clause-ring : goal.returns-clause-ring
returns-clause-ring c =
    let r = c.args.ring.now in let p = c.place_put-place.result in let put = row_of c.args.put in let live = live_at c.args.region.now in let after = live_at c.place_put-place.new.region in
    let adds = subst (λ n. AddsPut p n put live after) c.next_position.ensures c.place_put-place.ensures.added in
    subst (λ (x : RingState). IsRingOf x after) (sym c.push.ensures) (ring_pushed r live after p put c.requires.ring c.requires.few adds).ring_of

pub returns-clause-puts : goal.returns-clause-puts
returns-clause-puts c =
    let r = c.args.ring.now in let p = c.place_put-place.result in let put = row_of c.args.put in let live = live_at c.args.region.now in let after = live_at c.place_put-place.new.region in
    let adds = subst (λ n. AddsPut p n put live after) c.next_position.ensures c.place_put-place.ensures.added in
    ap (λ (x : RingState). puts_in x after) c.push.ensures ∙ puts_pushed r live after p put (ring_pushed r live after p put c.requires.ring c.requires.few adds)
