use Rattle.std.proofs.Common.{◌≡◌, ℕ, ◌+◌, ◌-◌, ◌%◌, ◌^◌, sym, ap, subst, ◌∙◌, arith}
use Rattle.row_bytes.specs.Rows.{number_in}
use Rattle.regions.specs.Contents.{Item, live_at}
use Rattle.regions.specs.Stores.{Live, less}
use Rattle.dirty_region.specs.inside.Rings.{RingState, IsRingOf, place_of, position}
use Rattle.dirty_region.proofs.Moving.{put_moved, ring_stands, behind_first, of_some, set_place}
use Rattle.dirty_region.proofs.ring.RingMovers.moved.Goals as goal

pub returns-clause-stands : goal.returns-clause-stands
returns-clause-stands c = λ m live of. ring_stands m live of

pub position_at-requires : goal.position_at-requires
position_at-requires c =
    let h = c.requires.copied in
    let m = put_moved c.args.self.now (live_at c.args.store.now) c.args.from c.args.to h.0 c.requires.fits c.requires.apart h.2 h.3 in
    record { item = h.0; is = h.2; position = _; put = m.put; is_put = m.is_put }

pub put_at-requires : goal.put_at-requires
put_at-requires c =
    let r = c.args.self.now in let h = c.requires.copied in
    let m = put_moved r (live_at c.args.store.now) c.args.from c.args.to h.0 c.requires.fits c.requires.apart h.2 h.3 in
    let read : c.position_at.result ≡ position r m.k =
    of_some (λ (item : Item). c.position_at.result ≡ number_in item.content) (live_at c.args.store.now c.args.from) h.0 c.position_at.ensures h.2 ∙ m.is_put.number in
    let first = ap (λ (x : RingState). x.first) c.self.view_is in
    let is : (c.position_at.result + (2 ^ 32 - c.self.inside.first)) % 2 ^ 32 ≡ m.k =
    ap (λ (x : ℕ). (x + (2 ^ 32 - c.self.inside.first)) % 2 ^ 32) read ∙ (ap (λ (x : ℕ). (position r m.k + (2 ^ 32 - x)) % 2 ^ 32) first ∙ behind_first r m.k c.requires.fits.numbers m.low) in
    let low = m.low in let few = c.requires.fits.numbers.few in omega (arith, is, low, few)

pub returns-clause-names : goal.returns-clause-names
returns-clause-names c = λ n.
    (let r = c.args.self.now in let h = c.requires.copied in
    let m = put_moved r (live_at c.args.store.now) c.args.from c.args.to h.0 c.requires.fits c.requires.apart h.2 h.3 in
    let read : c.position_at.result ≡ position r m.k =
    of_some (λ (item : Item). c.position_at.result ≡ number_in item.content) (live_at c.args.store.now c.args.from) h.0 c.position_at.ensures h.2 ∙ m.is_put.number in
    let first = ap (λ (x : RingState). x.first) c.self.view_is in
    let is : (c.position_at.result + (2 ^ 32 - c.self.inside.first)) % 2 ^ 32 ≡ m.k =
    ap (λ (x : ℕ). (x + (2 ^ 32 - c.self.inside.first)) % 2 ^ 32) read ∙ (ap (λ (x : ℕ). (position r m.k + (2 ^ 32 - x)) % 2 ^ 32) first ∙ behind_first r m.k c.requires.fits.numbers m.low) in
    ap (λ (x : RingState). place_of x n) c.put_at.ensures ∙ (ap (λ (k : ℕ). place_of (set_place r k c.args.to) n) is ∙ m.names n))

pub returns-clause-fits : goal.returns-clause-fits
returns-clause-fits c =
    let r = c.args.self.now in let h = c.requires.copied in let live : Live = live_at c.args.store.now in
    let m = put_moved r live c.args.from c.args.to h.0 c.requires.fits c.requires.apart h.2 h.3 in
    let read : c.position_at.result ≡ position r m.k =
    of_some (λ (item : Item). c.position_at.result ≡ number_in item.content) (live_at c.args.store.now c.args.from) h.0 c.position_at.ensures h.2 ∙ m.is_put.number in
    let first = ap (λ (x : RingState). x.first) c.self.view_is in
    let is : (c.position_at.result + (2 ^ 32 - c.self.inside.first)) % 2 ^ 32 ≡ m.k =
    ap (λ (x : ℕ). (x + (2 ^ 32 - c.self.inside.first)) % 2 ^ 32) read ∙ (ap (λ (x : ℕ). (position r m.k + (2 ^ 32 - x)) % 2 ^ 32) first ∙ behind_first r m.k c.requires.fits.numbers m.low) in
    subst (λ (x : RingState). IsRingOf x (less c.args.from live)) (sym (c.put_at.ensures ∙ ap (λ (k : ℕ). set_place r k c.args.to) is)) m.ring_of
