-- The puts of a ring stand in the region, each at a place of its own.
use Rattle.std.proofs.Common.{◌≡◌, ℕ, zero, suc, ◌<◌, get_or, Some, None, sym, ap, subst, ◌∙◌, arith}
use Rattle.std.specs.Prelude.{slice_get}
use Rattle.std.proofs.lemmas.Option.{get_or_from_slice_get}
use Rattle.rows.specs.Row.{Row}
use Rattle.row_bytes.specs.Rows.{row_bytes}
use Rattle.regions.specs.Segments.{RegionState}
use Rattle.regions.specs.Contents.{live_at}
use Rattle.regions.specs.Stores.{Live}
use Rattle.regions.specs.declared.place.Place.{Place}
use Rattle.dirty_region.specs.Puts.{IsPut, Stand, unlinked}
use Rattle.dirty_region.specs.inside.Rings.{RingState, IsRingOf, listed, nowhere, nth, position, puts_in, slot}
use Rattle.dirty_region.proofs.Listed.{length-listed}
use Rattle.dirty_region.proofs.Rings.{put_is, same_older}

-- which put the list has behind so many
listed_at : (f : ℕ → Row) (n k : ℕ) (put : Row) → slice_get (listed f n) k ≡ Some put → (k < n) × (f k ≡ put)
listed_at f zero k put e = absurd (let clash : None ≡ Some put = e in cc)
listed_at f (suc n) zero put e = (omega arith, (let same : Some (f 0) ≡ Some put = e in cc))
listed_at f (suc n) (suc k) put e = (let rest = listed_at (λ j. f (suc j)) n k put e in ((let low = rest.0 in omega (arith, low)), rest.1))

abbrev place_in : RingState → ℕ → Place
place_in r k = get_or r.places (slot r k) nowhere

there : (r : RingState) (l : Live) (of : IsRingOf r l) (k : ℕ) (low : k < r.count) → place_in r k ≡ (of.puts k low).place
there r l of k low = get_or_from_slice_get r.places (slot r k) (of.puts k low).place nowhere (of.puts k low).placed

stands : (r : RingState) (l : Live) → IsRingOf r l → (k : ℕ) (put : Row) → slice_get (puts_in r l) k ≡ Some put → IsPut (l (place_in r k)) (position r k) put
stands r l of k put e =
    let at = listed_at (nth r l) r.count k put e in
    let h = of.puts k at.0 in
    let is : h.put ≡ put = sym (put_is l r.places (slot r k) (position r k) h) ∙ at.1 in
    subst (λ (p : Place). IsPut (l p) (position r k) put) (sym (there r l of k at.0)) (record {
      item = h.item;
      is_live = h.is_live;
      kind = h.is_put.kind;
      content = h.is_put.content ∙ ap (row_bytes (position r k) unlinked) is;
    })

pub puts_stand : (r : RingState) (s : RegionState) → IsRingOf r (live_at s) → Stand r.first (puts_in r (live_at s)) s
puts_stand r s of =
    let long = length-listed (nth r (live_at s)) r.count in
    record {
      place = place_in r;
      each = λ k put e. stands r (live_at s) of k put e;
      apart = λ j k low high e.
          (let jl : j < r.count = omega (arith, low, long) in let kl : k < r.count = omega (arith, high, long) in
          same_older r (live_at s) of j k jl kl (sym (there r (live_at s) of j jl) ∙ (e ∙ there r (live_at s) of k kl)));
      every = λ p item e.
          (let w = of.every p item e in
          (w.0, (let low = w.1 in omega (arith, low, long)), get_or_from_slice_get r.places (slot r w.0) p nowhere w.2));
    }
