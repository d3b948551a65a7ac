-- The newest put of a key is the one that the index finds.
use Rattle.std.proofs.Common.{◌≡◌, ◌≢◌, ℕ, zero, suc, ◌+◌, ◌<◌, ◌≤◌, inl, inr, List, Some, None, sym, ap, subst, ◌∙◌, arith}
use Rattle.std.proofs.lemmas.Bool.Decides.{leb_tells}
use Rattle.rows.specs.Key.{in_table}
use Rattle.dirty_region.specs.inside.PutRows.{PutRows, Has}
use Rattle.regions.specs.Stores.{Live}
use Rattle.dirty_region.specs.Queues.{newest}
use Rattle.dirty_region.specs.inside.Rings.{RingState, slot, key_at, put_at, nth, puts_in}
use Rattle.dirty_region.specs.inside.Indexed.{IsIndexOf, nth_key}
use Rattle.dirty_region.proofs.Listed.{none_newest, one_newest}

-- from the newest put on, none has the key
none_from : (r : RingState) (live : Live) (index : PutRows) (key : List ℕ) → IsIndexOf r live index → ((n : ℕ) → Has index n → key_at live r.places n ≢ in_table 0 key) → (n : ℕ)
    → (k : ℕ) → r.count ≤ k + n → k < r.count → nth_key r live k ≢ in_table 0 key
none_from r live index key by none zero k above low e = absurd (omega (arith, above, low))
none_from r live index key by none (suc n) k above low e = elim (leb_tells r.count (k + n)) [
  | inl h ↦ none_from r live index key by none n k h.1 low e
  | inr h ↦
      none (slot r k) ((by.has.those k (omega arith) low).1 (λ j later below same. none_from r live index key by none n j (omega (arith, above, later)) below (same ∙ e))) e
]

pub none_found : (r : RingState) (live : Live) (index : PutRows) (key : List ℕ) → IsIndexOf r live index → ((n : ℕ) → Has index n → key_at live r.places n ≢ in_table 0 key) → newest key (puts_in r live) ≡ None
none_found r live index key by none = none_newest (nth r live) r.count key (λ k low. none_from r live index key by none r.count k (omega arith) low)

pub one_found : (r : RingState) (live : Live) (index : PutRows) (key : List ℕ) (n : ℕ) → IsIndexOf r live index → Has index n → key_at live r.places n ≡ in_table 0 key
    → newest key (puts_in r live) ≡ Some (put_at live r.places n).value
one_found r live index key n by has is =
    let w = by.has.only n has in
    let at : nth_key r live w.0 ≡ in_table 0 key = sym (ap (key_at live r.places) w.3) ∙ is in
    let last = (by.has.those w.0 w.1 w.2).0 (subst (Has index) w.3 has) in
    one_newest (nth r live) r.count key w.0 w.2 at (λ j above below e. last j above below (e ∙ sym at))
    ∙ sym (ap (λ m. Some (put_at live r.places m).value) w.3)
