-- A segment once the content of one live object is also that of another.
use Rattle.std.proofs.Common.{◌≡◌, ℕ, ◌+◌, ◌-◌, ◌≤◌, List, length, take, drop, refl, sym, ap, ◌∙◌, subst, arith, eq-eqb, length-take-le, length-drop}
use Rattle.std.specs.Prelude.{Option, Some, IfSome, option_map}
use Rattle.std.specs.List.{refill}
use Rattle.object_log.specs.Objects.{objects, descriptor_at, content_at, IsSegment}
use Rattle.raw_range.specs.Memory.{Lent, written}
use Rattle.regions.specs.Segments.{SegmentState}
use Rattle.regions.specs.Counts.{live_in}
use Rattle.regions.specs.Contents.{standing, standing_among, standing_in, if_live, item_if_live, size_of, with_bytes, ChangesIn}
use Rattle.regions.specs.Lends.{bytes_with}
use Rattle.regions.proofs.Appended.{refill-same}
use Rattle.regions.proofs.Regions.{live-content, if-some}
use Rattle.regions.proofs.Written.{IsLive, IsWritten, as-there, content-size, content-read, whole-content, segment-kept, live-same, changed}

-- its content lies in the segment
pub within : (bytes now : List ℕ) (used at start len : ℕ) (l : IsLive bytes used at) → now ≡ bytes → start ≡ at + 8 → len + 8 ≡ (descriptor_at bytes at).size → start + len ≤ length now
within bytes now used at start len l is begins ends =
    let size : (l.it).size ≡ (descriptor_at bytes at).size = ap (λ o. o.size) (l.found).is in
    let same = ap length is in
    omega (arith, same, begins, ends, size, (l.found).high, (l.segment).inside, (l.segment).long)

live-size : (g : Option ℕ) (bytes : List ℕ) (used at : ℕ) (l : IsLive bytes used at) → option_map size_of (item_if_live (standing_among g bytes at (objects bytes used))) ≡ Some (l.it).size
live-size g bytes used at l =
    ap (λ o. option_map size_of (item_if_live (option_map (standing g bytes) o))) l.is-it ∙ ap (λ b. option_map size_of (if_live b (standing g bytes l.it).item)) (eq-eqb (l.it).state 1 l.alive)
    ∙ ap (λ (n : ℕ). Some n) (sym (content-size bytes used at (as-there bytes used at l)))

-- two live objects of one size have contents of one length
pub same-length : (p : Lent) (used from to : ℕ) (g : Option ℕ) (h : SegmentState) (a : IsLive p.bytes used from) (b : IsLive p.bytes used to) → record { piece = p; used = used; group = g } ≡ h
    → option_map size_of (item_if_live (standing_in (Some h) from)) ≡ option_map size_of (item_if_live (standing_in (Some h) to)) → (descriptor_at p.bytes from).size ≡ (descriptor_at p.bytes to).size
same-length p used from to g h a b view same =
    let both : Some (a.it).size ≡ Some (b.it).size =
    sym (live-size g p.bytes used from a) ∙ subst (λ h. option_map size_of (item_if_live (standing_in (Some h) from)) ≡ option_map size_of (item_if_live (standing_in (Some h) to))) (sym view) same ∙ live-size g p.bytes used to b in
    let sizes : (a.it).size ≡ (b.it).size = cc in
    sym (ap (λ o. o.size) (a.found).is) ∙ sizes ∙ ap (λ o. o.size) (b.found).is

-- the segment afterwards
pub record IsCopied (p : Lent) (new : List ℕ) (used from to : ℕ) (g : Option ℕ) (old : SegmentState) : Type 0 where
  pub kept : IsSegment (refill (length p.bytes) p.bytes new) used
  pub live : live_in (Some (record { piece = record p { bytes = refill (length p.bytes) p.bytes new }; used = used; group = g })) ≡ live_in (Some old)
  pub copied : IfSome (item_if_live (standing_in (Some old) from)) (λ i. ChangesIn to (option_map (with_bytes i.content) (standing_in (Some old) to)) (Some old) (Some (record { piece = record p { bytes = refill (length p.bytes) p.bytes new }; used = used; group = g })))

module _ (p : Lent) (now new : List ℕ) (used from to start target len : ℕ) (g : Option ℕ) (h : SegmentState) (view : record { piece = p; used = used; group = g } ≡ h) (a : IsLive p.bytes used from) (b : IsLive p.bytes used to)
    (is : now ≡ p.bytes) (begins : start ≡ from + 8) (begins-at : target ≡ to + 8) (ends : len + 8 ≡ (descriptor_at p.bytes from).size) (same : (descriptor_at p.bytes from).size ≡ (descriptor_at p.bytes to).size)
    (long : length new ≡ length now) (wrote : new ≡ written now target (take len (drop start now))) (law : IsWritten p.bytes used to (descriptor_at p.bytes to).size) where
  open a use {segment, found as source}
  open b use {found as place}

  abbrev size : ℕ
  size = (descriptor_at p.bytes to).size

  is-size : (b.it).size ≡ size
  is-size = ap (λ o. o.size) place.is

  from-size : (a.it).size ≡ len + 8
  from-size = ap (λ o. o.size) source.is ∙ sym ends

  fits : len + 8 ≡ size
  fits = ends ∙ same

  abbrev content : List ℕ
  content = take len (drop start p.bytes)

  content-long : length content ≡ len
  content-long = let d = length-drop start p.bytes in length-take-le len (drop start p.bytes) (omega (arith, d, begins, from-size, source.high, segment.inside, segment.long))

  target-long : length (take len (drop target p.bytes)) ≡ len
  target-long = let d = length-drop target p.bytes in length-take-le len (drop target p.bytes) (omega (arith, d, begins-at, fits, is-size, place.high, segment.inside, segment.long))

  there : option_map (λ t. t.item.content) (standing_among g p.bytes to (objects p.bytes used)) ≡ Some (take len (drop target p.bytes))
  there = content-read g p.bytes p.bytes used to target len (as-there p.bytes used to b) refl begins-at fits

  -- the whole content of the second is written
  fit-same : refill (size - 8) (content_at to size p.bytes) content ≡ content
  fit-same =
      let n : len ≡ size - 8 = omega (arith, fits) in
      refill-same (size - 8) (content_at to size p.bytes) content (subst (λ k. length (take k (drop (to + 8) p.bytes)) ≡ k) n (subst (λ k. length (take len (drop k p.bytes)) ≡ len) begins-at target-long)) (content-long ∙ n)

  is-left : refill (length p.bytes) p.bytes new ≡ bytes_with to size content p.bytes
  is-left =
      refill-same (length p.bytes) p.bytes new refl (long ∙ ap length is) ∙ wrote ∙ ap (λ x. written x target (take len (drop start x))) is ∙ ap (λ k. written p.bytes k content) begins-at
      ∙ ap (written p.bytes (to + 8)) (sym fit-same)

  abbrev after : List ℕ → SegmentState
  after bytes = record { piece = record p { bytes = bytes }; used = used; group = g }

  kept : IsSegment (refill (length p.bytes) p.bytes new) used
  kept = subst (λ x. IsSegment x used) (sym is-left) (segment-kept p content used to size b is-size law)

  live-kept : live_in (Some (after (refill (length p.bytes) p.bytes new))) ≡ live_in (Some h)
  live-kept = ap (λ x. live_in (Some (after x))) is-left ∙ live-same p content used to size b is-size law g ∙ ap (λ h. live_in (Some h)) view

  changes : IfSome (item_if_live (standing_in (Some h) from)) (λ i. ChangesIn to (option_map (with_bytes i.content) (standing_in (Some h) to)) (Some h) (Some (after (refill (length p.bytes) p.bytes new))))
  changes =
      let os = objects p.bytes used in
      let old : SegmentState = record { piece = p; used = used; group = g } in
      let read = live-content (standing_among g p.bytes from os) content (content-read g p.bytes p.bytes used from start len (as-there p.bytes used from a) refl begins ends) in
      let all = subst (λ s. ChangesIn to s (Some old) (Some (after (bytes_with to size content p.bytes)))) (whole-content (standing_among g p.bytes to os) (take len (drop target p.bytes)) content there (content-long ∙ sym target-long))
      (changed p content used to size b is-size law g) in
      subst (λ h. IfSome (item_if_live (standing_in (Some h) from)) (λ i. ChangesIn to (option_map (with_bytes i.content) (standing_in (Some h) to)) (Some h) (Some (after (refill (length p.bytes) p.bytes new))))) view
      (subst (λ x. IfSome (item_if_live (standing_among g p.bytes from os)) (λ i. ChangesIn to (option_map (with_bytes i.content) (standing_among g p.bytes to os)) (Some old) (Some (after x)))) (sym is-left)
      (if-some (item_if_live (standing_among g p.bytes from os)) (λ i. i.content ≡ content) (λ i. ChangesIn to (option_map (with_bytes i.content) (standing_among g p.bytes to os)) (Some old) (Some (after (bytes_with to size content p.bytes))))
      (λ i e. subst (λ ws. ChangesIn to (option_map (with_bytes ws) (standing_among g p.bytes to os)) (Some old) (Some (after (bytes_with to size content p.bytes)))) (sym e) all) read))

  pub is-copied : IsCopied p new used from to g h
  is-copied = record { kept = kept; live = live-kept; copied = changes }
