-- A segment once the content of an object was written through a `&mut`.
use Rattle.std.proofs.Common.{◌≡◌, ℕ, ◌+◌, ◌-◌, inl, List, ◌++◌, length, take, drop, refl, sym, ap, ◌∙◌, subst, arith, append_assoc, length-append, length-take-le, length-drop}
use Rattle.std.specs.Prelude.{Option, None, Some, IsSome, option_map}
use Rattle.std.specs.List.{refill, length_refill}
use Rattle.std.proofs.lemmas.List.{take_at, drop_at}
use Rattle.object_log.specs.Objects.{Object, objects, descriptor_at, content_at, with_content, IsSegment, StandsAt, LivesAt}
use Rattle.raw_range.specs.Memory.{Lent, written}
use Rattle.regions.specs.Segments.{SegmentState}
use Rattle.regions.specs.Shapes.{identity, slot_of}
use Rattle.regions.specs.Counts.{live_bytes, live_in}
use Rattle.regions.specs.Contents.{Standing, standing, standing_among, standing_in, item_if_live, object_with, rewritten, with_bytes, ChangesIn}
use Rattle.regions.specs.Lends.{bytes_with}
use Rattle.regions.proofs.Objects.{IsFound, found, found-any, standing-beside, live-found, live-standing, some-found, begun-if}

-- an object that stands at the offset, in a segment that is not g
pub record IsThere (bytes : List ℕ) (used at : ℕ) : Type 0 where
  pub segment : IsSegment bytes used
  pub it : Object
  pub is-it : object_with at (objects bytes used) ≡ Some it
  pub found : IsFound bytes 0 used at it

pub is-there : (bytes : List ℕ) (used at : ℕ) (g : Option ℕ) → (g ≡ None → used ≡ 0) → (IsSome g → IsSegment bytes used)
    → IsSome (standing_among g bytes at (objects bytes used)) → IsThere bytes used at
is-there bytes used at g unused begun there =
    let segment = begun (begun-if bytes used at g unused there) in
    let f = some-found g bytes at (objects bytes used) there in record { segment = segment; it = f.0; is-it = f.1; found = found bytes 0 used at (objects bytes used) f.0 segment.objects f.1 }

-- one that is live
pub record IsLive (bytes : List ℕ) (used at : ℕ) : Type 0 where
  pub segment : IsSegment bytes used
  pub it : Object
  pub is-it : object_with at (objects bytes used) ≡ Some it
  pub alive : it.state ≡ 1
  pub found : IsFound bytes 0 used at it

pub is-live : (bytes : List ℕ) (used at : ℕ) (g : Option ℕ) → (g ≡ None → used ≡ 0) → (IsSome g → IsSegment bytes used)
    → IsSome (item_if_live (standing_among g bytes at (objects bytes used))) → IsLive bytes used at
is-live bytes used at g unused begun alive =
    let segment = begun (begun-if bytes used at g unused (live-standing _ alive)) in
    let f = live-found g bytes at (objects bytes used) alive in
    record { segment = segment; it = f.0; is-it = f.1; alive = f.2; found = found bytes 0 used at (objects bytes used) f.0 segment.objects f.1 }

abbrev pub as-there : (bytes : List ℕ) (used at : ℕ) → IsLive bytes used at → IsThere bytes used at
as-there bytes used at live = record { segment = live.segment; it = live.it; is-it = live.is-it; found = live.found }

-- the same of what a caller sees
pub there-seen : (p : Lent) (used at : ℕ) (g : Option ℕ) (h : SegmentState) → (g ≡ None → used ≡ 0) → (IsSome g → IsSegment p.bytes used) → record { piece = p; used = used; group = g } ≡ h
    → IsSome (standing_in (Some h) at) → IsThere p.bytes used at
there-seen p used at g h unused begun view there = is-there p.bytes used at g unused begun (subst (λ h. IsSome (standing_in (Some h) at)) (sym view) there)

pub live-seen : (p : Lent) (used at : ℕ) (g : Option ℕ) (h : SegmentState) → (g ≡ None → used ≡ 0) → (IsSome g → IsSegment p.bytes used) → record { piece = p; used = used; group = g } ≡ h
    → IsSome (item_if_live (standing_in (Some h) at)) → IsLive p.bytes used at
live-seen p used at g h unused begun view alive = is-live p.bytes used at g unused begun (subst (λ h. IsSome (item_if_live (standing_in (Some h) at))) (sym view) alive)

-- what is asked where its descriptor is read, and where it is killed
pub stands-read : (bytes now : List ℕ) (used at : ℕ) → IsThere bytes used at → now ≡ bytes → IsSegment now used × StandsAt at (objects now used)
stands-read bytes now used at l is = rw is (l.segment, found-any (λ (o : Object). o.at ≡ at) at (objects bytes used) l.it l.is-it (l.found).place)

pub lives-read : (bytes now : List ℕ) (used at : ℕ) → IsLive bytes used at → now ≡ bytes → IsSegment now used × LivesAt at (objects now used)
lives-read bytes now used at l is = rw is (l.segment, found-any (λ (o : Object). (o.at ≡ at) × (o.state ≡ 1)) at (objects bytes used) l.it l.is-it ((l.found).place, l.alive))

-- the content is read where it lies
pub content-read : (g : Option ℕ) (bytes now : List ℕ) (used at start len : ℕ) (there : IsThere bytes used at) → now ≡ bytes → start ≡ at + 8 → len + 8 ≡ (descriptor_at now at).size
    → option_map (λ s. s.item.content) (standing_among g bytes at (objects bytes used)) ≡ Some (take len (drop start bytes))
content-read g bytes now used at start len there is begins ends =
    let f = there.found in
    let size : (there.it).size ≡ (descriptor_at bytes at).size = ap (λ o. o.size) f.is in
    let here : (there.it).size ≡ len + 8 = size ∙ ap (λ b. (descriptor_at b at).size) (sym is) ∙ sym ends in
    ap (λ o. option_map (λ s. s.item.content) (option_map (standing g bytes) o)) there.is-it ∙ ap (λ k. Some (take k (drop ((there.it).at + 8) bytes))) (omega (arith, here) ∙ refl)
    ∙ ap (λ k. Some (take len (drop k bytes))) (ap (λ k. k + 8) f.place ∙ sym begins)

-- what was left there lies there
pub bytes-same : (bytes ws : List ℕ) (at start len size : ℕ) {now : ℕ} → start ≡ at + 8 → now ≡ size → len + 8 ≡ now
    → written bytes start (refill len (take len (drop start bytes)) ws) ≡ bytes_with at size ws bytes
bytes-same bytes ws at start len size begins is ends =
    let n : len ≡ size - 8 = omega (arith, is, ends) in
    ap (λ k. written bytes k (refill len (take len (drop k bytes)) ws)) begins ∙ ap (λ k. written bytes (at + 8) (refill k (take k (drop (at + 8) bytes)) ws)) n

-- the content has the bytes of the object behind its descriptor
pub content-size : (bytes : List ℕ) (used at : ℕ) (live : IsThere bytes used at) → (live.it).size ≡ length (content_at (live.it).at (live.it).size bytes) + 8
content-size bytes used at live =
    let f = live.found in let s = live.segment in let d = length-drop ((live.it).at + 8) bytes in
    let n = length-take-le ((live.it).size - 8) (drop ((live.it).at + 8) bytes) (omega (arith, d, f.place, f.high, f.least, s.inside, s.long)) in omega (arith, n, f.least)

-- what writing a content of that length leaves
pub record IsWritten (bytes : List ℕ) (used at size : ℕ) : Type 0 where
  pub segment : (ws : List ℕ) → length ws ≡ size - 8 → IsSegment (with_content at ws bytes) used
  pub objects : (ws : List ℕ) → length ws ≡ size - 8 → objects (with_content at ws bytes) used ≡ objects bytes used

is-written : (bytes now : List ℕ) (used at len : ℕ) → now ≡ bytes → len + 8 ≡ (descriptor_at now at).size
    → ((ws : List ℕ) → length ws ≡ len → IsSegment (with_content at ws now) used) → ((ws : List ℕ) → length ws ≡ len → objects (with_content at ws now) used ≡ objects now used)
    → IsWritten bytes used at (descriptor_at bytes at).size
is-written bytes now used at len is ends s o =
    let n : (descriptor_at bytes at).size ≡ len + 8 = ap (λ b. (descriptor_at b at).size) (sym is) ∙ sym ends in record {
      segment = λ ws long. subst (λ b. IsSegment (with_content at ws b) used) is (s ws (omega (arith, long, n)));
      objects = λ ws long. subst (λ b. objects (with_content at ws b) used ≡ objects b used) is (o ws (omega (arith, long, n)));
    }

-- a live object, and what writing its content leaves
pub record IsOpen (bytes : List ℕ) (used at : ℕ) : Type 0 where
  pub live : IsLive bytes used at
  pub size : (live.it).size ≡ (descriptor_at bytes at).size
  pub law : IsWritten bytes used at (descriptor_at bytes at).size

-- as where the content lies tells it
pub opened : (bytes now : List ℕ) (used at len : ℕ) (l : IsLive bytes used at) → now ≡ bytes → len + 8 ≡ (descriptor_at now at).size
    → ((used : ℕ) (ws : List ℕ) → IsSegment now used → StandsAt at (objects now used) → length ws ≡ len → IsSegment (with_content at ws now) used)
    → ((used : ℕ) (ws : List ℕ) → IsSegment now used → StandsAt at (objects now used) → length ws ≡ len → objects (with_content at ws now) used ≡ objects now used) → IsOpen bytes used at
opened bytes now used at len l is ends segment same =
    let s = stands-read bytes now used at (as-there bytes used at l) is in record {
      live = l;
      size = ap (λ o. o.size) (l.found).is;
      law = is-written bytes now used at len is ends (λ ws. segment used ws s.0 s.1) (λ ws. same used ws s.0 s.1);
    }

module _ (p : Lent) (ws : List ℕ) (used at size : ℕ) (live : IsLive p.bytes used at) (is-size : (live.it).size ≡ size) (law : IsWritten p.bytes used at size) where
  open live use {segment, it, is-it, found as place}

  -- the content as it was, and as it is left
  abbrev content : List ℕ
  content = content_at at size p.bytes

  abbrev fit : List ℕ
  fit = refill (size - 8) content ws

  abbrev new : List ℕ
  new = bytes_with at size ws p.bytes

  content-long : length content ≡ size - 8
  content-long =
      let d = length-drop (at + 8) p.bytes in length-take-le (size - 8) (drop (at + 8) p.bytes) (omega (arith, d, place.high, place.least, is-size, segment.inside, segment.long))

  fit-long : length fit ≡ size - 8
  fit-long = sym (length_refill (size - 8) content ws (sym content-long))

  is-new : new ≡ with_content at fit p.bytes
  is-new = refl

  ends-at : at + 8 + length fit ≡ at + it.size
  ends-at = omega (arith, fit-long, place.least, is-size)

  pub objects-same : objects new used ≡ objects p.bytes used
  objects-same = law.objects fit fit-long

  pub segment-kept : IsSegment new used
  segment-kept = law.segment fit fit-long

  front-long : length (take (at + 8) p.bytes) ≡ at + 8
  front-long = length-take-le (at + 8) p.bytes (omega (arith, place.high, place.least, segment.inside, segment.long))

  front : take (at + 8) new ≡ take (at + 8) p.bytes
  front = take_at (take (at + 8) p.bytes) (fit ++ drop (at + 8 + length fit) p.bytes) (at + 8) front-long

  back : drop (at + it.size) new ≡ drop (at + it.size) p.bytes
  back =
      let both : length (take (at + 8) p.bytes ++ fit) ≡ at + it.size = length-append (take (at + 8) p.bytes) fit ∙ omega (arith, front-long, fit-long, is-size, place.least) in
      ap (drop (at + it.size)) (ap (λ k. take (at + 8) p.bytes ++ (fit ++ drop k p.bytes)) ends-at ∙ sym (append_assoc (take (at + 8) p.bytes) fit (drop (at + it.size) p.bytes)))
      ∙ drop_at (take (at + 8) p.bytes ++ fit) (drop (at + it.size) p.bytes) (at + it.size) both

  -- the content is read where it was written
  reads : take (size - 8) (drop (at + 8) new) ≡ refill (length content) content ws
  reads =
      ap (take (size - 8)) (drop_at (take (at + 8) p.bytes) (fit ++ drop (at + 8 + length fit) p.bytes) (at + 8) front-long)
      ∙ take_at fit (drop (at + 8 + length fit) p.bytes) (size - 8) fit-long ∙ ap (λ k. refill k content ws) (sym content-long)

  lies : (g : Option ℕ) → standing g new it ≡ rewritten ws (standing g p.bytes it)
  lies g =
      let Reads : ℕ → ℕ → Type 0 = λ k a. take (k - 8) (drop (a + 8) new) ≡ refill (length (take (k - 8) (drop (a + 8) p.bytes))) (take (k - 8) (drop (a + 8) p.bytes)) ws in
      let there : Reads it.size it.at = subst (λ k. Reads k it.at) (sym is-size) (subst (λ a. Reads size a) (sym place.place) reads) in
      ap (λ c. let s : Standing = record (standing g p.bytes it) { item = record { group = g; kind = it.kind; content = c } } in s) there

  abbrev after : Option ℕ → SegmentState
  after g = record { piece = record p { bytes = new }; used = used; group = g }

  pub slot-same : (g : Option ℕ) → slot_of (after g) ≡ slot_of (record { piece = p; used = used; group = g })
  slot-same g = ap (λ n. record { piece = record (identity p) { length = n }; group = g }) (segment-kept.long ∙ sym segment.long)

  pub live-same : (g : Option ℕ) → live_in (Some (after g)) ≡ live_in (Some (record { piece = p; used = used; group = g }))
  live-same g = ap live_bytes objects-same

  pub changed : (g : Option ℕ) → ChangesIn at (option_map (rewritten ws) (standing_among g p.bytes at (objects p.bytes used))) (Some (record { piece = p; used = used; group = g })) (Some (after g))
  changed g = record {
    here =
        ap (λ os. standing_among g new at os) objects-same ∙ ap (option_map (standing g new)) is-it ∙ ap (λ (s : Standing). Some s) (lies g)
        ∙ sym (ap (λ o. option_map (rewritten ws) (option_map (standing g p.bytes) o)) is-it);
    others = λ b ne.
        ap (λ os. standing_among g new b os) objects-same
        ∙ standing-beside g p.bytes new (at + 8) (at + it.size) 0 used at b (objects p.bytes used) it segment.objects is-it (omega arith) (omega arith) front back (inl ne);
  }

-- what is as long as the content is the whole content
pub whole-content : (s : Option Standing) (now ws : List ℕ) → option_map (λ t. t.item.content) s ≡ Some now → length ws ≡ length now → option_map (rewritten ws) s ≡ option_map (with_bytes ws) s
whole-content None now ws e long = refl
whole-content (Some s) now ws e long =
    let is : s.item.content ≡ now = (let both : Some s.item.content ≡ Some now = e in cc) in
    ap (λ b. Some (with_bytes b s)) (take_at ws (drop (length ws) s.item.content) (length s.item.content) (long ∙ sym (ap length is)))
