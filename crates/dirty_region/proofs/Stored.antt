-- What is kept of the segments and of the bytes, where puts come and go or are moved.
use Rattle.std.proofs.Common.{◌≡◌, ℕ, zero, suc, ◌+◌, ◌*◌, ◌^◌, ◌<◌, ◌≤◌, cond, get_or, map, replicate, [], length, Option, Some, None, refl, sym, ap, subst, ◌∙◌, arith}
use Rattle.std.specs.Prelude.{slice_get, option_map, IfSome}
use Rattle.std.specs.List.{count_by, sum}
use Rattle.std.proofs.lemmas.List.{length-replicate}
use Rattle.std.proofs.lemmas.List.Sums.{sum_by-cons}
use Rattle.rows.specs.Key.{Key}
use Rattle.rows.specs.Row.{Row, size, live}
use Rattle.row_bytes.specs.Rows.{row_in}
use Rattle.layout.specs.Sizes.{most_segments}
use Rattle.regions.specs.Segments.{RegionState, SegmentState, group_at, idle}
use Rattle.regions.specs.Shapes.{Shape, shape, active_in, held_count, free_count, is_held, is_free, pieces_in, slots_of}
use Rattle.regions.specs.Counts.{left, left_of, live_in, live_total, used_counts}
use Rattle.regions.specs.Contents.{Item, item_if_live, live_at, size_of, standing_in}
use Rattle.regions.specs.Stores.{Live, found, store_of}
use Rattle.regions.specs.declared.place.Place.{Place}
use Rattle.compaction.specs.Emptied.{HoldsTheSame}
use Rattle.dirty_region.specs.inside.PutRows.{PutRows, Has, IsKeyed}
use Rattle.segmented_store.specs.Segments.{HoldsSegments}
use Rattle.dirty_region.specs.State.{DirtyState}
use Rattle.dirty_region.specs.inside.Rings.{RingState, IsRingOf, Drops, slot, position, popped, listed, nth, puts_in, place_of, bare, key_at, nowhere}
use Rattle.dirty_region.specs.inside.Indexed.{IsKeyedBy, IsNewest, IsIndexOf, IsIndexBehind, nth_key}
use Rattle.dirty_region.specs.inside.Consistent.{HasSpare, IsStored, IsConsistent}
use Rattle.dirty_region.proofs.Listed.{listed_same, length-listed}
use Rattle.dirty_region.proofs.Rings.{some_same, some_none, put_is, ring_popped, puts_popped}
use Rattle.dirty_region.proofs.Moving.{place_there, of_some}
use Rattle.dirty_region.proofs.Indexes.{index_popped, keyed_elsewhere, newest_same, once_none}

-- ---- the segments

abbrev held_in : Shape → ℕ
held_in s = count_by is_held s.slots

abbrev free_in : Shape → ℕ
free_in s = count_by is_free s.slots

pub spare_same : (r s : RegionState) → shape s ≡ shape r → HasSpare r → HasSpare s
spare_same r s same spare =
    let held : held_count s ≡ held_count r = ap held_in same in let free : free_count s ≡ free_count r = ap free_in same in
    record {
      most = (let m = spare.most in let e = ap (λ (x : Shape). x.most) same in omega (arith, m, e));
      one = ap (λ (x : Shape). length x.groups) same ∙ spare.one;
      guards = ap (λ (x : Shape). (group_at x.groups 0).guards) same ∙ spare.guards;
      begun = λ none. (let b = spare.begun (sym (ap (λ (x : Shape). active_in x.groups 0) same) ∙ none) in omega (arith, b, held, free));
      free = λ two. (let f = spare.free (omega (arith, two, held)) in omega (arith, f, free));
    }

pub segments_same : (r s : RegionState) → shape s ≡ shape r → HoldsSegments r s
segments_same r s same = record {
  most = ap (λ (x : Shape). x.most) same;
  groups = ap (λ (x : Shape). length x.groups) same;
  pieces = ap (λ (x : Shape). pieces_in x.slots) same;
  held = ap held_in same;
  guards = λ g. ap (λ (x : Shape). (group_at x.groups g).guards) same;
}

-- the segments with room, and those with an object more
pub segments_grown : (r m s : RegionState) → HoldsTheSame r m → shape s ≡ shape m → HoldsSegments r s
segments_grown r m s h same =
    let more = segments_same m s same in record {
      most = more.most ∙ h.most;
      groups = more.groups ∙ h.groups;
      pieces = more.pieces ∙ h.pieces;
      held = more.held ∙ h.held;
      guards = λ g. more.guards g ∙ h.guards g;
    }

-- ---- the oldest put goes

pub stored_popped : (r : RingState) (index : PutRows) (old new : RegionState) (p : Place) → IsRingOf r (live_at old) → 1 ≤ r.count
    → live (puts_in r (live_at old)) ≡ live_total old → HasSpare old → slice_get r.places (slot r 0) ≡ Some p → Drops p (live_at old) (live_at new)
    → IfSome (live_at old p) (λ item. live_total new + size_of item ≡ live_total old) → shape new ≡ shape old → IsIndexBehind r (live_at old) index → IsStored (popped r) index new
stored_popped r index old new p of some sizes spare here drops less same by =
    let popped_is = ring_popped r (live_at old) (live_at new) p of some here drops in
    let least : 0 < r.count = omega (arith, some) in
    let first = of.puts 0 least in
    let at : first.place ≡ p = some_same first.placed here in
    let total = of_some (λ (item : Item). live_total new + size_of item ≡ live_total old) (live_at old p) first.item less (sym (ap (live_at old) at) ∙ first.is_live) in
    let put : nth r (live_at old) 0 ≡ first.put = put_is (live_at old) r.places (slot r 0) (position r 0) first in
    let one : size_of first.item ≡ size (nth r (live_at old) 0).key.bytes (nth r (live_at old) 0).value = first.is_put.size ∙ sym (ap (λ (x : Row). size x.key.bytes x.value) put) in
    let split = ap live (puts_popped r (live_at old) (live_at new) some popped_is) in
    let sum = sum_by-cons (λ (x : Row). size x.key.bytes x.value) (nth r (live_at old) 0) (puts_in (popped r) (live_at new)) in
    record {
      ring_of = popped_is.ring_of;
      index_of = index_popped r (live_at old) (live_at new) index of.numbers popped_is by;
      sizes = omega (arith, sizes, total, one, split, sum);
      spare = spare_same old new same spare;
    }

-- ---- puts are moved

abbrev pub apart_from_places : RingState → RingState
apart_from_places r = record r { places = [] }

stored_item : (r : RingState) (l : Live) (of : IsRingOf r l) (k : ℕ) (low : k < r.count) → store_of bare (place_of r) l k ≡ Some (of.puts k low).item
stored_item r l of k low = ap (found bare l) (place_there r k low ∙ (of.puts k low).placed) ∙ ap (option_map bare) (of.puts k low).is_live

pub put_moved_on : (r u : RingState) (l m : Live) → IsRingOf r l → IsRingOf u m → apart_from_places u ≡ apart_from_places r
    → ((n : ℕ) → store_of bare (place_of u) m n ≡ store_of bare (place_of r) l n) → (k : ℕ) → k < r.count → nth u m k ≡ nth r l k
put_moved_on r u l m of now rest same k low =
    let count : u.count ≡ r.count = ap (λ (x : RingState). x.count) rest in
    let high : k < u.count = omega (arith, low, count) in
    let a = of.puts k low in let b = now.puts k high in
    let items : b.item ≡ a.item = some_same (stored_item u m now k high) (same k ∙ stored_item r l of k low) in
    put_is m u.places (slot u k) (position u k) b ∙ (sym b.is_put.read ∙ (ap (λ (i : Item). row_in i.content) items ∙ (a.is_put.read ∙ sym (put_is l r.places (slot r k) (position r k) a))))

pub puts_moved : (r u : RingState) (l m : Live) → IsRingOf r l → IsRingOf u m → apart_from_places u ≡ apart_from_places r
    → ((n : ℕ) → store_of bare (place_of u) m n ≡ store_of bare (place_of r) l n) → puts_in u m ≡ puts_in r l
puts_moved r u l m of now rest same =
    ap (λ n. listed (nth u m) n) (ap (λ (x : RingState). x.count) rest) ∙ listed_same (nth u m) (nth r l) r.count (put_moved_on r u l m of now rest same)

pub index_moved : (r u : RingState) (l m : Live) (index : PutRows) → IsRingOf r l → IsRingOf u m → apart_from_places u ≡ apart_from_places r
    → ((n : ℕ) → store_of bare (place_of u) m n ≡ store_of bare (place_of r) l n) → IsIndexOf r l index → IsIndexOf u m index
index_moved r u l m index of now rest same by =
    let count : u.count ≡ r.count = ap (λ (x : RingState). x.count) rest in
    let keys : (k : ℕ) → k < r.count → nth_key u m k ≡ nth_key r l k = λ k low. ap (λ (x : Row). x.key) (put_moved_on r u l m of now rest same k low) in
    subst (λ n. IsKeyedBy u m 0 n (IsNewest u m) index) (sym count)
    (keyed_elsewhere r u l m 0 r.count (IsNewest r l) (IsNewest u m) index (ap (λ (x : RingState). x.room) rest) (λ k. ap (λ (x : RingState). slot x k) rest) keys
    (λ k low high. newest_same r u l m k count high keys) by)

pub spare_made : (r s : RegionState) (size : ℕ) → HoldsTheSame r s → HasSpare r → 1 ≤ size → size ≤ left s 0 → 1 ≤ free_count s → HasSpare s
spare_made r s size holds spare some room free = record {
  most = (let m = spare.most in let e = holds.most in omega (arith, m, e));
  one = holds.groups ∙ spare.one;
  guards = holds.guards 0 ∙ spare.guards;
  begun = λ none. absurd (let no : left s 0 ≡ 0 = ap (left_of (used_counts s)) none in omega (arith, no, some, room));
  free = λ _. free;
}

-- ---- no put

abbrev none_of_type : (A : Type 0) → Option A
none_of_type A = None

none_there : {A : Type 0} (n k : ℕ) → get_or (replicate n (none_of_type A)) k None ≡ None
none_there {A} zero k = refl
none_there {A} (suc n) zero = refl
none_there {A} (suc n) (suc k) = none_there {A = A} n k

none_live : (n : ℕ) → sum (map live_in (replicate n (none_of_type SegmentState))) ≡ 0
none_live zero = refl
none_live (suc n) = let e = sum_by-cons (λ (x : ℕ). x) 0 (map live_in (replicate n (none_of_type SegmentState))) in let ih = none_live n in omega (arith, e, ih)

pub none_held : (n : ℕ) → count_by is_held (slots_of (replicate n (none_of_type SegmentState))) ≡ 0
none_held zero = refl
none_held (suc n) = let e = sum_by-cons (λ s. cond (is_held s) 1 0) None (slots_of (replicate n (none_of_type SegmentState))) in let ih = none_held n in omega (arith, e, ih)

abbrev pub no_segments : ℕ → RegionState
no_segments n = record { most = n; groups = replicate 1 idle; segments = replicate n None }

abbrev pub no_puts : ℕ → RingState
no_puts room = record { room = room; head = 0; count = 0; first = 0; places = replicate room nowhere }

pub consistent_new : (ring : RingState) (index : PutRows) (r : RegionState) (rows n : ℕ) → ring ≡ no_puts rows → rows < 2 ^ 32 → r ≡ no_segments n → n ≤ most_segments → index.room ≡ rows → ((m : ℕ) → ¬ Has index m)
    → ((key_of : ℕ → Key) → IsKeyed key_of index) → IsConsistent ring index r 0
consistent_new ring index r rows n is_ring small is_region most room none keyed =
    subst (λ (x : RingState). IsConsistent x index r 0) (sym is_ring)
    (subst (λ (y : RegionState). IsConsistent (no_puts rows) index y 0) (sym is_region)
    (let s = no_segments n in let held = none_held n in record {
      stored = record {
        ring_of = record {
          numbers = record {
            small = small;
            long = length-replicate rows nowhere;
            few = omega arith;
            head = omega arith;
            begins = λ some. some;
            first = omega arith;
          };
          puts = λ k low. absurd (omega (arith, low));
          every = λ p i e. some_none e (ap (λ h. item_if_live (standing_in h p.at)) (none_there {A = SegmentState} n p.segment));
        };
        index_of = record {
          room = room;
          keyed = keyed (key_at (live_at s) (no_puts rows).places);
          once = once_none index none;
          has = record {
            only = λ m h. absurd (none m h);
            those = λ k low high. absurd (omega (arith, high));
          };
        };
        sizes = sym (none_live n);
        spare = record {
          most = most;
          one = refl;
          guards = refl;
          begun = λ _. omega (arith, held);
          free = λ two. absurd (omega (arith, two, held));
        };
      };
      out_is = refl;
    }))

-- ---- how much there is

live_small : (f : ℕ → Row) (n : ℕ) → ((k : ℕ) → k < n → size (f k).key.bytes (f k).value ≤ 13000) → live (listed f n) ≤ 13000 * n
live_small f zero small = omega arith
live_small f (suc n) small =
    let rest = live_small (λ k. f (suc k)) n (λ k low. small (suc k) (omega (arith, low))) in
    let sum = sum_by-cons (λ (x : Row). size x.key.bytes x.value) (f 0) (listed (λ k. f (suc k)) n) in let first = small 0 (omega arith) in omega (arith, rest, sum, first)

size_small : (r : RingState) (l : Live) → IsRingOf r l → (k : ℕ) → k < r.count → size (nth r l k).key.bytes (nth r l k).value ≤ 13000
size_small r l of k low =
    let h = of.puts k low in
    let put : nth r l k ≡ h.put = put_is l r.places (slot r k) (position r k) h in
    let key = h.is_put.holds.storable.short_key in let value = h.is_put.holds.storable.short_value in
    let small : size h.put.key.bytes h.put.value ≤ 13000 = omega (arith, key, value) in
    subst (λ (x : Row). size x.key.bytes x.value ≤ 13000) (sym put) small

pub bytes_small : (r : RingState) (index : PutRows) (s : RegionState) → IsStored r index s → live_total s ≤ 13000 * 2 ^ 32
bytes_small r index s h =
    let all = live_small (nth r (live_at s)) r.count (size_small r (live_at s) h.ring_of) in
    let few = h.ring_of.numbers.few in let small = h.ring_of.numbers.small in let sizes = h.sizes in omega (arith, all, few, small, sizes)

-- what a dirty region shows of its parts
pub record IsSeen (room count bytes held : ℕ) (now : DirtyState) : Type 0 where
  pub room_is : now.room ≡ room
  pub count_is : length now.queue.puts ≡ count
  pub live_is : live now.queue.puts ≡ bytes
  pub held_is : held_count now.region ≡ held
  pub total : live_total now.region ≡ bytes

pub seen : (r : RingState) (index : PutRows) (s : RegionState) (out : ℕ) (now : DirtyState) → IsConsistent r index s out
    → (let d : DirtyState = record { room = r.room; queue = record { puts = puts_in r (live_at s); out = out }; first = r.first; region = s } in d ≡ now) → IsSeen r.room r.count (live_total s) (held_count s) now
seen r index s out now is view = record {
  room_is = sym (ap (λ (x : DirtyState). x.room) view);
  count_is = sym (ap (λ (x : DirtyState). length x.queue.puts) view) ∙ length-listed (nth r (live_at s)) r.count;
  live_is = sym (ap (λ (x : DirtyState). live x.queue.puts) view) ∙ is.stored.sizes;
  held_is = sym (ap (λ (x : DirtyState). held_count x.region) view);
  total = sym (ap (λ (x : DirtyState). live_total x.region) view);
}
