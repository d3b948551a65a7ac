-- The segments of a range go to a region one after the other, and come back from the last one on.
use Rattle.std.proofs.Common.{◌≡◌, ℕ, zero, suc, ◌+◌, ◌*◌, ◌<◌, ◌≤◌, ◌⊎◌, Bool, true, false, not, cond, leb, eqb, inl, inr, List, [], ◌∷◌, length, take, drop, Option, Some, None, refl, sym, ap, ◌∙◌, subst, arith}
use Rattle.std.specs.Prelude.{All, Contains, slice_get, slice_set, slice_index_or, is_some, option_map, filter, replicate}
use Rattle.std.proofs.lemmas.Bool.{lt-leb, le-leb, leb-true, eq-eqb, eqb-true, cases_lt}
use Rattle.std.proofs.lemmas.Option.{get_or_from_slice_get}
use Rattle.std.proofs.lemmas.List.{length-set, get_or-set_same, get_or-set_other, get_or_past, length-take-le, length-drop}
use Rattle.std.proofs.lemmas.List.Elements.{All-cons, All-nil}
use Rattle.layout.specs.Extents.{Extent, extent, Disjoint}
use Rattle.layout.specs.Sizes.{segment, page}
use Rattle.raw_range.specs.Memory.{Lent, Memory, extent_of, remove_extent, with_allocated}
use Rattle.regions.specs.Segments.{RegionState, idle}
use Rattle.regions.specs.Shapes.{Slot, Identity, identity, slots_of, shape, slot_at, is_held, pieces, pieces_in, held_count, IsHeld, IsLeastUnused, IsGreatestHeld}
use Rattle.place_lemmas.specs.Ranges.{extents, nth_piece, HoldsFirst}

-- ---- the extents

pub length-extents : (n : ℕ) → length (extents n) ≡ n
length-extents zero = refl
length-extents (suc n) = ap suc (length-extents n)

-- those of the first n are disjoint from each later one
pub apart : (k n : ℕ) → n ≤ k → All (Disjoint (extent (k * segment) segment)) (extents n)
apart k zero low = All-nil (Disjoint (extent (k * segment) segment))
apart k (suc n) low =
    All-cons (Disjoint (extent (k * segment) segment)) (extent (n * segment) segment) (extents n) (inr (omega (arith, low))) (apart k n (omega (arith, low)))

another_start : (k n : ℕ) → n < k → eqb (n * segment) (k * segment) ≡ false
another_start k n low = by_test (eqb (n * segment) (k * segment)) refl where
  by_test : (b : Bool) → eqb (n * segment) (k * segment) ≡ b → b ≡ false
  by_test true e = absurd (let same = eqb-true (n * segment) (k * segment) e in omega (arith, same, low))
  by_test false e = refl

kept_below : (k n : ℕ) → n ≤ k → filter (λ (b : Extent). not (eqb b.start (k * segment))) (extents n) ≡ extents n
kept_below k zero low = refl
kept_below k (suc n) low =
    ap (λ b. cond (not b) (extent (n * segment) segment ∷ filter (λ (b : Extent). not (eqb b.start (k * segment))) (extents n))
    (filter (λ (b : Extent). not (eqb b.start (k * segment))) (extents n))) (another_start k n (omega (arith, low)))
    ∙ ap (λ es. extent (n * segment) segment ∷ es) (kept_below k n (omega (arith, low)))

-- without the last one the others are left
last_removed : (n : ℕ) → remove_extent (extent (n * segment) segment) (extents (suc n)) ≡ extents n
last_removed n =
    ap (λ b. cond (not b) (extent (n * segment) segment ∷ filter (λ (b : Extent). not (eqb b.start (n * segment))) (extents n))
    (filter (λ (b : Extent). not (eqb b.start (n * segment))) (extents n))) (eq-eqb (n * segment) (n * segment) refl)
    ∙ kept_below n n (omega arith)

-- ---- the segments that are held

held_of : (s : Option Slot) → is_some (option_map (λ (b : Slot). b.piece) s) ≡ is_held s
held_of None = refl
held_of (Some b) = refl

held_at : (slots : List (Option Slot)) (n : ℕ) → is_some (slice_index_or (pieces_in slots) n None) ≡ is_held (slot_at slots n)
held_at [] n = refl
held_at (s ∷ slots) zero = held_of s
held_at (s ∷ slots) (suc n) = held_at slots n

some_if : (b : Bool) (x : Identity) → is_some (cond b (Some x) None) ≡ b
some_if true x = refl
some_if false x = refl

is_held_if : (range : Memory) (region : RegionState) (n : ℕ) → HoldsFirst range region n → (k : ℕ) → is_held (slot_at (shape region).slots k) ≡ leb (suc k) n
is_held_if range region n first k =
    sym (held_at (shape region).slots k) ∙ (ap is_some (first.pieces_are k) ∙ some_if (leb (suc k) n) (nth_piece range k))

held_low : (range : Memory) (region : RegionState) (n : ℕ) → HoldsFirst range region n → (k : ℕ) → IsHeld region k → k < n
held_low range region n first k held = leb-true (suc k) n (sym (is_held_if range region n first k) ∙ held)

low_held : (range : Memory) (region : RegionState) (n : ℕ) → HoldsFirst range region n → (k : ℕ) → k < n → IsHeld region k
low_held range region n first k low = is_held_if range region n first k ∙ le-leb (suc k) n low

-- the least number that is not held is the next one
next_number : (range : Memory) (region : RegionState) (n m : ℕ) → HoldsFirst range region n → IsLeastUnused region m → m ≡ n
next_number range region n m first least = by_order (cases_lt m n) (cases_lt n m) where
  by_order : (m < n) ⊎ (n ≤ m) → (n < m) ⊎ (m ≤ n) → m ≡ n
  by_order (inl low) other = absurd (least.1 (low_held range region n first m low))
  by_order (inr high) (inl above) = absurd (let low = held_low range region n first n (least.2 n above) in omega (arith, low))
  by_order (inr high) (inr below) = omega (arith, high, below)

-- the greatest that is held is the last one
last_number : (range : Memory) (region : RegionState) (n m : ℕ) → HoldsFirst range region n → IsGreatestHeld region m → m + 1 ≡ n
last_number range region n m first greatest = by_order (cases_lt (m + 1) n) where
  low : m < n
  low = held_low range region n first m greatest.0

  by_order : (m + 1 < n) ⊎ (n ≤ m + 1) → m + 1 ≡ n
  by_order (inl above) = absurd (greatest.1 (m + 1) (omega arith) (low_held range region n first (m + 1) above))
  by_order (inr below) = let l = low in omega (arith, l, below)

-- ---- a segment more

cond_same : (p : Option Identity) (b c : Bool) → b ≡ c → cond b p None ≡ cond c p None
cond_same p b c e = ap (λ x. cond x p None) e

test_more : (j n : ℕ) → (j ≡ n → ⊥) → leb (suc j) n ≡ leb (suc j) (n + 1)
test_more j n other = by_order (cases_lt j n) where
  by_order : (j < n) ⊎ (n ≤ j) → leb (suc j) n ≡ leb (suc j) (n + 1)
  by_order (inl low) = le-leb (suc j) n low ∙ sym (le-leb (suc j) (n + 1) (omega (arith, low)))
  by_order (inr high) = lt-leb (suc j) n (omega (arith, high)) ∙ sym (lt-leb (suc j) (n + 1) (omega (arith, high, other)))

pub one_more : (range after : Memory) (region grown : RegionState) (n m : ℕ) (piece : Lent) → HoldsFirst range region n → IsLeastUnused region m
    → pieces grown ≡ slice_set (pieces region) m (Some (identity piece)) → held_count grown ≡ held_count region + 1 → (shape grown).most ≡ (shape region).most
    → identity piece ≡ nth_piece range n → after ≡ with_allocated range (extent (n * segment) segment ∷ range.allocated) range.bytes → (n + 1) * segment ≤ page * range.pages
    → HoldsFirst after grown (n + 1)
one_more range after region grown n m piece first least added held most is taken room =
    let number = next_number range region n m first least in
    let same : nth_piece after ≡ nth_piece range = ap nth_piece taken in
    let low : n < length (pieces region) = let below = least.0 in let long = first.long in omega (arith, below, long, number) in
    let now : pieces grown ≡ slice_set (pieces region) n (Some (nth_piece range n)) =
    added ∙ (ap (λ k. slice_set (pieces region) k (Some (identity piece))) number ∙ ap (λ p. slice_set (pieces region) n (Some p)) is) in
    let pages_same = ap (λ (r : Memory). r.pages) taken in
    let before = first.held in
    record {
      held = omega (arith, held, before);
      long = ap length added ∙ (length-set (pieces region) m (Some (identity piece)) ∙ (first.long ∙ sym most));
      pieces_are = λ j. ap (λ ps. slice_index_or ps j None) now ∙ (grown_at j (cases_lt j n) (cases_lt n j) low ∙ ap (λ f. cond (leb (suc j) (n + 1)) (Some (f j)) None) (sym same));
      allocated = ap (λ (r : Memory). r.allocated) taken ∙ (ap (λ es. extent (n * segment) segment ∷ es) first.allocated ∙ ap extents (let e : suc n ≡ n + 1 = omega arith in e));
      inside = omega (arith, room, pages_same);
    }
  where
    grown_at : (j : ℕ) → (j < n) ⊎ (n ≤ j) → (n < j) ⊎ (j ≤ n) → n < length (pieces region)
        → slice_index_or (slice_set (pieces region) n (Some (nth_piece range n))) j None ≡ cond (leb (suc j) (n + 1)) (Some (nth_piece range j)) None
    grown_at j (inl less) other low =
        get_or-set_other (pieces region) n j (Some (nth_piece range n)) None (λ e. omega (arith, e, less))
        ∙ (first.pieces_are j ∙ cond_same (Some (nth_piece range j)) (leb (suc j) n) (leb (suc j) (n + 1)) (test_more j n (λ e. omega (arith, e, less))))
    grown_at j (inr high) (inl more) low =
        get_or-set_other (pieces region) n j (Some (nth_piece range n)) None (λ e. omega (arith, e, more))
        ∙ (first.pieces_are j ∙ cond_same (Some (nth_piece range j)) (leb (suc j) n) (leb (suc j) (n + 1)) (test_more j n (λ e. omega (arith, e, more))))
    grown_at j (inr high) (inr below) low =
        let e : j ≡ n = omega (arith, high, below) in
        ap (λ k. slice_index_or (slice_set (pieces region) n (Some (nth_piece range n))) k None) e
        ∙ (get_or-set_same (pieces region) n (Some (nth_piece range n)) None low
        ∙ (cond_same (Some (nth_piece range n)) true (leb (suc j) (n + 1)) (sym (le-leb (suc j) (n + 1) (omega (arith, e)))) ∙ ap (λ k. cond (leb (suc j) (n + 1)) (Some (nth_piece range k)) None) (sym e)))

-- ---- the last segment back

pub last_piece : (range : Memory) (region : RegionState) (n m : ℕ) (piece : Lent) → HoldsFirst range region n → IsGreatestHeld region m → slice_get (pieces region) m ≡ Some (Some (identity piece))
    → identity piece ≡ nth_piece range m
last_piece range region n m piece first greatest given =
    let number = last_number range region n m first greatest in
    let is = sym (get_or_from_slice_get (pieces region) m (Some (identity piece)) None given) ∙ (first.pieces_are m ∙ ap (λ b. cond b (Some (nth_piece range m)) None) (le-leb (suc m) n (omega (arith, number)))) in
    some_same is
  where
    some_same : {x y : Identity} → Some x ≡ Some y → x ≡ y
    some_same e = cc

piece_extent : (range : Memory) (m : ℕ) (piece : Lent) → identity piece ≡ nth_piece range m → extent_of piece ≡ extent (m * segment) segment
piece_extent range m piece is = ap (λ (i : Identity). extent i.at i.length) is

last_allocated : (range : Memory) (region : RegionState) (n m : ℕ) → HoldsFirst range region n → m + 1 ≡ n → range.allocated ≡ extents (suc m)
last_allocated range region n m first number = first.allocated ∙ ap extents (let e : n ≡ suc m = omega (arith, number) in e)

pub last_contained : (range : Memory) (region : RegionState) (n m : ℕ) (piece : Lent) → HoldsFirst range region n → IsGreatestHeld region m → slice_get (pieces region) m ≡ Some (Some (identity piece))
    → Contains range.allocated (extent_of piece)
last_contained range region n m piece first greatest given =
    let is = piece_extent range m piece (last_piece range region n m piece first greatest given) in
    let all = last_allocated range region n m first (last_number range region n m first greatest) in
    subst (λ e. Contains range.allocated e) (sym is) (subst (λ es. Contains es (extent (m * segment) segment)) (sym all) (0, omega arith, refl))

test_less : (j m : ℕ) → (j ≡ m → ⊥) → leb (suc j) (m + 1) ≡ leb (suc j) m
test_less j m other = sym (test_more j m other)

pub one_less : (range after : Memory) (region shrunk : RegionState) (n m : ℕ) (piece : Lent) (bytes : List ℕ) → HoldsFirst range region n → IsGreatestHeld region m
    → slice_get (pieces region) m ≡ Some (Some (identity piece)) → pieces shrunk ≡ slice_set (pieces region) m None → held_count shrunk + 1 ≡ held_count region
    → (shape shrunk).most ≡ (shape region).most → after ≡ with_allocated range (remove_extent (extent_of piece) range.allocated) bytes → HoldsFirst after shrunk (held_count shrunk)
one_less range after region shrunk n m piece bytes first greatest given left held most is =
    let number = last_number range region n m first greatest in
    let before = first.held in
    let now : held_count shrunk ≡ m = omega (arith, held, before, number) in
    let same : nth_piece after ≡ nth_piece range = ap nth_piece is in
    let low : m < length (pieces region) = below (cases_lt m (length (pieces region))) in
    let out = piece_extent range m piece (last_piece range region n m piece first greatest given) in
    let room = first.inside in
    let pages_same = ap (λ (r : Memory). r.pages) is in
    subst (λ k. HoldsFirst after shrunk k) (sym now) (record {
      held = now;
      long = ap length left ∙ (length-set (pieces region) m None ∙ (first.long ∙ sym most));
      pieces_are = λ j. ap (λ ps. slice_index_or ps j None) left ∙ (shrunk_at j number (cases_lt j m) (cases_lt m j) low ∙ ap (λ f. cond (leb (suc j) m) (Some (f j)) None) (sym same));
      allocated = ap (λ (r : Memory). r.allocated) is ∙ (ap (λ e. remove_extent e range.allocated) out ∙ (ap (remove_extent (extent (m * segment) segment)) (last_allocated range region n m first number) ∙ last_removed m));
      inside = omega (arith, room, pages_same, number);
    })
  where
    past : (xs : List (Option Identity)) (k : ℕ) → length xs ≤ k → slice_index_or xs k None ≡ None
    past xs k high = get_or_past xs k None high

    below : (m < length (pieces region)) ⊎ (length (pieces region) ≤ m) → m < length (pieces region)
    below (inl low) = low
    below (inr high) = absurd (let e : Some (nth_piece range m) ≡ None = sym (first.pieces_are m ∙ ap (λ b. cond b (Some (nth_piece range m)) None) (le-leb (suc m) n (let number = last_number range region n m first greatest in omega (arith, number)))) ∙ past (pieces region) m high in cc)

    shrunk_at : (j : ℕ) → m + 1 ≡ n → (j < m) ⊎ (m ≤ j) → (m < j) ⊎ (j ≤ m) → m < length (pieces region)
        → slice_index_or (slice_set (pieces region) m None) j None ≡ cond (leb (suc j) m) (Some (nth_piece range j)) None
    shrunk_at j number (inl less) other low =
        get_or-set_other (pieces region) m j None None (λ e. omega (arith, e, less))
        ∙ (first.pieces_are j ∙ cond_same (Some (nth_piece range j)) (leb (suc j) n) (leb (suc j) m) (ap (leb (suc j)) (sym number) ∙ test_less j m (λ e. omega (arith, e, less))))
    shrunk_at j number (inr high) (inl more) low =
        get_or-set_other (pieces region) m j None None (λ e. omega (arith, e, more))
        ∙ (first.pieces_are j ∙ cond_same (Some (nth_piece range j)) (leb (suc j) n) (leb (suc j) m) (ap (leb (suc j)) (sym number) ∙ test_less j m (λ e. omega (arith, e, more))))
    shrunk_at j number (inr high) (inr below) low =
        let e : j ≡ m = omega (arith, high, below) in
        ap (λ k. slice_index_or (slice_set (pieces region) m None) k None) e
        ∙ (get_or-set_same (pieces region) m None None low ∙ cond_same (Some (nth_piece range j)) false (leb (suc j) m) (sym (lt-leb (suc j) m (omega (arith, e)))))

-- ---- the first and the last

-- the piece that was taken
pub piece_is : (range : Memory) (n : ℕ) (piece : Lent) → piece ≡ record { home = range.home; owner = range.owner; at = n * segment; bytes = take segment (drop (n * segment) range.bytes) }
    → length range.bytes ≡ page * range.pages → (n + 1) * segment ≤ page * range.pages → identity piece ≡ nth_piece range n
piece_is range n piece is long room =
    let all : length (take segment (drop (n * segment) range.bytes)) ≡ segment = (let left = length-drop (n * segment) range.bytes in length-take-le segment (drop (n * segment) range.bytes) (omega (arith, long, room, left))) in
    ap identity is ∙ ap (λ k. record { home = range.home; owner = range.owner; at = n * segment; length = k }) all

empty_at : (n k : ℕ) → slice_index_or (pieces_in (slots_of (replicate n None))) k None ≡ None
empty_at zero k = refl
empty_at (suc n) zero = refl
empty_at (suc n) (suc k) = empty_at n k

empty_long : (n : ℕ) → length (pieces_in (slots_of (replicate n None))) ≡ n
empty_long zero = refl
empty_long (suc n) = ap suc (empty_long n)

-- a region without segments
pub none_held : (range : Memory) (region : RegionState) (n : ℕ) → region ≡ record { most = n; groups = replicate 1 idle; segments = replicate n None } → held_count region ≡ 0 → range.allocated ≡ []
    → HoldsFirst range region 0
none_held range region n is held none = record {
  held = held;
  long = ap (λ (r : RegionState). length (pieces r)) is ∙ (empty_long n ∙ sym (ap (λ (r : RegionState). (shape r).most) is));
  pieces_are = λ k. ap (λ (r : RegionState). slice_index_or (pieces r) k None) is ∙ (empty_at n k ∙ ap (λ b. cond b (Some (nth_piece range k)) None) (sym (lt-leb (suc k) 0 (omega arith))));
  allocated = none;
  inside = omega arith;
}

-- where the same segments are held
pub first_kept : (range : Memory) (old new : RegionState) (n : ℕ) → HoldsFirst range old n → (shape new).most ≡ (shape old).most → pieces new ≡ pieces old → held_count new ≡ held_count old
    → HoldsFirst range new n
first_kept range old new n first most pieces_same held = record {
  held = held ∙ first.held;
  long = ap length pieces_same ∙ (first.long ∙ sym most);
  pieces_are = λ k. ap (λ ps. slice_index_or ps k None) pieces_same ∙ first.pieces_are k;
  allocated = first.allocated;
  inside = first.inside;
}
