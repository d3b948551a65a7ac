-- What a segment reads as once an object is behind the others.
use Rattle.std.proofs.Common.{◌≡◌, ℕ, ◌+◌, ◌-◌, ◌<◌, ◌≤◌, ◌⊎◌, inl, inr, List, [], ◌∷◌, ◌++◌, length, take, drop, refl, sym, ap, ◌∙◌, subst, arith, length-take-le}
use Rattle.std.specs.Prelude.{slice_index}
use Rattle.std.proofs.lemmas.List.{get_or-take, get_or_append_left, get_or-append-add, drop-take, take-take}
use Rattle.std.proofs.Math.Seq.{drop-append-add, take-append_seam}
use Rattle.layout.specs.Sizes.{segment, descriptor}
use Rattle.byteorder.specs.Endian.{little_number}
use Rattle.byteorder.specs.Numbers.{little_number-reads_back}
use Rattle.object_log.specs.inside.Made.{object_bytes}
use Rattle.object_log.specs.Objects.{Object, live, object_at, objects, IsObject, IsSize, AreObjects, IsSegment, IsEnd}
use Rattle.object_log.proofs.Reading.{SameOn, objects-are, objects-same, objects-snoc, object-same, object-is}

module _ (old mid new content : List ℕ) (used kind size : ℕ) (full : length content ≡ size - 8) (long : length old ≡ 131072) (room : used + size ≤ 131072) (fits : IsSize size) (more : 1 ≤ kind)
    (laid : mid ≡ take used old ++ (object_bytes kind size content ++ drop (used + size) old)) (kept : take (used + size) new ≡ take (used + size) mid) where
  abbrev front : List ℕ
  front = take used old

  abbrev back : List ℕ
  back = object_bytes kind size content ++ drop (used + size) old

  filled : length front ≡ used
  filled = length-take-le used old (omega (arith, long, room))

  new-is-mid : (i : ℕ) → i < used + size → slice_index new i ≡ slice_index mid i
  new-is-mid i h = sym (get_or-take (used + size) new i 0 h) ∙ ap (λ l. slice_index l i) kept ∙ get_or-take (used + size) mid i 0 h

  mid-behind : (j : ℕ) → slice_index mid (used + j) ≡ slice_index back j
  mid-behind j = ap (λ l. slice_index l (used + j)) laid ∙ ap (λ k. slice_index (front ++ back) (k + j)) (sym filled) ∙ get_or-append-add front back j 0

  new-behind : (j : ℕ) → j < size → slice_index new (used + j) ≡ slice_index back j
  new-behind j h = new-is-mid (used + j) (omega (arith, h)) ∙ mid-behind j

  below : SameOn 0 used old new
  below i low high =
      new-is-mid i (omega (arith, high)) ∙ ap (λ l. slice_index l i) laid ∙ get_or_append_left front back 0 i (omega (arith, high, filled)) ∙ get_or-take used old i 0 high

  drop-behind : (n : ℕ) → drop (used + n) mid ≡ drop n back
  drop-behind n = ap (drop (used + n)) laid ∙ ap (λ k. drop (k + n) (front ++ back)) (sym filled) ∙ drop-append-add front back n

  made : object_at new used ≡ live used kind size
  made =
      object-same used mid new (λ i low high. new-is-mid i (omega (arith, high, fits.0)))
      ∙ object-is used _ _ _ _ _ _ (ap (slice_index mid) (omega arith) ∙ mid-behind 0) (mid-behind 1)
      (ap (little_number 4) (drop-behind 4) ∙ little_number-reads_back 4 size (content ++ drop (used + size) old) (omega (arith, fits.1)))

  is-object : IsObject new (live used kind size)
  is-object = (inl refl, more, new-behind 2 (omega (arith, fits.0)), new-behind 3 (omega (arith, fits.0)), fits)

  snoc : (os : List Object) → AreObjects old 0 used os → AreObjects new 0 (used + size) (os ++ live used kind size ∷ [])
  snoc os h = objects-snoc new 0 used os (live used kind size) (objects-same 0 used old new os below h) (sym made) is-object

  pub content-laid : take (size - 8) (drop (used + 8) new) ≡ content
  content-laid =
      let e : used + size ≡ used + 8 + (size - 8) = omega (arith, fits.0) in let tail = drop (used + size) old in
      sym (drop-take (used + 8) (size - 8) new) ∙ ap (λ k. drop (used + 8) (take k new)) (sym e) ∙ ap (drop (used + 8)) kept ∙ ap (λ k. drop (used + 8) (take k mid)) e
      ∙ drop-take (used + 8) (size - 8) mid ∙ ap (take (size - 8)) (drop-behind 8) ∙ ap (λ k. take k (content ++ tail)) (sym full) ∙ take-append_seam content tail

  pub front-kept : take used new ≡ take used old
  front-kept =
      sym (take-take used (used + size) new (omega arith)) ∙ ap (take used) kept ∙ take-take used (used + size) mid (omega arith) ∙ ap (take used) laid
      ∙ ap (λ k. take k (front ++ back)) (sym filled) ∙ take-append_seam front back

  module _ (known : (used ≡ 0) ⊎ IsSegment old used) where
    listed : AreObjects old 0 used (objects old used)
    listed = elim known [ inl e ↦ subst (λ k. AreObjects old 0 k (objects old k)) (sym e) refl | inr s ↦ s.objects ]

    pub objects-added : objects new (used + size) ≡ objects old used ++ live used kind size ∷ []
    objects-added = objects-are new (used + size) _ (snoc (objects old used) listed)

    pub IsSegment-added : length new ≡ 131072 → (used + size + descriptor ≤ segment → IsEnd new (used + size)) → IsSegment new (used + size)
    IsSegment-added same ends = record {
      long = same;
      inside = room;
      objects = subst (AreObjects new 0 (used + size)) (sym objects-added) (snoc (objects old used) listed);
      ended = ends;
    }
