-- Who is told of rows, by one call after another; and tags that are written into places of the caller's.
use Rattle.std.proofs.Common.{◌≡◌, inl, inr, ℕ, suc, ◌+◌, ◌-◌, ◌<◌, ◌≤◌, List, [], ◌∷◌, ◌++◌, length, take, drop, sym, ap, subst, ◌∙◌, append_assoc, arith}
use Rattle.std.specs.Prelude.{slice_set}
use Rattle.std.specs.Borrow.{GName}
use Rattle.std.proofs.lemmas.List.{drop_all, drop-set-lt, length-set, take-append-drop, take_all, take_more_set}
use Rattle.layout.specs.Counts.{counted, greatest_count}
use Rattle.rows.specs.Told.{AreTold}
use Rattle.shard_store.specs.Tags.{Fits, IsWritten}
use Rattle.shard_store.specs.declared.evicted_tags.EvictedTags.{EvictedTags}
use Rattle.embedded_cache.specs.Puts.{told_in}

module _ {E : Type 0} (tells : E → ℕ → E → Type 0) where
  -- of some, and then of others
  pub told_both : (tags more : List ℕ) (before now after : E) → AreTold tells before tags now → AreTold tells now more after → AreTold tells before (tags ++ more) after
  told_both [] more before now after first others = subst (λ (x : E). AreTold tells x more after) first others
  told_both (tag ∷ tags) more before now after first others = (first.0, first.1, told_both tags more first.0 now after first.2 others)

-- ---- tags in places

abbrev no_tags : List ℕ
no_tags = []

-- the places, where from one on the tags stand, as far as there are places
abbrev spread : ℕ → List ℕ → List ℕ → List ℕ
spread told places tags = take told places ++ (take (length places - told) tags ++ drop (told + length tags) places)

spread_none : (told : ℕ) (places : List ℕ) → spread told places no_tags ≡ places
spread_none told places =
    let none : take (length places - told) no_tags ≡ no_tags = take_all (length places - told) no_tags (omega arith) in
    let here : told + length no_tags ≡ told = omega arith in
    ap (λ (t : List ℕ). take told places ++ (t ++ drop (told + length no_tags) places)) none
    ∙ (ap (λ (n : ℕ). take told places ++ drop n places) here ∙ take-append-drop told places)

spread_one : (told : ℕ) (places tags : List ℕ) (tag : ℕ) → told < length places → spread (told + 1) (slice_set places told tag) tags ≡ spread told places (tag ∷ tags)
spread_one told places tags tag within =
    let set = slice_set places told tag in
    let m = length places - (told + 1) in let end = told + 1 + length tags in
    let front : take (told + 1) set ≡ take told places ++ tag ∷ [] = take_more_set places told tag within in
    let long : length set ≡ length places = length-set places told tag in
    let behind : drop end set ≡ drop end places = drop-set-lt end places told tag (omega arith) in
    let next : length places - told ≡ suc m = omega (arith, within) in
    let there : told + length (tag ∷ tags) ≡ end = omega arith in
    (ap (λ (t : List ℕ). t ++ (take (length set - (told + 1)) tags ++ drop end set)) front
    ∙ (ap (λ (n : ℕ). (take told places ++ tag ∷ []) ++ (take (n - (told + 1)) tags ++ drop end set)) long
    ∙ (ap (λ (t : List ℕ). (take told places ++ tag ∷ []) ++ (take m tags ++ t)) behind ∙ append_assoc (take told places) (tag ∷ []) (take m tags ++ drop end places))))
    ∙ sym (ap (λ (n : ℕ). take told places ++ (take n (tag ∷ tags) ++ drop (told + length (tag ∷ tags)) places)) next
    ∙ ap (λ (n : ℕ). take told places ++ (tag ∷ take m tags ++ drop n places)) there)

-- where there is no place nothing is written
spread_past : (told : ℕ) (places tags : List ℕ) → length places ≤ told → spread told places tags ≡ take told places ++ []
spread_past told places tags full =
    let none : length places - told ≡ 0 = omega (arith, full) in
    ap (λ (n : ℕ). take told places ++ (take n tags ++ drop (told + length tags) places)) none
    ∙ ap (λ (t : List ℕ). take told places ++ t) (drop_all (told + length tags) places (omega (arith, full)))

within_still : (old mid : EvictedTags) (tag : ℕ) → Fits old tag mid → mid.told ≤ length mid.tags.now
within_still old mid tag f =
    let long = ap length f.tags ∙ length-set old.tags.now old.told tag in let told = f.told in let within = f.within in omega (arith, long, told, within)

written : (old new : EvictedTags) (tags : List ℕ) → AreTold IsWritten old tags new → old.told ≤ length old.tags.now → new.tags.now ≡ spread old.told old.tags.now tags
written old new [] is within = ap (λ (e : EvictedTags). e.tags.now) is ∙ sym (spread_none old.told old.tags.now)
written old new (tag ∷ tags) (mid, one, rest) within = elim one.either [
  | inl f ↦
      written mid new tags rest (within_still old mid tag f)
      ∙ (ap (λ (n : ℕ). spread n mid.tags.now tags) f.told
      ∙ (ap (λ (ps : List ℕ). spread (old.told + 1) ps tags) f.tags ∙ spread_one old.told old.tags.now tags tag f.within))
  | inr m ↦
      (let still : mid.told ≤ length mid.tags.now = (let long = ap length m.tags in let told = m.told in omega (arith, long, told, within)) in
      written mid new tags rest still
      ∙ (ap (λ (n : ℕ). spread n mid.tags.now tags) m.told
      ∙ (ap (λ (ps : List ℕ). spread old.told ps tags) m.tags ∙ (spread_past old.told old.tags.now tags m.full ∙ sym (spread_past old.told old.tags.now (tag ∷ tags) m.full)))))
]

-- from the first place on
told_from : (old new : EvictedTags) (tags : List ℕ) → AreTold IsWritten old tags new → old.told ≡ 0 → new.tags.now ≡ told_in tags old.tags.now
told_from old new tags told none =
    let all : length old.tags.now - 0 ≡ length old.tags.now = omega arith in let past : 0 + length tags ≡ length tags = omega arith in
    written old new tags told (omega (arith, none))
    ∙ (ap (λ (n : ℕ). spread n old.tags.now tags) none
    ∙ (ap (λ (n : ℕ). take n tags ++ drop (0 + length tags) old.tags.now) all ∙ ap (λ (n : ℕ). take (length old.tags.now) tags ++ drop n old.tags.now) past))

same_name : (old new : EvictedTags) (tags : List ℕ) → AreTold IsWritten old tags new → new.tags.ghost_name ≡ old.tags.ghost_name
same_name old new [] is = ap (λ (e : EvictedTags). e.tags.ghost_name) is
same_name old new (tag ∷ tags) (mid, one, rest) = same_name mid new tags rest ∙ one.same_reference

-- the memory was handed over with nothing told, tags were told, and it came back
pub given_back : (name : GName) (before after : List ℕ) (old new : EvictedTags) (tags : List ℕ) → AreTold IsWritten old tags new → old.told ≡ 0
    → old.tags.ghost_name ≡ name → old.tags.now ≡ before → (name ≡ new.tags.ghost_name → after ≡ new.tags.now) → after ≡ told_in tags before
given_back name before after old new tags told none named was ends =
    ends (sym (same_name old new tags told ∙ named)) ∙ (told_from old new tags told none ∙ ap (λ (places : List ℕ). told_in tags places) was)

-- ---- how many

exact : (n : ℕ) → n + 1 ≤ greatest_count → counted n ≡ n + 1
exact n few = grind (arith, few)

pub all_counted : (old new : EvictedTags) (tags : List ℕ) → AreTold IsWritten old tags new → old.missed + length tags ≤ greatest_count
    → new.told + new.missed ≡ old.told + old.missed + length tags
all_counted old new [] is few = let a = ap (λ (e : EvictedTags). e.told) is in let b = ap (λ (e : EvictedTags). e.missed) is in omega (arith, a, b)
all_counted old new (tag ∷ tags) (mid, one, rest) few = elim one.either [
  | inl f ↦ (let told = f.told in let missed = f.missed in let more = all_counted mid new tags rest (omega (arith, missed, few)) in omega (arith, told, missed, more))
  | inr m ↦
      (let told = m.told in let missed : mid.missed ≡ old.missed + 1 = m.missed ∙ exact old.missed (omega (arith, few)) in
      let more = all_counted mid new tags rest (omega (arith, missed, few)) in omega (arith, told, missed, more))
]
