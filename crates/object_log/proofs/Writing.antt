-- A segment reads the same when the content of an object is written.
use Rattle.std.proofs.Common.{◌≡◌, ℕ, ◌+◌, ◌-◌, ◌<◌, ◌≤◌, ◌⊎◌, inl, inr, List, ◌++◌, length, take, drop, sym, ap, ◌∙◌, subst, arith, length-append, length-take-le, length-drop, drop-drop}
use Rattle.std.specs.Prelude.{slice_index, Any}
use Rattle.std.proofs.lemmas.List.{get_or-take, get_or_append_left, get_or-append_right, get_or-drop}
use Rattle.std.proofs.Math.Seq.{drop-append-add}
use Rattle.object_log.specs.Objects.{Object, objects, object_at, with_content, AreObjects, IsSegment, StandsAt}
use Rattle.object_log.proofs.Reading.{objects-are, content-kept, objects-described}

-- an object with that offset and size is one of them
abbrev pub HasObject : ℕ → ℕ → List Object → Type 0
HasObject at size os = Any (λ o. (o.at ≡ at) × (o.size ≡ size)) os

-- an object that stands at the offset has the size that is read there
pub has-object : (bytes : List ℕ) (a used at : ℕ) (os : List Object) → AreObjects bytes a used os → StandsAt at os → HasObject at (object_at bytes at).size os
has-object bytes a used at os h stands =
    let P : Object → Type 0 = λ o. o.at ≡ at → o ≡ object_at bytes at in
    let it : P stands.1 = subst P stands.3 (objects-described bytes a used at os h stands.0 stands.1 stands.2) in
    (stands.0, stands.1, stands.2, stands.3, (stands.4, ap (λ (o : Object). o.size) (it stands.4)))

module _ (xs ws : List ℕ) (used at size : ℕ) (s : IsSegment xs used) (has : HasObject at size (objects xs used)) (least : 16 ≤ size) (ends : at + size ≤ used) (fills : length ws ≡ size - 8) where
  abbrev ys : List ℕ
  ys = with_content at ws xs

  ends-at : at + 8 + length ws ≡ at + size
  ends-at = omega (arith, fills, least)

  same-as : ys ≡ take (at + 8) xs ++ (ws ++ drop (at + size) xs)
  same-as = ap (λ k. take (at + 8) xs ++ (ws ++ drop k xs)) ends-at

  front-long : length (take (at + 8) xs) ≡ at + 8
  front-long = length-take-le (at + 8) xs (omega (arith, s.long, s.inside, least, ends))

  same : (i : ℕ) → (i < at + 8) ⊎ (at + size ≤ i) → slice_index ys i ≡ slice_index xs i
  same i (inl low) = ap (λ l. slice_index l i) same-as ∙ get_or_append_left (take (at + 8) xs) (ws ++ drop (at + size) xs) 0 i (omega (arith, low, front-long)) ∙ get_or-take (at + 8) xs i 0 low
  same i (inr high) =
      ap (λ l. slice_index l i) same-as ∙ get_or-append_right (take (at + 8) xs) (ws ++ drop (at + size) xs) (at + 8) i 0 front-long (omega (arith, high, least))
      ∙ get_or-append_right ws (drop (at + size) xs) (size - 8) (i - (at + 8)) 0 fills (omega (arith, high, least))
      ∙ get_or-drop (at + size) xs (i - (at + 8) - (size - 8)) 0 ∙ ap (slice_index xs) (omega (arith, high, least))

  behind : drop used ys ≡ drop used xs
  behind =
      let k = used - (at + size) in
      ap (drop used) same-as ∙ ap (λ n. drop n (take (at + 8) xs ++ (ws ++ drop (at + size) xs))) {x = used} (omega (arith, front-long, fills, least, ends))
      ∙ drop-append-add (take (at + 8) xs) (ws ++ drop (at + size) xs) (length ws + k) ∙ drop-append-add ws (drop (at + size) xs) k
      ∙ drop-drop k (at + size) xs ∙ ap (λ n. drop n xs) (omega (arith, ends))

  listed : AreObjects ys 0 used (objects xs used)
  listed = content-kept 0 used at size xs ys (objects xs used) s.objects has same

  pub objects-written : objects ys used ≡ objects xs used
  objects-written = objects-are ys used (objects xs used) listed

  pub IsSegment-written : IsSegment ys used
  IsSegment-written = record {
    long = ap length same-as ∙ length-append (take (at + 8) xs) (ws ++ drop (at + size) xs) ∙ omega (arith, front-long, length-append ws (drop (at + size) xs), fills, length-drop (at + size) xs, s.long, s.inside, least, ends);
    inside = s.inside;
    objects = subst (AreObjects ys 0 used) (sym objects-written) listed;
    ended = λ h. ap (take 8) behind ∙ s.ended h;
  }
