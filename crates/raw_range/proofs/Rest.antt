-- The bytes that are not allocated, as extents come and go. Assumes `Logic`.
use Rattle.std.proofs.Common.{◌≡◌, ℕ, ◌+◌, ◌<◌, ◌≤◌, true, false, List, [], ◌∷◌, ◌++◌, length, refl, sym, ap, ap₂, ◌⊎◌, inl, inr, arith, add-zero}
use seplogic.Ra.Ura.{Ura}
use base.Fraction.{full_share}
use base.Logic.{SProp, ent, sep, emp, guard, never_e, id⊢}
use base.Fml.{Fml, ftrue, fsep, feq}
use types.Logic.{Logic, sem}
use types.Kit.{‵, ◌⊛◌, ◌$◌, ◌∵◌, !, qed, move, drop as skip, use0, use1, use2, split, fsplit, fjoin, feq_i, check, rewrite, done}
use denote.RawPtr.{Ptr, block_ptr, null_ptr, block_of, count_of}
use denote.RawPtr.Bytes.{bytes, bytes_apart, bytes_whole}
use denote.Steps.{nothing}
use Rattle.layout.specs.Extents.{Extent}
use Rattle.raw_range.specs.inside.Covered.{is_allocated}
use Rattle.raw_range.specs.inside.Ownership.{IsPlaced, run_owns, byte_owns, rest_owns}

-- where no byte is allocated, all are owned
pub rest-free : (allocated : List Extent) (b o i : ℕ) (xs : List ℕ) → ((k : ℕ) → i ≤ k → k < i + length xs → is_allocated allocated k ≡ false) → rest_owns allocated b o i xs ≡ bytes full_share xs b o
rest-free allocated b o i [] h = refl
rest-free allocated b o i (x ∷ xs) h =
    ap₂ (λ (f g : Fml). fsep f g) (ap (λ y. byte_owns y b o x) (h i (omega arith) (omega arith)))
    (rest-free allocated b (o + 1) (i + 1) xs (λ k low high. h k (omega (arith, low)) (omega (arith, high))))

-- it matters only which of these bytes are allocated
pub rest-same : (allocated allocated' : List Extent) (b o i : ℕ) (xs : List ℕ) → ((k : ℕ) → i ≤ k → k < i + length xs → is_allocated allocated k ≡ is_allocated allocated' k) → rest_owns allocated b o i xs ≡ rest_owns allocated' b o i xs
rest-same allocated allocated' b o i [] h = refl
rest-same allocated allocated' b o i (x ∷ xs) h =
    ap₂ (λ (f g : Fml). fsep f g) (ap (λ y. byte_owns y b o x) (h i (omega arith) (omega arith)))
    (rest-same allocated allocated' b (o + 1) (i + 1) xs (λ k low high. h k (omega (arith, low)) (omega (arith, high))))

module _ {M : Type 1} {𝓤 : Ura M} (𝓛 : Logic 𝓤) where
  abbrev ⟦◌⟧ : Fml → SProp 𝓤
  ⟦ P ⟧ = sem 𝓛 P

  -- where all bytes are allocated, none is owned
  pub rest-gone : (allocated : List Extent) (b o i : ℕ) (xs : List ℕ) → ((k : ℕ) → i ≤ k → k < i + length xs → is_allocated allocated k ≡ true) → ent 𝓤 (emp 𝓤) ⟦ rest_owns allocated b o i xs ⟧
  rest-gone allocated b o i [] h = id⊢ 𝓤 _
  rest-gone allocated b o i (x ∷ xs) h =
      let more : (k : ℕ) → i + 1 ≤ k → k < i + 1 + length xs → is_allocated allocated k ≡ true = λ k low high. h k (omega (arith, low)) (omega (arith, high)) in
      qed 𝓛 [] ∵ use0 𝓛 (‵ (rest_owns allocated b (o + 1) (i + 1) xs)) (rest-gone allocated b (o + 1) (i + 1) xs more) $
      nothing ! $ rewrite ! 0 (λ y. ‵ (byte_owns y b o x)) (sym (h i (omega arith) (omega arith))) refl $ fjoin ! $ done !

  pub rest-cut : (allocated : List Extent) (b o i : ℕ) (xs ys : List ℕ) → ent 𝓤 ⟦ rest_owns allocated b o i (xs ++ ys) ⟧ (sep 𝓤 ⟦ rest_owns allocated b o i xs ⟧ ⟦ rest_owns allocated b (o + length xs) (i + length xs) ys ⟧)
  rest-cut allocated b o i [] ys =
      qed 𝓛 (‵ (rest_owns allocated b o i ys) ∷ []) ∵ rewrite ! 0 (λ k. ‵ (rest_owns allocated b k i ys)) (sym (add-zero o)) refl $
      rewrite ! 0 (λ k. ‵ (rest_owns allocated b (o + 0) k ys)) (sym (add-zero i)) refl $ nothing ! $ done !
  rest-cut allocated b o i (x ∷ xs) ys =
      let e : o + 1 + length xs ≡ o + length (x ∷ xs) = omega arith in
      let f : i + 1 + length xs ≡ i + length (x ∷ xs) = omega arith in
      qed 𝓛 (‵ (rest_owns allocated b o i (x ∷ (xs ++ ys))) ∷ []) ∵ fsplit ! $ move ! (1 ∷ []) $
      use1 𝓛 (‵ (rest_owns allocated b (o + 1) (i + 1) xs) ⊛ ‵ (rest_owns allocated b (o + 1 + length xs) (i + 1 + length xs) ys)) (rest-cut allocated b (o + 1) (i + 1) xs ys) $ split ! $
      move ! (1 ∷ []) $ rewrite ! 0 (λ k. ‵ (rest_owns allocated b k (i + 1 + length xs) ys)) e refl $ rewrite ! 0 (λ k. ‵ (rest_owns allocated b (o + length (x ∷ xs)) k ys)) f refl $
      move ! (2 ∷ 1 ∷ []) $ fjoin ! $ done !

  pub rest-glue : (allocated : List Extent) (b o i : ℕ) (xs ys : List ℕ) → ent 𝓤 (sep 𝓤 ⟦ rest_owns allocated b o i xs ⟧ ⟦ rest_owns allocated b (o + length xs) (i + length xs) ys ⟧) ⟦ rest_owns allocated b o i (xs ++ ys) ⟧
  rest-glue allocated b o i [] ys =
      qed 𝓛 (‵ ftrue ∷ ‵ (rest_owns allocated b (o + 0) (i + 0) ys) ∷ []) ∵ skip ! $ rewrite ! 0 (λ k. ‵ (rest_owns allocated b k (i + 0) ys)) (add-zero o) refl $
      rewrite ! 0 (λ k. ‵ (rest_owns allocated b o k ys)) (add-zero i) refl $ done !
  rest-glue allocated b o i (x ∷ xs) ys =
      let e : o + length (x ∷ xs) ≡ o + 1 + length xs = omega arith in
      let f : i + length (x ∷ xs) ≡ i + 1 + length xs = omega arith in
      qed 𝓛 (‵ (rest_owns allocated b o i (x ∷ xs)) ∷ ‵ (rest_owns allocated b (o + length (x ∷ xs)) (i + length (x ∷ xs)) ys) ∷ []) ∵ fsplit ! $ move ! (2 ∷ []) $
      rewrite ! 0 (λ k. ‵ (rest_owns allocated b k (i + length (x ∷ xs)) ys)) e refl $ rewrite ! 0 (λ k. ‵ (rest_owns allocated b (o + 1 + length xs) k ys)) f refl $
      move ! (2 ∷ 0 ∷ []) $ use2 𝓛 (‵ (rest_owns allocated b (o + 1) (i + 1) (xs ++ ys))) (rest-glue allocated b (o + 1) (i + 1) xs ys) $ move ! (1 ∷ 0 ∷ []) $ fjoin ! $ done !

  module _ (allocated allocated' : List Extent) (b o : ℕ) (front part back : List ℕ) where
    abbrev mid : ℕ
    mid = length front

    abbrev end : ℕ
    end = length front + length part

    abbrev Beside : Type 0
    Beside = (k : ℕ) → (k < mid) ⊎ (end ≤ k) → is_allocated allocated k ≡ is_allocated allocated' k

    -- the bytes of the part are allocated
    pub rest-allocate : Beside → ((k : ℕ) → mid ≤ k → k < end → is_allocated allocated k ≡ false) → ((k : ℕ) → mid ≤ k → k < end → is_allocated allocated' k ≡ true)
        → ent 𝓤 ⟦ rest_owns allocated b o 0 (front ++ (part ++ back)) ⟧ (sep 𝓤 ⟦ rest_owns allocated' b o 0 (front ++ (part ++ back)) ⟧ ⟦ bytes full_share part b (o + mid) ⟧)
    rest-allocate beside free gone =
        let m = o + mid in let n = o + mid + length part in let j = 0 + mid in let l = 0 + mid + length part in
        qed 𝓛 (‵ (rest_owns allocated b o 0 (front ++ (part ++ back))) ∷ []) ∵
        use1 𝓛 (‵ (rest_owns allocated b o 0 front) ⊛ ‵ (rest_owns allocated b m j (part ++ back))) (rest-cut allocated b o 0 front (part ++ back)) $ split ! $ move ! (1 ∷ []) $
        use1 𝓛 (‵ (rest_owns allocated b m j part) ⊛ ‵ (rest_owns allocated b n l back)) (rest-cut allocated b m j part back) $ split ! $
        rewrite ! 0 (λ P. ‵ P) (rest-free allocated b m j part (λ k low high. free k (omega (arith, low)) (omega (arith, high)))) refl $ move ! (1 ∷ []) $
        rewrite ! 0 (λ P. ‵ P) (rest-same allocated allocated' b n l back (λ k low high. beside k (inr (omega (arith, low))))) refl $ move ! (2 ∷ []) $
        rewrite ! 0 (λ P. ‵ P) (rest-same allocated allocated' b o 0 front (λ k low high. beside k (inl (omega (arith, high))))) refl $
        -- [the front; the back; the part]
        use0 𝓛 (‵ (rest_owns allocated' b m j part)) (rest-gone allocated' b m j part (λ k low high. gone k (omega (arith, low)) (omega (arith, high)))) $
        move ! (0 ∷ 2 ∷ []) $ use2 𝓛 (‵ (rest_owns allocated' b m j (part ++ back))) (rest-glue allocated' b m j part back) $
        move ! (1 ∷ 0 ∷ []) $ use2 𝓛 (‵ (rest_owns allocated' b o 0 (front ++ (part ++ back)))) (rest-glue allocated' b o 0 front (part ++ back)) $ done !

  -- the bytes behind the last one join them
  pub rest-append : (allocated : List Extent) (b o : ℕ) (xs ys : List ℕ) → ((k : ℕ) → length xs ≤ k → is_allocated allocated k ≡ false)
      → ent 𝓤 (sep 𝓤 ⟦ rest_owns allocated b o 0 xs ⟧ ⟦ bytes full_share ys b (o + length xs) ⟧) ⟦ rest_owns allocated b o 0 (xs ++ ys) ⟧
  rest-append allocated b o xs ys free =
      let m = o + length xs in let j = 0 + length xs in
      qed 𝓛 (‵ (rest_owns allocated b o 0 xs) ∷ ‵ (bytes full_share ys b m) ∷ []) ∵ move ! (1 ∷ []) $
      rewrite ! 0 (λ P. ‵ P) (sym (rest-free allocated b m j ys (λ k low high. free k (omega (arith, low))))) refl $ move ! (1 ∷ 0 ∷ []) $
      use2 𝓛 (‵ (rest_owns allocated b o 0 (xs ++ ys))) (rest-glue allocated b o 0 xs ys) $ done !

  -- the bytes of the part come back, in the place of as many that were there
  pub rest-deallocate : (allocated allocated' : List Extent) (b o : ℕ) (front old part back : List ℕ) → length old ≡ length part
      → ((k : ℕ) → (k < length front) ⊎ (length front + length part ≤ k) → is_allocated allocated k ≡ is_allocated allocated' k)
      → ((k : ℕ) → length front ≤ k → k < length front + length part → is_allocated allocated' k ≡ false)
      → ent 𝓤 (sep 𝓤 ⟦ rest_owns allocated b o 0 (front ++ (old ++ back)) ⟧ ⟦ bytes full_share part b (o + length front) ⟧) ⟦ rest_owns allocated' b o 0 (front ++ (part ++ back)) ⟧
  rest-deallocate allocated allocated' b o front old part back long beside free =
      let m = o + length front in let j = 0 + length front in
      let e : m + length old ≡ m + length part = ap (λ k. m + k) long in let f : j + length old ≡ j + length part = ap (λ k. j + k) long in
      qed 𝓛 (‵ (rest_owns allocated b o 0 (front ++ (old ++ back))) ∷ ‵ (bytes full_share part b m) ∷ []) ∵
      use1 𝓛 (‵ (rest_owns allocated b o 0 front) ⊛ ‵ (rest_owns allocated b m j (old ++ back))) (rest-cut allocated b o 0 front (old ++ back)) $ split ! $
      rewrite ! 0 (λ P. ‵ P) (rest-same allocated allocated' b o 0 front (λ k low high. beside k (inl (omega (arith, high))))) refl $ move ! (1 ∷ []) $
      use1 𝓛 (‵ (rest_owns allocated b m j old) ⊛ ‵ (rest_owns allocated b (m + length old) (j + length old) back)) (rest-cut allocated b m j old back) $ split ! $ skip ! $
      rewrite ! 0 (λ k. ‵ (rest_owns allocated b k (j + length old) back)) e refl $ rewrite ! 0 (λ k. ‵ (rest_owns allocated b (m + length part) k back)) f refl $
      rewrite ! 0 (λ P. ‵ P) (rest-same allocated allocated' b (m + length part) (j + length part) back (λ k low high. beside k (inr (omega (arith, low))))) refl $
      -- [the back; the front; the part]
      move ! (2 ∷ []) $ rewrite ! 0 (λ P. ‵ P) (sym (rest-free allocated' b m j part (λ k low high. free k (omega (arith, low)) (omega (arith, high))))) refl $
      move ! (0 ∷ 1 ∷ []) $ use2 𝓛 (‵ (rest_owns allocated' b m j (part ++ back))) (rest-glue allocated' b m j part back) $
      move ! (1 ∷ 0 ∷ []) $ use2 𝓛 (‵ (rest_owns allocated' b o 0 (front ++ (part ++ back)))) (rest-glue allocated' b o 0 front (part ++ back)) $ done !

  pub run-out : (p : Ptr) (xs : List ℕ) → ent 𝓤 ⟦ run_owns p xs ⟧ (guard 𝓤 (IsPlaced p) ⟦ bytes full_share xs (block_of p) (count_of p) ⟧)
  run-out null_ptr xs = never_e 𝓤 _
  run-out (block_ptr b o) xs =
      qed 𝓛 (‵ (run_owns (block_ptr b o) xs) ∷ []) ∵ use1 𝓛 (‵ (fsep (feq ℕ (length xs) (length xs)) (bytes full_share xs b o))) (bytes_apart 𝓛 full_share (length xs) xs b o) $
      fsplit ! $ skip ! $ check ! refl $ done !

  pub run-in : (b o : ℕ) (xs : List ℕ) → ent 𝓤 ⟦ bytes full_share xs b o ⟧ ⟦ run_owns (block_ptr b o) xs ⟧
  run-in b o xs =
      qed 𝓛 (‵ (bytes full_share xs b o) ∷ []) ∵ feq_i ! ℕ (length xs) (length xs) refl $ fjoin ! $
      use1 𝓛 (‵ (run_owns (block_ptr b o) xs)) (bytes_whole 𝓛 full_share (length xs) xs b o) $ done !
