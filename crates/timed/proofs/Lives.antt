-- What taking, pushing and replacing leave of the allocated objects.
use Rattle.std.proofs.Common.{◌≡◌, ◌≢◌, ℕ, zero, suc, ◌+◌, ◌<◌, inl, inr, List, [], ◌∷◌, ◌++◌, length, get_or, set, None, IsSome, true, false, refl, sym, ap, subst, ◌∙◌, arith, get_or-set_same, get_or-set_other}
use Rattle.std.proofs.Math.ListN.{length-set}
use Rattle.std.proofs.lemmas.Bool.{cases_eq}
use Rattle.std.proofs.lemmas.List.{length_push, get_or_push}
use Rattle.std.specs.Ordering.{nat_cmp}
use Rattle.std.specs.FinMap as map
use Rattle.common_lemmas.proofs.Maps.{get_past_insert, get_past_remove, inserted_is_some}
use Rattle.timed.specs.Live.{AreLive}

some_not_none : (m : map.FinMap nat_cmp ℕ) (p q : ℕ) → IsSome (map.get m p) → map.get m q ≡ None → p ≢ q
some_not_none m p q some none e = (let clash : false ≡ true = subst IsSome (ap (map.get m) e ∙ none) some in cc)

pub taken_live : (allocated allocated' : map.FinMap nat_cmp ℕ) (places : List ℕ) (place size : ℕ) → AreLive allocated places → map.get allocated place ≡ None → allocated' ≡ map.insert allocated place size
    → ((i : ℕ) → i < length places → get_or places i 0 ≢ place) × AreLive allocated' places × IsSome (map.get allocated' place)
taken_live allocated allocated' places place size h free e =
    let other : (i : ℕ) → i < length places → get_or places i 0 ≢ place = λ i l. some_not_none allocated (get_or places i 0) place (h.allocated_at i l) free in (
      other,
      record { allocated_at = λ i l. subst IsSome (sym (ap (λ m. map.get m (get_or places i 0)) e ∙ get_past_insert allocated place size (get_or places i 0) (other i l))) (h.allocated_at i l); distinct = h.distinct },
      subst (λ m. IsSome (map.get m place)) (sym e) (inserted_is_some allocated place size),
    )

pub replaced_live : (allocated allocated' : map.FinMap nat_cmp ℕ) (places : List ℕ) (place index : ℕ) → AreLive allocated places → IsSome (map.get allocated place) → ((i : ℕ) → i < length places → get_or places i 0 ≢ place)
    → index < length places → allocated' ≡ map.remove allocated (get_or places index 0) → AreLive allocated' (set places index place)
replaced_live allocated allocated' places place index h some other inside e =
    let len = length-set places index place in
    let same : (i : ℕ) → i ≡ index → get_or (set places index place) i 0 ≡ place = λ i q. ap (λ z. get_or (set places index place) z 0) q ∙ get_or-set_same places index place 0 inside in
    let past : (i : ℕ) → i ≢ index → get_or (set places index place) i 0 ≡ get_or places i 0 = λ i q. get_or-set_other places index i place 0 q in
    let stays : (p : ℕ) → p ≢ get_or places index 0 → IsSome (map.get allocated p) → IsSome (map.get allocated' p) = λ p n s. subst IsSome (sym (ap (λ m. map.get m p) e ∙ get_past_remove allocated (get_or places index 0) p n)) s in
    record {
      allocated_at = λ i l. elim (cases_eq i index) [
        | inl q ↦ subst (λ p. IsSome (map.get allocated' p)) (sym (same i q)) (stays place (λ z. other index inside (sym z)) some)
        | inr q ↦ subst (λ p. IsSome (map.get allocated' p)) (sym (past i q)) (stays (get_or places i 0) (h.distinct i index (omega arith) inside q) (h.allocated_at i (omega arith)))
      ];
      distinct = λ i j li lj d. elim (cases_eq i index) [
        | inl q ↦ (λ z. other j (omega arith) (sym (past j (λ y. d (q ∙ sym y))) ∙ sym z ∙ same i q))
        | inr q ↦ elim (cases_eq j index) [
          | inl y ↦ (λ z. other i (omega arith) (sym (past i q) ∙ z ∙ same j y))
          | inr y ↦ (λ z. h.distinct i j (omega arith) (omega arith) d (sym (past i q) ∙ z ∙ past j y))
        ]
      ];
    }

front_read : (xs : List ℕ) (y i : ℕ) → i < length xs → get_or (xs ++ y ∷ []) i 0 ≡ get_or xs i 0
front_read [] y i l = absurd (omega arith)
front_read (x ∷ xs) y zero l = refl
front_read (x ∷ xs) y (suc i) l = front_read xs y i (omega arith)

end_read : (xs : List ℕ) (y i : ℕ) → i ≡ length xs → get_or (xs ++ y ∷ []) i 0 ≡ y
end_read xs y i e = get_or_push xs y 0 i (sym e)

pub pushed_live : (allocated : map.FinMap nat_cmp ℕ) (places places' : List ℕ) (place : ℕ) → AreLive allocated places → IsSome (map.get allocated place) → ((i : ℕ) → i < length places → get_or places i 0 ≢ place)
    → places' ≡ places ++ place ∷ [] → AreLive allocated places'
pushed_live allocated places places' place h some other e = subst (AreLive allocated) (sym e)
    (let len = length_push places place in
    record {
      allocated_at = λ i l. elim (cases_eq i (length places)) [
        | inl q ↦ subst (λ p. IsSome (map.get allocated p)) (sym (end_read places place i q)) some
        | inr q ↦ subst (λ p. IsSome (map.get allocated p)) (sym (front_read places place i (omega arith))) (h.allocated_at i (omega arith))
      ];
      distinct = λ i j li lj d. elim (cases_eq i (length places)) [
        | inl q ↦ (λ z. other j (omega arith) (sym (front_read places place j (omega arith)) ∙ sym z ∙ end_read places place i q))
        | inr q ↦ elim (cases_eq j (length places)) [
          | inl y ↦ (λ z. other i (omega arith) (sym (front_read places place i (omega arith)) ∙ z ∙ end_read places place j y))
          | inr y ↦ (λ z. h.distinct i j (omega arith) (omega arith) d (sym (front_read places place i (omega arith)) ∙ z ∙ front_read places place j (omega arith)))
        ]
      ];
    })

pub none_live : (allocated : map.FinMap nat_cmp ℕ) (places : List ℕ) → places ≡ [] → AreLive allocated places
none_live allocated places e = subst (AreLive allocated) (sym e) (record { allocated_at = λ i l. absurd (omega arith); distinct = λ i j l. absurd (omega arith) })
