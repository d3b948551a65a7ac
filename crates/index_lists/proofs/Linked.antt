-- What a push and a removal leave of lists that are linked.
use Rattle.std.proofs.Common.{◌≡◌, ◌≢◌, ℕ, ◌+◌, ◌-◌, ◌<◌, ◌≤◌, ◌^◌, ◌⊎◌, inl, inr, List, [], ◌∷◌, ◌++◌, length, length-append, get_or, set, replicate, max, refl, sym, ap, subst, ◌∙◌, arith, get_or-set_other, get_or-set_same}
use Rattle.std.proofs.Math.ListN.{length-set}
use Rattle.std.proofs.lemmas.List.{get_or-replicate, get_or-append_right, length-replicate, get_or_read}
use Rattle.std.proofs.lemmas.List.FromFn.{length-range_with_len, get_or-range_with_len}
use Rattle.std.specs.List.{range_with_len}
use Rattle.std.proofs.lemmas.Bool.{cases_eq}
use Rattle.index_lists.specs.Lists.{Lists, list_at, IsAbsent}
use Rattle.common_lemmas.proofs.Orders.{lt_or_ge}
use Rattle.common_lemmas.specs.Lists.{times, delete}
use Rattle.index_lists.specs.inside.Links.{Path, IsConsistent, rings_from, OneWay, number, number_of, with_link, reaching, AreBelow, AreLinked}
use Rattle.index_lists.proofs.InMemory.{number_list, place_is_list, place_is_index}
use Rattle.common_lemmas.proofs.Counts.{times_here, times_there, times-delete_same, times-delete_other, length-delete, length_below}
use Rattle.index_lists.proofs.Paths.{last_held, keeps_path, front_path, next_on_path, prev_on_path, path-delete, rings_of_paths}

-- what holds at a place that is written and at each other one holds at each
pub each_set : {A : Type 0} (P : ℕ → A → Type 0) (l : List A) (k : ℕ) (v d : A) → k < length l → P k v → ((j : ℕ) → j < length l → j ≢ k → P j (get_or l j d)) → (j : ℕ) → j < length (set l k v) → P j (get_or (set l k v) j d)
each_set P l k v d inside here others j h =
    let within : j < length l = subst (λ m. j < m) (length-set l k v) h in
    elim (cases_eq j k) [
      | inl e ↦ subst (λ i. P i (get_or (set l k v) i d)) (sym e) (subst (P k) (sym (get_or-set_same l k v d inside)) here)
      | inr n ↦ subst (P j) (sym (get_or-set_other l k j v d n)) (others j within n)
    ]

pub same_rings : (n : ℕ) (next prev ns : List ℕ) (lists : List (List ℕ)) → IsConsistent n next prev ns lists → rings_from n next ns ≡ lists
same_rings n next prev ns lists h = rings_of_paths n next prev ns lists h.lengths_len h.lens h.rings

-- links that are right for a list in place of another
relinked : (n : ℕ) (next prev ns next' prev' ns' : List ℕ) (lists : List (List ℕ)) (k : ℕ) (xs : List ℕ) → IsConsistent n next prev ns lists → k < length lists
    → length next' ≡ length next → length prev' ≡ length prev → length ns' ≡ length ns
    → get_or ns' k 0 ≡ length xs → ((j : ℕ) → j ≢ k → get_or ns' j 0 ≡ get_or ns j 0)
    → Path next' prev' (n + k) xs (n + k) → ((j : ℕ) → j < length lists → j ≢ k → Path next' prev' (n + j) (get_or lists j []) (n + j))
    → ((z : ℕ) → times z xs ≤ 1) → ((z j : ℕ) → 1 ≤ times z xs → j < length lists → j ≢ k → times z (get_or lists j []) ≡ 0) → ((z : ℕ) → n ≤ z → times z xs ≡ 0)
    → IsConsistent n next' prev' ns' (set lists k xs)
relinked n next prev ns next' prev' ns' lists k xs h inside en ep el here there ring others single apart below =
    let same : length (set lists k xs) ≡ length lists = length-set lists k xs in
    let narrow : (j : ℕ) → j < length (set lists k xs) → j < length lists = (λ j q. subst (λ m. j < m) same q) in
    record {
      next_len = en ∙ h.next_len ∙ ap (λ m. n + m) (sym same);
      prev_len = ep ∙ h.prev_len ∙ ap (λ m. n + m) (sym same);
      lengths_len = el ∙ h.lengths_len ∙ sym same;
      small = subst (λ m. n + m < 2 ^ 32) (sym same) h.small;
      lens = each_set (λ j ys. get_or ns' j 0 ≡ length ys) lists k xs [] inside here (λ j q d. there j d ∙ h.lens j q);
      rings = each_set (λ j ys. Path next' prev' (n + j) ys (n + j)) lists k xs [] inside ring others;
      single = λ j z q. each_set (λ i ys. times z ys ≤ 1) lists k xs [] inside (single z) (λ i p d. h.single i z p) j q;
      on_one = λ i j z qi qj d.
          each_set (λ a ys. a ≢ j → 1 ≤ times z ys → times z (get_or (set lists k xs) j []) ≡ 0) lists k xs [] inside
          (λ kj held. each_set (λ b ys. k ≢ b → times z ys ≡ 0) lists k xs [] inside (λ no. absurd (no refl)) (λ b p e _. apart z b held p e) j qj kj)
          (λ a p e aj held. each_set (λ b ys. a ≢ b → times z ys ≡ 0) lists k xs [] inside
          (λ _. elim (cases_eq (times z xs) 0) [ inl none ↦ none | inr some ↦ absurd (let none = apart z a (omega arith) p e in omega (arith, none, held)) ])
          (λ b pb eb ab. h.on_one a b z p pb ab held) j qj aj)
          i qi d;
      inside = λ j z q. each_set (λ i ys. n ≤ z → times z ys ≡ 0) lists k xs [] inside (below z) (λ i p d. h.inside i z p) j q;
    }

-- a place of the ring of k is within the arrays, and on no other ring
on_ring : (n : ℕ) (next prev ns : List ℕ) (lists : List (List ℕ)) (k y : ℕ) → IsConsistent n next prev ns lists → k < length lists
    → (y ≡ n + k) ⊎ (1 ≤ times y (get_or lists k [])) → (y < n + length lists) × ((j : ℕ) → j < length lists → j ≢ k → (y ≢ n + j) × (times y (get_or lists j []) ≡ 0))
on_ring n next prev ns lists k y h inside (inl e) =
    (omega arith, λ j q d. ((λ s. d (omega arith)), h.inside j y q (omega arith)))
on_ring n next prev ns lists k y h inside (inr held) =
    let below : y < n = elim (lt_or_ge y n) [ inl l ↦ l | inr g ↦ absurd (let none = h.inside k y inside g in omega (arith, none, held)) ] in
    (omega arith, λ j q d. ((λ s. absurd (omega arith)), h.on_one k j y inside q (λ s. d (sym s)) held))

first_on_path : (next prev : List ℕ) (a : ℕ) (xs : List ℕ) (b : ℕ) → Path next prev a xs b → (get_or next a 0 ≡ b) ⊎ (1 ≤ times (get_or next a 0) xs)
first_on_path next prev a [] b p = inl p.0
first_on_path next prev a (y ∷ ys) b p = inr (subst (λ z. 1 ≤ times z (y ∷ ys)) (sym p.0) (let t = times_here y ys in omega (arith, t)))

pub linked_push : (n : ℕ) (next prev ns : List ℕ) (lists : List (List ℕ)) (k x : ℕ) → IsConsistent n next prev ns lists → k < length lists → x < n → ((j : ℕ) → j < length lists → times x (get_or lists j []) ≡ 0)
    → IsConsistent n (set (set next x (get_or next (n + k) 0)) (n + k) x) (set (set prev (get_or next (n + k) 0) x) x (n + k)) (set ns k (get_or ns k 0 + 1)) (set lists k (x ∷ get_or lists k []))
linked_push n next prev ns lists k x h inside below absent =
    let xs = get_or lists k [] in
    let s = n + k in
    let f = get_or next (n + k) 0 in
    let ring = h.rings k inside in
    let f_at = on_ring n next prev ns lists k f h inside (first_on_path next prev s xs s ring) in
    let nl = h.next_len in
    let pl = h.prev_len in
    let ll = h.lengths_len in
    let single : (z : ℕ) → times z xs ≤ 1 = λ z. h.single k z inside in
    let none_x : times x xs ≡ 0 = absent k inside in
    let none_s : times s xs ≡ 0 = h.inside k s inside (omega arith) in
    let len1 = length-set next x f in
    let len2 = length-set prev f x in
    let x_s : x ≢ s = (λ e. absurd (omega arith)) in
    let s_x : s ≢ x = (λ e. absurd (omega arith)) in
    let front = front_path next prev s xs s x (omega arith) (subst (λ m. f < m) (sym pl) f_at.0) none_x none_s single ring in
    relinked n next prev ns _ _ _ lists k (x ∷ xs) h inside
    (length-set (set next x f) s x ∙ len1) (length-set (set prev f x) x s ∙ len2) (length-set ns k _)
    (get_or-set_same ns k _ 0 (omega arith) ∙ (let l = h.lens k inside in omega (arith, l)))
    (λ j d. get_or-set_other ns k j _ 0 d) (
      get_or-set_same (set next x f) s x 0 (omega arith),
      get_or-set_same (set prev f x) x s 0 (omega arith),
      keeps_path (set next x f) (set prev f x) x xs s s x x s s_x none_s x_s none_x front,
    )
    (λ j q d. (let apart = f_at.1 j q d in
    keeps_path (set next x f) (set prev f x) (n + j) (get_or lists j []) (n + j) s x x s (λ e. d (omega arith)) (h.inside j s q (omega arith)) (λ e. absurd (omega arith)) (absent j q)
    (keeps_path next prev (n + j) (get_or lists j []) (n + j) x f f x (λ e. absurd (omega arith)) (absent j q) apart.0 apart.1 (h.rings j q))))
    (λ z. elim (cases_eq x z) [
      | inl e ↦ subst (λ w. times w (x ∷ xs) ≤ 1) e (let t = times_here x xs in omega (arith, t, none_x))
      | inr e ↦ (let t = times_there z x xs e in let o = single z in omega (arith, t, o))
    ])
    (λ z j held q d. elim (cases_eq x z) [
      | inl e ↦ subst (λ w. times w (get_or lists j []) ≡ 0) e (absent j q)
      | inr e ↦ h.on_one k j z inside q (λ w. d (sym w)) (let t = times_there z x xs e in omega (arith, t, held))
    ])
    (λ z g. times_there z x xs (λ e. absurd (omega arith)) ∙ h.inside k z inside g)

pub linked_remove : (n : ℕ) (next prev ns : List ℕ) (lists : List (List ℕ)) (k x : ℕ) → IsConsistent n next prev ns lists → k < length lists → 1 ≤ times x (get_or lists k [])
    → IsConsistent n (set next (get_or prev x 0) (get_or next x 0)) (set prev (get_or next x 0) (get_or prev x 0)) (set ns k (get_or ns k 0 - 1)) (set lists k (delete x (get_or lists k [])))
linked_remove n next prev ns lists k x h inside held =
    let xs = get_or lists k [] in
    let s = n + k in
    let p = get_or prev x 0 in
    let q = get_or next x 0 in
    let ring = h.rings k inside in
    let p_at = on_ring n next prev ns lists k p h inside (prev_on_path next prev s xs s x ring held) in
    let q_at = on_ring n next prev ns lists k q h inside (next_on_path next prev s xs s x ring held) in
    let nl = h.next_len in
    let pl = h.prev_len in
    let ll = h.lengths_len in
    let single : (z : ℕ) → times z xs ≤ 1 = λ z. h.single k z inside in
    let none_s : times s xs ≡ 0 = h.inside k s inside (omega arith) in
    let fewer : (z : ℕ) → times z (delete x xs) ≤ times z xs = (λ z. elim (cases_eq z x) [
      | inl e ↦ subst (λ w. times w (delete x xs) ≤ times w xs) (sym e) (let t = times-delete_same x xs held in omega (arith, t))
      | inr e ↦ (let t = times-delete_other z x xs e in omega (arith, t))
    ]) in
    relinked n next prev ns _ _ _ lists k (delete x xs) h inside
    (length-set next p q) (length-set prev q p) (length-set ns k _)
    (get_or-set_same ns k _ 0 (omega arith) ∙ (let l = h.lens k inside in let w = length-delete x xs held in omega (arith, l, w)))
    (λ j d. get_or-set_other ns k j _ 0 d)
    (path-delete next prev s xs s x (subst (λ m. p < m) (sym nl) p_at.0) (subst (λ m. q < m) (sym pl) q_at.0) none_s none_s single held ring)
    (λ j i d. (let pa = p_at.1 j i d in let qa = q_at.1 j i d in
    keeps_path next prev (n + j) (get_or lists j []) (n + j) p q q p pa.0 pa.1 qa.0 qa.1 (h.rings j i)))
    (λ z. (let l = fewer z in let o = single z in omega (arith, l, o)))
    (λ z j here i d. h.on_one k j z inside i (λ w. d (sym w)) (let l = fewer z in omega (arith, l, here)))
    (λ z g. (let l = fewer z in let o = h.inside k z inside g in omega (arith, l, o)))

-- links of which each list's leads to itself link empty lists
pub linked_empty : (n m : ℕ) (next prev ns : List ℕ) → length next ≡ n + m → length prev ≡ n + m → length ns ≡ m → n + m < 2 ^ 32
    → ((k : ℕ) → k < m → get_or next (n + k) 0 ≡ n + k) → ((k : ℕ) → k < m → get_or prev (n + k) 0 ≡ n + k) → ((k : ℕ) → k < m → get_or ns k 0 ≡ 0)
    → IsConsistent n next prev ns (replicate m [])
linked_empty n m next prev ns en ep el small at_next at_prev at_len =
    let same : length (replicate {A = List ℕ} m []) ≡ m = length-replicate m [] in
    let narrow : (j : ℕ) → j < length (replicate {A = List ℕ} m []) → j < m = (λ j q. subst (λ t. j < t) same q) in
    let empty : (j : ℕ) → j < length (replicate {A = List ℕ} m []) → get_or (replicate m []) j [] ≡ [] = (λ j q. get_or-replicate m j [] [] (narrow j q)) in
    record {
      next_len = en ∙ ap (λ t. n + t) (sym same);
      prev_len = ep ∙ ap (λ t. n + t) (sym same);
      lengths_len = el ∙ sym same;
      small = subst (λ t. n + t < 2 ^ 32) (sym same) small;
      lens = λ k q. subst (λ ys. get_or ns k 0 ≡ length ys) (sym (empty k q)) (at_len k (narrow k q));
      rings = λ k q. subst (λ ys. Path next prev (n + k) ys (n + k)) (sym (empty k q)) (at_next k (narrow k q), at_prev k (narrow k q));
      single = λ k x q. subst (λ ys. times x ys ≤ 1) (sym (empty k q)) (omega arith);
      on_one = λ j k x p q d held. subst (λ ys. times x ys ≡ 0) (sym (empty k q)) refl;
      inside = λ k x q g. subst (λ ys. times x ys ≡ 0) (sym (empty k q)) refl;
    }

pub held_within : (n : ℕ) (next prev ns : List ℕ) (k x : ℕ) → IsConsistent n next prev ns (rings_from n next ns) → k < length (rings_from n next ns) → 1 ≤ times x (get_or (rings_from n next ns) k []) → x < n
held_within n next prev ns k x h inside held =
    elim (lt_or_ge x n) [ inl l ↦ l | inr g ↦ absurd (let none = h.inside k x inside g in omega (arith, none, held)) ]

-- ---- the same of the lists that the links say, as the code reads them

abbrev pub lists_of : ℕ → List ℕ → List ℕ → Lists
lists_of n next ns = record { indices = n; lists = rings_from n next ns }

pub lists_are : (n : ℕ) (next prev ns : List ℕ) (lists : List (List ℕ)) → IsConsistent n next prev ns lists → lists_of n next ns ≡ record { indices = n; lists = lists }
lists_are n next prev ns lists h = ap (λ l. let r : Lists = record { indices = n; lists = l } in r) (same_rings n next prev ns lists h)

-- the two links that a push writes
pub pushed : (n : ℕ) (next prev ns next' prev' next'' prev'' : List ℕ) (k x f m : ℕ) → IsConsistent n next prev ns (rings_from n next ns) → k < length (rings_from n next ns) → x < n → IsAbsent (lists_of n next ns) x
    → f ≡ get_or next (n + k) 0 → m ≡ get_or ns k m → next' ≡ set next x f → prev' ≡ set prev f x → next'' ≡ set next' (n + k) x → prev'' ≡ set prev' x (n + k)
    → IsConsistent n next'' prev'' (set ns k (m + 1)) (set (rings_from n next ns) k (x ∷ get_or (rings_from n next ns) k []))
pushed n next prev ns next' prev' next'' prev'' k x f m h inside below absent fe me en ep enn epp =
    let ll = h.lengths_len in
    let m_is = get_or_read ns k m (omega arith) me 0 in
    let to : List (List ℕ) = set (rings_from n next ns) k (x ∷ get_or (rings_from n next ns) k []) in
    let linked = linked_push n next prev ns (rings_from n next ns) k x h inside below absent in
    let front = subst (λ g. IsConsistent n (set (set next x g) (n + k) x) (set (set prev g x) x (n + k)) (set ns k (get_or ns k 0 + 1)) to) (sym fe) linked in
    let count = subst (λ l. IsConsistent n (set (set next x f) (n + k) x) (set (set prev f x) x (n + k)) (set ns k (l + 1)) to) (sym m_is) front in
    subst (λ l. IsConsistent n l prev'' (set ns k (m + 1)) to) (sym (enn ∙ ap (λ l. set l (n + k) x) en))
    (subst (λ l. IsConsistent n (set (set next x f) (n + k) x) l (set ns k (m + 1)) to) (sym (epp ∙ ap (λ l. set l x (n + k)) ep)) count)

pub length_within : (n : ℕ) (next prev ns : List ℕ) (k m : ℕ) → IsConsistent n next prev ns (rings_from n next ns) → k < length (rings_from n next ns) → m ≡ get_or ns k m → m + 1 < 2 ^ 32
length_within n next prev ns k m h inside me =
    let ll = h.lengths_len in let small = h.small in
    let m_is = get_or_read ns k m (omega arith) me 0 in
    let l = h.lens k inside in
    let short = length_below n (get_or (rings_from n next ns) k []) (λ z. h.single k z inside) (λ z g. h.inside k z inside g) in
    omega (arith, l, m_is, short)

-- the link that a removal writes, and the count
pub removed : (n : ℕ) (next prev ns next' prev' ns' : List ℕ) (k x p q : ℕ) → IsConsistent n next prev ns (rings_from n next ns) → k < length (rings_from n next ns) → 1 ≤ times x (list_at (lists_of n next ns) k)
    → p ≡ get_or prev x 0 → q ≡ get_or next x 0 → next' ≡ set next p q → prev' ≡ set prev q p → ns' ≡ set ns k (get_or ns k 0 - 1)
    → IsConsistent n next' prev' ns' (set (rings_from n next ns) k (delete x (get_or (rings_from n next ns) k [])))
removed n next prev ns next' prev' ns' k x p q h inside held pe qe en ep el =
    let to : List (List ℕ) = set (rings_from n next ns) k (delete x (get_or (rings_from n next ns) k [])) in
    let linked = linked_remove n next prev ns (rings_from n next ns) k x h inside held in
    let before = subst (λ z. IsConsistent n (set next z (get_or next x 0)) (set prev (get_or next x 0) z) (set ns k (get_or ns k 0 - 1)) to) (sym pe) linked in
    let behind = subst (λ z. IsConsistent n (set next p z) (set prev z p) (set ns k (get_or ns k 0 - 1)) to) (sym qe) before in
    subst (λ l. IsConsistent n l prev' ns' to) (sym en) (subst (λ l. IsConsistent n (set next p q) l ns' to) (sym ep) (subst (λ l. IsConsistent n (set next p q) (set prev q p) l to) (sym el) behind))

pub some_length : (n : ℕ) (next prev ns : List ℕ) (k x : ℕ) → IsConsistent n next prev ns (rings_from n next ns) → k < length (rings_from n next ns) → 1 ≤ times x (list_at (lists_of n next ns) k) → 1 ≤ get_or ns k 0
some_length n next prev ns k x h inside held =
    let l = h.lens k inside in
    let w = length-delete x (get_or (rings_from n next ns) k []) held in
    omega (arith, l, w)

pub linked_new : (n m v : ℕ) (next prev ns : List ℕ) → next ≡ replicate n v ++ range_with_len n m → prev ≡ replicate n v ++ range_with_len n m → ns ≡ replicate m 0 → n + m < 2 ^ 32 → IsConsistent n next prev ns (replicate m [])
linked_new n m v next prev ns en ep el small =
    let len : (xs : List ℕ) → xs ≡ replicate n v ++ range_with_len n m → length xs ≡ n + m =
    (λ xs e. ap length e ∙ (let a = length-append (replicate n v) (range_with_len n m) in let r = length-replicate {A = ℕ} n v in let s = length-range_with_len n m in omega (arith, a, r, s))) in
    let at : (xs : List ℕ) → xs ≡ replicate n v ++ range_with_len n m → (k : ℕ) → k < m → get_or xs (n + k) 0 ≡ n + k =
    (λ xs e k h. ap (λ l. get_or l (n + k) 0) e ∙ get_or-append_right (replicate n v) (range_with_len n m) n (n + k) 0 (length-replicate n v) (omega arith)
    ∙ get_or-range_with_len n m (n + k - n) 0 (omega arith) ∙ omega arith) in
    linked_empty n m next prev ns (len next en) (len prev ep) (ap length el ∙ length-replicate m 0) small
    (at next en) (at prev ep) (λ k h. ap (λ l. get_or l k 0) el ∙ get_or-replicate m k 0 0 h)

-- ---- which links are written

-- what a push and a removal leave of indices below a number
below_push : (end x k : ℕ) (lists : List (List ℕ)) → AreBelow end lists → k < length lists → AreBelow (max end (x + 1)) (set lists k (x ∷ get_or lists k []))
below_push end x k lists low inside = λ j z q. each_set (λ i ys. 1 ≤ times z ys → z < max end (x + 1)) lists k (x ∷ get_or lists k []) [] inside
    (λ held. elim (cases_eq x z) [
      | inl e ↦ omega (arith, e)
      | inr d ↦ (let t = times_there z x (get_or lists k []) d in let l = low k z inside (omega (arith, t, held)) in omega (arith, l))
    ])
    (λ i p d held. (let l = low i z p held in omega (arith, l))) j q

below_delete : (end x k : ℕ) (lists : List (List ℕ)) → AreBelow end lists → k < length lists → 1 ≤ times x (get_or lists k []) → AreBelow end (set lists k (delete x (get_or lists k [])))
below_delete end x k lists low inside there = λ j z q. each_set (λ i ys. 1 ≤ times z ys → z < end) lists k (delete x (get_or lists k [])) [] inside
    (λ held. low k z inside (elim (cases_eq z x) [
      | inl e ↦ subst (λ w. 1 ≤ times w (get_or lists k [])) (sym e) there
      | inr d ↦ (let t = times-delete_other z x (get_or lists k []) d in omega (arith, t, held))
    ]))
    (λ i p d held. low i z p held) j q

below_none : (end m : ℕ) → AreBelow end (replicate m [])
below_none end m = λ k x q held. absurd (let none : get_or (replicate m []) k [] ≡ [] = get_or-replicate m k [] [] (subst (λ t. k < t) (length-replicate {A = List ℕ} m []) q) in let zero_is : times x (get_or (replicate m []) k []) ≡ 0 = ap (times x) none in omega (arith, zero_is, held))

-- ways of as many lists and indices number places alike
same_number : (a b : OneWay) (p : ℕ) → a.lists ≡ b.lists → a.indices ≡ b.indices → number a p ≡ number b p
same_number a b p lists indices = ap (λ m. number_of m a.indices p) lists ∙ ap (λ n. number_of b.lists n p) indices

-- the number of a list's place
sentinel_is : (l : OneWay) (n k : ℕ) → k < l.lists → l.indices ≡ n → number l k ≡ n + k
sentinel_is l n k low same = number_list l.lists l.indices k low ∙ ap (λ i. i + k) same

-- the link at each place of a ring is written
ring_place : (n : ℕ) (l : OneWay) (lists : List (List ℕ)) (end k f : ℕ) → l.indices ≡ n → l.lists ≡ length lists → k < length lists → AreBelow end lists → ((z : ℕ) → n ≤ z → times z (get_or lists k []) ≡ 0)
    → (number l f ≡ n + k) ⊎ (1 ≤ times (number l f) (get_or lists k [])) → f < length lists + end
ring_place n l lists end k f indices count inside low outside (inl e) =
    (let at = place_is_list l.lists l.indices f k (omega (arith, count, inside)) (e ∙ ap (λ i. i + k) (sym indices)) in omega (arith, at, inside))
ring_place n l lists end k f indices count inside low outside (inr held) =
    let below = low k (number l f) inside held in
    let index : number l f < n = elim (lt_or_ge (number l f) n) [ inl b ↦ b | inr g ↦ absurd (let none = outside (number l f) g in omega (arith, none, held)) ] in
    let at = place_is_index l.lists l.indices f (omega (arith, index, indices)) in
    let is = at.2 in let high = at.0 in omega (arith, is, high, below, count)

-- where a link of a ring leads, as it is read
pub ring_end : (n : ℕ) (l : OneWay) (lists : List (List ℕ)) (k q : ℕ) → l.indices ≡ n → ((z : ℕ) → n ≤ z → times z (get_or lists k []) ≡ 0) → (q ≡ n + k) ⊎ (1 ≤ times q (get_or lists k [])) → (q < l.indices) ⊎ (q ≡ l.indices + k)
ring_end n l lists k q indices outside (inl e) = inr (omega (arith, e, indices))
ring_end n l lists k q indices outside (inr held) = inl (elim (lt_or_ge q n) [ inl b ↦ (omega (arith, b, indices)) | inr g ↦ absurd (let none = outside q g in omega (arith, none, held)) ])

pub keeps_linked : (n : ℕ) (next prev : OneWay) (ns : List ℕ) (lists : List (List ℕ)) → AreLinked n next prev ns lists → AreLinked n next prev ns (rings_from n next.links ns)
keeps_linked n next prev ns lists h = subst (AreLinked n next prev ns) (sym (same_rings n next.links prev.links ns lists h.consistent)) h

pub all_new : (n m : ℕ) (next prev : OneWay) (ns : List ℕ) → IsConsistent n next.links prev.links ns (replicate m []) → next.indices ≡ n → prev.indices ≡ n → next.lists ≡ m → prev.lists ≡ m → AreLinked n next prev ns (replicate m [])
all_new n m next prev ns consistent en ep mn mp =
    let same : length (replicate {A = List ℕ} m []) ≡ m = length-replicate m [] in
    record { consistent = consistent; next_indices = en; prev_indices = ep; next_lists = mn ∙ sym same; prev_lists = mp ∙ sym same; next_written = below_none next.written m; prev_written = below_none prev.written m }

-- ---- reads

module _ (n : ℕ) (next prev : OneWay) (ns : List ℕ) (h : AreLinked n next prev ns (rings_from n next.links ns)) (k : ℕ) (inside : k < length (rings_from n next.links ns)) where
  pub next_sentinel : number next k ≡ n + k
  next_sentinel = sentinel_is next n k (let m = h.next_lists in omega (arith, m, inside)) h.next_indices

  pub prev_sentinel : number prev k ≡ n + k
  prev_sentinel = sentinel_is prev n k (let m = h.prev_lists in omega (arith, m, inside)) h.prev_indices

  pub front_read : (f : ℕ) → number next f ≡ get_or next.links (number next k) 0 → number next f ≡ get_or next.links (n + k) 0
  front_read f e = e ∙ ap (λ i. get_or next.links i 0) next_sentinel

  pub back_read : (f : ℕ) → number prev f ≡ get_or prev.links (number prev k) 0 → number prev f ≡ get_or prev.links (n + k) 0
  back_read f e = e ∙ ap (λ i. get_or prev.links i 0) prev_sentinel

  pub front_end : (q : ℕ) → q ≡ get_or next.links (n + k) 0 → (q < next.indices) ⊎ (q ≡ next.indices + k)
  front_end q e = ring_end n next _ k q h.next_indices (λ z g. h.consistent.inside k z inside g)
      (subst (λ y. (y ≡ n + k) ⊎ (1 ≤ times y (get_or (rings_from n next.links ns) k []))) (sym e) (first_on_path next.links prev.links (n + k) _ (n + k) (h.consistent.rings k inside)))

  pub back_end : (q : ℕ) → q ≡ get_or prev.links (n + k) 0 → (q < prev.indices) ⊎ (q ≡ prev.indices + k)
  back_end q e = ring_end n prev (rings_from n next.links ns) k q h.prev_indices (λ z g. h.consistent.inside k z inside g)
      (subst (λ y. (y ≡ n + k) ⊎ (1 ≤ times y (get_or (rings_from n next.links ns) k []))) (sym e) (last_held next.links prev.links (n + k) _ (n + k) (h.consistent.rings k inside)))

  pub after_end : (x q : ℕ) → 1 ≤ times x (list_at (lists_of n next.links ns) k) → q ≡ get_or next.links x 0 → (q < next.indices) ⊎ (q ≡ next.indices + k)
  after_end x q held e = ring_end n next _ k q h.next_indices (λ z g. h.consistent.inside k z inside g)
      (subst (λ y. (y ≡ n + k) ⊎ (1 ≤ times y (get_or (rings_from n next.links ns) k []))) (sym e) (next_on_path next.links prev.links (n + k) _ (n + k) x (h.consistent.rings k inside) held))

  pub before_end : (x q : ℕ) → 1 ≤ times x (list_at (lists_of n next.links ns) k) → q ≡ get_or prev.links x 0 → (q < prev.indices) ⊎ (q ≡ prev.indices + k)
  before_end x q held e = ring_end n prev (rings_from n next.links ns) k q h.prev_indices (λ z g. h.consistent.inside k z inside g)
      (subst (λ y. (y ≡ n + k) ⊎ (1 ≤ times y (get_or (rings_from n next.links ns) k []))) (sym e) (prev_on_path next.links prev.links (n + k) _ (n + k) x (h.consistent.rings k inside) held))

-- ---- a push, step by step

module _ (n : ℕ) (next prev : OneWay) (ns : List ℕ) (h : AreLinked n next prev ns (rings_from n next.links ns)) (k x : ℕ) (inside : k < length (rings_from n next.links ns)) (below : x < n) where
  -- where the first index of the list is read
  pub first_is : (l : OneWay) (f : ℕ) → l ≡ reaching next (x + 1) → number l f ≡ get_or l.links (number l k) 0 → number next f ≡ get_or next.links (n + k) 0
  first_is l f e fe = front_read n next prev ns h k inside f (subst (λ (w : OneWay). number w f ≡ get_or w.links (number w k) 0) e fe)

  pub first_written : (l p : OneWay) (f : ℕ) → l ≡ reaching next (x + 1) → p ≡ reaching prev (x + 1) → number l f ≡ get_or l.links (number l k) 0 → f < p.lists + p.written
  first_written l p f e pe fe =
      let found = subst (λ y. (y ≡ n + k) ⊎ (1 ≤ times y (get_or (rings_from n next.links ns) k []))) (sym (first_is l f e fe)) (first_on_path next.links prev.links (n + k) _ (n + k) (h.consistent.rings k inside)) in
      let low = ring_place n next _ prev.written k f h.next_indices h.next_lists inside h.prev_written (λ z g. h.consistent.inside k z inside g) found in
      let w = ap (λ (v : OneWay). v.written) pe in let m = ap (λ (v : OneWay). v.lists) pe in let same = h.prev_lists in omega (arith, w, m, low, same)

  pub all_pushed : (next1 prev1 next2 prev2 next3 prev3 : OneWay) (f pl m : ℕ) → IsAbsent (lists_of n next.links ns) x → next1 ≡ reaching next (x + 1) → prev1 ≡ reaching prev (x + 1)
      → number next1 pl ≡ x → number next1 f ≡ get_or next1.links (number next1 k) 0 → m ≡ get_or ns k m
      → next2 ≡ with_link next1 (number next1 pl) (number next1 f) → prev2 ≡ with_link prev1 (number prev1 f) (number prev1 pl) → next3 ≡ with_link next2 (number next2 k) (number next2 pl) → prev3 ≡ with_link prev2 (number prev2 pl) (number prev2 k)
      → AreLinked n next3 prev3 (set ns k (m + 1)) (set (rings_from n next.links ns) k (x ∷ get_or (rings_from n next.links ns) k []))
  all_pushed next1 prev1 next2 prev2 next3 prev3 f pl m absent e1 p1 at fe me e2 p2 e3 p3 =
      let li : OneWay → ℕ = λ w. w.lists in
      let ix : OneWay → ℕ = λ w. w.indices in
      let ls : OneWay → List ℕ = λ w. w.links in
      let wr : OneWay → ℕ = λ w. w.written in
      let start : number next k ≡ n + k = next_sentinel n next prev ns h k inside in
      let num1 : (q : ℕ) → number next1 q ≡ number next q = λ q. same_number next1 next q (ap li e1) (ap ix e1) in
      let num2 : (q : ℕ) → number next2 q ≡ number next q = λ q. same_number next2 next q (ap li e2 ∙ ap li e1) (ap ix e2 ∙ ap ix e1) in
      let back1 : (q : ℕ) → number prev1 q ≡ number next q = λ q. same_number prev1 next q (ap li p1 ∙ h.prev_lists ∙ sym h.next_lists) (ap ix p1 ∙ h.prev_indices ∙ sym h.next_indices) in
      let back2 : (q : ℕ) → number prev2 q ≡ number next q = λ q. same_number prev2 next q (ap li p2 ∙ ap li p1 ∙ h.prev_lists ∙ sym h.next_lists) (ap ix p2 ∙ ap ix p1 ∙ h.prev_indices ∙ sym h.next_indices) in
      let own : number next pl ≡ x = sym (num1 pl) ∙ at in
      let first = number next f in
      let l2 : next2.links ≡ set next.links x first = ap ls e2 ∙ ap (λ a. set next1.links a (number next1 f)) at ∙ ap (λ b. set next1.links x b) (num1 f) ∙ ap (λ (w : OneWay). set w.links x first) e1 in
      let l3 : next3.links ≡ set next2.links (n + k) x = ap ls e3 ∙ ap (λ a. set next2.links a (number next2 pl)) (num2 k ∙ start) ∙ ap (λ b. set next2.links (n + k) b) (num2 pl ∙ own) in
      let q2 : prev2.links ≡ set prev.links first x = ap ls p2 ∙ ap (λ a. set prev1.links a (number prev1 pl)) (back1 f) ∙ ap (λ b. set prev1.links first b) (back1 pl ∙ own) ∙ ap (λ (w : OneWay). set w.links first x) p1 in
      let q3 : prev3.links ≡ set prev2.links x (n + k) = ap ls p3 ∙ ap (λ a. set prev2.links a (number prev2 k)) (back2 pl ∙ own) ∙ ap (λ b. set prev2.links x b) (back2 k ∙ start) in
      let to : List (List ℕ) = set (rings_from n next.links ns) k (x ∷ get_or (rings_from n next.links ns) k []) in
      let same : length to ≡ length (rings_from n next.links ns) = length-set (rings_from n next.links ns) k _ in
      record {
        consistent = pushed n next.links prev.links ns next2.links prev2.links next3.links prev3.links k x first m h.consistent inside below absent (first_is next1 f e1 fe) me l2 q2 l3 q3;
        next_indices = ap ix e3 ∙ ap ix e2 ∙ ap ix e1 ∙ h.next_indices;
        prev_indices = ap ix p3 ∙ ap ix p2 ∙ ap ix p1 ∙ h.prev_indices;
        next_lists = ap li e3 ∙ ap li e2 ∙ ap li e1 ∙ h.next_lists ∙ sym same;
        prev_lists = ap li p3 ∙ ap li p2 ∙ ap li p1 ∙ h.prev_lists ∙ sym same;
        next_written = subst (λ w. AreBelow w to) (sym (ap wr e3 ∙ ap wr e2 ∙ ap wr e1)) (below_push next.written x k _ h.next_written inside);
        prev_written = subst (λ w. AreBelow w to) (sym (ap wr p3 ∙ ap wr p2 ∙ ap wr p1)) (below_push prev.written x k _ h.prev_written inside);
      }

-- ---- a removal

module _ (n : ℕ) (next prev : OneWay) (ns : List ℕ) (h : AreLinked n next prev ns (rings_from n next.links ns)) (k x : ℕ) (inside : k < length (rings_from n next.links ns))
    (held : 1 ≤ times x (list_at (lists_of n next.links ns) k)) where
  pub before_written : (p : ℕ) → number prev p ≡ get_or prev.links x 0 → p < next.lists + next.written
  before_written p pe =
      let found = subst (λ y. (y ≡ n + k) ⊎ (1 ≤ times y (get_or (rings_from n next.links ns) k []))) (sym pe) (prev_on_path next.links prev.links (n + k) _ (n + k) x (h.consistent.rings k inside) held) in
      let low = ring_place n prev (rings_from n next.links ns) next.written k p h.prev_indices h.prev_lists inside h.next_written (λ z g. h.consistent.inside k z inside g) found in
      let same = h.next_lists in omega (arith, low, same)

  pub after_written : (q : ℕ) → number next q ≡ get_or next.links x 0 → q < prev.lists + prev.written
  after_written q qe =
      let found = subst (λ y. (y ≡ n + k) ⊎ (1 ≤ times y (get_or (rings_from n next.links ns) k []))) (sym qe) (next_on_path next.links prev.links (n + k) _ (n + k) x (h.consistent.rings k inside) held) in
      let low = ring_place n next _ prev.written k q h.next_indices h.next_lists inside h.prev_written (λ z g. h.consistent.inside k z inside g) found in
      let same = h.prev_lists in omega (arith, low, same)

  -- the other way numbers places alike
  pub number_back : (q : ℕ) → number prev q ≡ number next q
  number_back q = same_number prev next q (h.prev_lists ∙ sym h.next_lists) (h.prev_indices ∙ sym h.next_indices)

  pub all_removed : (next' prev' : OneWay) (ns' : List ℕ) (p q : ℕ) → number prev p ≡ get_or prev.links x 0 → number next q ≡ get_or next.links x 0
      → next' ≡ with_link next (number next p) (number next q) → prev' ≡ with_link prev (number prev q) (number prev p) → ns' ≡ set ns k (get_or ns k 0 - 1)
      → AreLinked n next' prev' ns' (set (rings_from n next.links ns) k (delete x (get_or (rings_from n next.links ns) k [])))
  all_removed next' prev' ns' p q pe qe en ep el =
      let to : List (List ℕ) = set (rings_from n next.links ns) k (delete x (get_or (rings_from n next.links ns) k [])) in
      let same : length to ≡ length (rings_from n next.links ns) = length-set (rings_from n next.links ns) k _ in
      let ln : next'.links ≡ set next.links (number prev p) (number next q) = ap (λ (w : OneWay). w.links) en ∙ ap (λ a. set next.links a (number next q)) (sym (number_back p)) in
      let lp : prev'.links ≡ set prev.links (number next q) (number prev p) = ap (λ (w : OneWay). w.links) ep ∙ ap (λ a. set prev.links a (number prev p)) (number_back q) in
      record {
        consistent = removed n next.links prev.links ns next'.links prev'.links ns' k x (number prev p) (number next q) h.consistent inside held pe qe ln lp el;
        next_indices = ap (λ (w : OneWay). w.indices) en ∙ h.next_indices;
        prev_indices = ap (λ (w : OneWay). w.indices) ep ∙ h.prev_indices;
        next_lists = ap (λ (w : OneWay). w.lists) en ∙ h.next_lists ∙ sym same;
        prev_lists = ap (λ (w : OneWay). w.lists) ep ∙ h.prev_lists ∙ sym same;
        next_written = subst (λ w. AreBelow w to) (sym (ap (λ (v : OneWay). v.written) en)) (below_delete next.written x k _ h.next_written inside held);
        prev_written = subst (λ w. AreBelow w to) (sym (ap (λ (v : OneWay). v.written) ep)) (below_delete prev.written x k _ h.prev_written inside held);
      }
