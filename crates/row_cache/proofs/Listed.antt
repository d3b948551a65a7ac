-- Rows by their numbers: the list of the rows of some numbers.
use Rattle.std.proofs.Common.{◌≡◌, ◌≢◌, ℕ, suc, ◌+◌, ◌-◌, ◌≤◌, ◌⊎◌, inl, inr, Bool, true, false, not, ◌||◌, cond, List, [], ◌∷◌, ◌++◌, length, take, map, Option, Some, None, MatchOption, refl, sym, ap, subst, ◌∙◌, arith}
use Rattle.std.proofs.lemmas.Bool.{cases_eq}
use Rattle.std.specs.Bool.{Decides}
use Rattle.std.proofs.lemmas.List.Sums.{sum_by-cons}
use Rattle.std.specs.List.{last_or}
use Rattle.rows.specs.Key.{Key}
use Rattle.rows.specs.Row.{Row, size, live}
use Rattle.rows.specs.Apply.{is_of, row_of, has, without}
use Rattle.row_lemmas.proofs.Keys.{is_same_key-Decides}
use Rattle.common_lemmas.specs.Lists.{times, delete}
use Rattle.common_lemmas.proofs.Counts.{times_here, times_there, times_cons_le, delete_here, delete_there}

-- no two of the numbers are of rows of one key
abbrev pub Apart : (ℕ → Row) → List ℕ → Type 0
Apart row ns = (m n : ℕ) → 1 ≤ times m ns → 1 ≤ times n ns → (row m).key ≡ (row n).key → m ≡ n

pub listed_here : (n : ℕ) (ns : List ℕ) → 1 ≤ times n (n ∷ ns)
listed_here n ns = let e = times_here n ns in omega (arith, e)

pub listed_later : (m n : ℕ) (ns : List ℕ) → 1 ≤ times m ns → 1 ≤ times m (n ∷ ns)
listed_later m n ns h = let e = times_cons_le m n ns in omega (arith, e, h)

pub listed_apart : (m n : ℕ) (ns : List ℕ) → n ≢ m → 1 ≤ times m (n ∷ ns) → 1 ≤ times m ns
listed_apart m n ns far h = subst (λ t. 1 ≤ t) (times_there m n ns far) h

apart_tail : (row : ℕ → Row) (n : ℕ) (ns : List ℕ) → Apart row (n ∷ ns) → Apart row ns
apart_tail row n ns apart = λ a b ha hb e. apart a b (listed_later a n ns ha) (listed_later b n ns hb) e

-- rows that agree on the numbers are one list
pub map_same : (f g : ℕ → Row) (ns : List ℕ) → ((n : ℕ) → 1 ≤ times n ns → f n ≡ g n) → map f ns ≡ map g ns
map_same f g [] h = refl
map_same f g (n ∷ ns) h =
    ap (λ (r : Row). r ∷ map f ns) (h n (listed_here n ns)) ∙ ap (λ (rs : List Row). g n ∷ rs) (map_same f g ns (λ m l. h m (listed_later m n ns l)))

tells : (b : Bool) (P : Type 0) → Decides b P → ((b ≡ true) × P) ⊎ ((b ≡ false) × (¬ P))
tells true P d = inl (refl, d.0 refl)
tells false P d = inr (refl, λ p. (let e : false ≡ true = d.1 p in cc))

of_key : (key : Key) (r : Row) → ((is_of key r ≡ true) × (r.key ≡ key)) ⊎ ((is_of key r ≡ false) × (r.key ≢ key))
of_key key r = tells (is_of key r) (r.key ≡ key) (is_same_key-Decides r.key key)

-- no row has the key
abbrev pub Lacks : (ℕ → Row) → Key → List ℕ → Type 0
Lacks row key ns = (n : ℕ) → 1 ≤ times n ns → (row n).key ≢ key

lacks_tail : (row : ℕ → Row) (key : Key) (n : ℕ) (ns : List ℕ) → Lacks row key (n ∷ ns) → Lacks row key ns
lacks_tail row key n ns none = λ m l. none m (listed_later m n ns l)

not_first : (row : ℕ → Row) (key : Key) (n : ℕ) (ns : List ℕ) → Lacks row key (n ∷ ns) → is_of key (row n) ≡ false
not_first row key n ns none = elim (of_key key (row n)) [ inl h ↦ absurd (none n (listed_here n ns) h.1) | inr h ↦ h.0 ]

pub none_has : (row : ℕ → Row) (key : Key) (ns : List ℕ) → Lacks row key ns → has key (map row ns) ≡ false
none_has row key [] none = refl
none_has row key (n ∷ ns) none =
    ap (λ b. b || has key (map row ns)) (not_first row key n ns none) ∙ none_has row key ns (lacks_tail row key n ns none)

pub none_found : (row : ℕ → Row) (key : Key) (ns : List ℕ) → Lacks row key ns → row_of key (map row ns) ≡ None
none_found row key [] none = refl
none_found row key (n ∷ ns) none =
    ap (λ b. cond b (Some (row n)) (row_of key (map row ns))) (not_first row key n ns none) ∙ none_found row key ns (lacks_tail row key n ns none)

pub none_without : (row : ℕ → Row) (key : Key) (ns : List ℕ) → Lacks row key ns → without key (map row ns) ≡ map row ns
none_without row key [] none = refl
none_without row key (n ∷ ns) none =
    ap (λ b. cond (not b) (row n ∷ without key (map row ns)) (without key (map row ns))) (not_first row key n ns none)
    ∙ ap (λ (rs : List Row). row n ∷ rs) (none_without row key ns (lacks_tail row key n ns none))

pub one_has : (row : ℕ → Row) (key : Key) (n : ℕ) (ns : List ℕ) → 1 ≤ times n ns → (row n).key ≡ key → has key (map row ns) ≡ true
one_has row key n [] h e = absurd (omega arith)
one_has row key n (m ∷ ns) h e =
    elim (of_key key (row m)) [
      | inl k ↦ ap (λ b. b || has key (map row ns)) k.0
      | inr k ↦
          ap (λ b. b || has key (map row ns)) k.0
          ∙ one_has row key n ns (listed_apart n m ns (λ q. k.1 (ap (λ x. (row x).key) q ∙ e)) h) e
    ]

pub one_found : (row : ℕ → Row) (key : Key) (n : ℕ) (ns : List ℕ) → Apart row ns → 1 ≤ times n ns → (row n).key ≡ key → row_of key (map row ns) ≡ Some (row n)
one_found row key n [] apart h e = absurd (omega arith)
one_found row key n (m ∷ ns) apart h e =
    elim (of_key key (row m)) [
      | inl k ↦ ap (λ b. cond b (Some (row m)) (row_of key (map row ns))) k.0 ∙ ap (λ x. Some (row x)) (apart m n (listed_here m ns) h (k.1 ∙ sym e))
      | inr k ↦
          ap (λ b. cond b (Some (row m)) (row_of key (map row ns))) k.0
          ∙ one_found row key n ns (apart_tail row m ns apart) (listed_apart n m ns (λ q. k.1 (ap (λ x. (row x).key) q ∙ e)) h) e
    ]

-- the rows of other keys are those of the other numbers
pub one_without : (row : ℕ → Row) (key : Key) (n : ℕ) (ns : List ℕ)
    → Apart row ns → 1 ≤ times n ns → ((m : ℕ) → times m ns ≤ 1) → (row n).key ≡ key → without key (map row ns) ≡ map row (delete n ns)
one_without row key n [] apart h once e = refl
one_without row key n (m ∷ ns) apart h once e =
    let later : (x : ℕ) → times x ns ≤ 1 = λ x. (let o = once x in let l = times_cons_le x m ns in omega (arith, o, l)) in
    elim (of_key key (row m)) [
      | inl k ↦
          (let same : m ≡ n = apart m n (listed_here m ns) h (k.1 ∙ sym e) in
          let gone : times m ns ≡ 0 = (let o = once m in let t = times_here m ns in omega (arith, o, t)) in
          let lacks : Lacks row key ns = λ x l q. (let x_m : x ≡ m = apart x m (listed_later x m ns l) (listed_here m ns) (q ∙ sym k.1) in
          let g : times x ns ≡ 0 = subst (λ y. times y ns ≡ 0) (sym x_m) gone in omega (arith, g, l)) in
          ap (λ b. cond (not b) (row m ∷ without key (map row ns)) (without key (map row ns))) k.0
          ∙ (none_without row key ns lacks ∙ ap (λ ks. map row ks) (sym (subst (λ x. delete x (m ∷ ns) ≡ ns) same (delete_here m ns)))))
      | inr k ↦
          (let far : m ≢ n = λ q. k.1 (ap (λ x. (row x).key) q ∙ e) in
          ap (λ b. cond (not b) (row m ∷ without key (map row ns)) (without key (map row ns))) k.0
          ∙ (ap (λ (rs : List Row). row m ∷ rs) (one_without row key n ns (apart_tail row m ns apart) (listed_apart n m ns far h) later e)
          ∙ ap (λ ks. map row ks) (sym (delete_there n m ns far))))
    ]

-- the sizes of the rows, one of which goes
pub live_without : (row : ℕ → Row) (n : ℕ) (ns : List ℕ) → 1 ≤ times n ns → live (map row ns) ≡ size (row n).key.bytes (row n).value + live (map row (delete n ns))
live_without row n [] h = absurd (omega arith)
live_without row n (m ∷ ns) h =
    elim (cases_eq m n) [
      | inl e ↦ subst (λ x. live (map row (x ∷ ns)) ≡ size (row n).key.bytes (row n).value + live (map row (delete n (x ∷ ns)))) (sym e)
          (sum_by-cons (λ (r : Row). size r.key.bytes r.value) (row n) (map row ns) ∙ ap (λ ks. size (row n).key.bytes (row n).value + live (map row ks)) (sym (delete_here n ns)))
      | inr far ↦
          (let ih = live_without row n ns (listed_apart n m ns far h) in
          let whole = sum_by-cons (λ (r : Row). size r.key.bytes r.value) (row m) (map row ns) in
          let rest = sum_by-cons (λ (r : Row). size r.key.bytes r.value) (row m) (map row (delete n ns)) in
          subst (λ ks. live (map row (m ∷ ns)) ≡ size (row n).key.bytes (row n).value + live (map row ks)) (sym (delete_there n m ns far)) (omega (arith, ih, whole, rest)))
    ]

pub last_listed : (n : ℕ) (ns : List ℕ) → last_or None ns ≡ Some n → 1 ≤ times n ns
last_listed n [] e = absurd (let clash : None ≡ Some n = e in cc)
last_listed n (m ∷ []) e = (let same : m ≡ n = (let s : Some m ≡ Some n = e in cc) in subst (λ x. 1 ≤ times n (x ∷ [])) (sym same) (listed_here n []))
last_listed n (m ∷ k ∷ ns) e = listed_later n m (k ∷ ns) (last_listed n (k ∷ ns) e)

-- the numbers before the last
pub delete_last : (n : ℕ) (ns : List ℕ) → ((m : ℕ) → times m ns ≤ 1) → last_or None ns ≡ Some n → delete n ns ≡ take (length ns - 1) ns
delete_last n [] once e = refl
delete_last n (m ∷ []) once e = (let same : m ≡ n = (let s : Some m ≡ Some n = e in cc) in subst (λ x. delete n (x ∷ []) ≡ []) (sym same) (delete_here n []))
delete_last n (m ∷ k ∷ ns) once e =
    let there = last_listed n (k ∷ ns) e in
    let far : m ≢ n = λ q. (let o = once n in let t : times n (m ∷ k ∷ ns) ≡ 1 + times n (k ∷ ns) = subst (λ x. times n (x ∷ k ∷ ns) ≡ 1 + times n (k ∷ ns)) (sym q) (times_here n (k ∷ ns)) in omega (arith, o, t, there)) in
    let len : length (m ∷ k ∷ ns) - 1 ≡ suc (length (k ∷ ns) - 1) = omega arith in
    delete_there n m (k ∷ ns) far
    ∙ (ap (λ (ks : List ℕ). m ∷ ks) (delete_last n (k ∷ ns) (λ x. (let o = once x in let l = times_cons_le x m (k ∷ ns) in omega (arith, o, l))) e)
    ∙ ap (λ j. take j (m ∷ k ∷ ns)) (sym len))

pub last_row : (row : ℕ → Row) (n : ℕ) (ns : List ℕ) → last_or None ns ≡ Some n → last_or None (map row ns) ≡ Some (row n)
last_row row n [] e = absurd (let clash : None ≡ Some n = e in cc)
last_row row n (m ∷ []) e = ap (λ x. Some (row x)) (let s : Some m ≡ Some n = e in cc)
last_row row n (m ∷ k ∷ ns) e = last_row row n (k ∷ ns) e

pub times_append : (n : ℕ) (xs ys : List ℕ) → times n (xs ++ ys) ≡ times n xs + times n ys
times_append n [] ys = omega arith
times_append n (x ∷ xs) ys = let ih = times_append n xs ys in omega (arith, ih)

last_some : (n : ℕ) (ns : List ℕ) (P : Type 0) → last_or (Some n) ns ≡ None → P
last_some n [] P e = absurd (let clash : Some n ≡ None = e in cc)
last_some n (m ∷ ns) P e = last_some m ns P e

none_last : (ns : List ℕ) → last_or None ns ≡ None → ns ≡ []
none_last [] e = refl
none_last (n ∷ ns) e = last_some n ns (n ∷ ns ≡ []) e

pub last_is : (o : Option ℕ) (ns : List ℕ) → o ≡ last_or None ns → MatchOption o (ns ≡ []) (λ n. last_or None ns ≡ Some n)
last_is None ns e = none_last ns (sym e)
last_is (Some n) ns e = sym e
