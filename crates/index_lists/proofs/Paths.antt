-- Paths through links, and what a changed link does to them.
use Rattle.std.proofs.Common.{◌≡◌, ◌≢◌, ℕ, suc, ◌+◌, ◌<◌, ◌≤◌, ◌⊎◌, inl, inr, List, [], ◌∷◌, length, get_or, set, refl, sym, ap, subst, ◌∙◌, arith, get_or-set_other, get_or-set_same}
use Rattle.std.proofs.lemmas.Bool.{cases_eq}
use Rattle.common_lemmas.specs.Lists.{times, delete}
use Rattle.index_lists.specs.inside.Links.{Path, walk, rings_from}
use Rattle.common_lemmas.proofs.Counts.{absent_cons, times_here, times_there, times_cons_le, delete_here, delete_there}

-- ---- paths

pub keeps_path : (next prev : List ℕ) (a : ℕ) (xs : List ℕ) (b i v j w : ℕ) → i ≢ a → times i xs ≡ 0 → j ≢ b → times j xs ≡ 0 → Path next prev a xs b → Path (set next i v) (set prev j w) a xs b
keeps_path next prev a [] b i v j w ia ix jb jx p =
    (get_or-set_other next i a v 0 (λ e. ia (sym e)) ∙ p.0, get_or-set_other prev j b w 0 (λ e. jb (sym e)) ∙ p.1)
keeps_path next prev a (x ∷ xs) b i v j w ia ix jb jx p =
    let ni = absent_cons i x xs ix in
    let nj = absent_cons j x xs jx in
    (get_or-set_other next i a v 0 (λ e. ia (sym e)) ∙ p.0, get_or-set_other prev j x w 0 nj.0 ∙ p.1, keeps_path next prev x xs b i v j w (λ e. ni.0 (sym e)) ni.1 jb nj.1 p.2)

-- a place linked before what follows a
pub front_path : (next prev : List ℕ) (a : ℕ) (xs : List ℕ) (b x : ℕ) → x < length next → get_or next a 0 < length prev → times x xs ≡ 0
    → times b xs ≡ 0 → ((z : ℕ) → times z xs ≤ 1) → Path next prev a xs b → Path (set next x (get_or next a 0)) (set prev (get_or next a 0) x) x xs b
front_path next prev a [] b x inx inf ax ab once p =
    (get_or-set_same next x (get_or next a 0) 0 inx ∙ p.0, subst (λ z. get_or (set prev (get_or next a 0) x) z 0 ≡ x) p.0 (get_or-set_same prev (get_or next a 0) x 0 inf))
front_path next prev a (y ∷ ys) b x inx inf ax ab once p =
    let nx = absent_cons x y ys ax in
    let nb = absent_cons b y ys ab in
    let ny : times y ys ≡ 0 = (let o = once y in let h = times_here y ys in omega (arith, o, h)) in (
      get_or-set_same next x (get_or next a 0) 0 inx ∙ p.0,
      subst (λ z. get_or (set prev (get_or next a 0) x) z 0 ≡ x) p.0 (get_or-set_same prev (get_or next a 0) x 0 inf),
      keeps_path next prev y ys b x (get_or next a 0) (get_or next a 0) x (λ e. nx.0 (sym e)) nx.1 (λ e. nb.0 (sym p.0 ∙ e)) (subst (λ z. times z ys ≡ 0) (sym p.0) ny) p.2,
    )

-- a link out of a path's place leads to the next one
pub next_on_path : (next prev : List ℕ) (a : ℕ) (xs : List ℕ) (b x : ℕ) → Path next prev a xs b → 1 ≤ times x xs → (get_or next x 0 ≡ b) ⊎ (1 ≤ times (get_or next x 0) xs)
next_on_path next prev a [] b x p h = absurd (omega arith)
next_on_path next prev a (y ∷ []) b x p h =
    elim (cases_eq y x) [
      | inl e ↦ inl (ap (λ z. get_or next z 0) (sym e) ∙ p.2.0)
      | inr n ↦ absurd (let t = times_there x y [] n in omega (arith, t))
    ]
next_on_path next prev a (y ∷ z ∷ zs) b x p h =
    elim (cases_eq y x) [
      | inl e ↦ inr (subst (λ w. 1 ≤ times w (y ∷ z ∷ zs)) (sym (ap (λ w. get_or next w 0) (sym e) ∙ p.2.0)) (let t = times_here z zs in let l = times_cons_le z y (z ∷ zs) in omega (arith, t, l)))
      | inr n ↦ elim (next_on_path next prev y (z ∷ zs) b x p.2 (subst (λ t. 1 ≤ t) (times_there x y (z ∷ zs) n) h)) [
        | inl e ↦ inl e
        | inr t ↦ inr (let l = times_cons_le (get_or next x 0) y (z ∷ zs) in omega (arith, t, l))
      ]
    ]

pub prev_on_path : (next prev : List ℕ) (a : ℕ) (xs : List ℕ) (b x : ℕ) → Path next prev a xs b → 1 ≤ times x xs → (get_or prev x 0 ≡ a) ⊎ (1 ≤ times (get_or prev x 0) xs)
prev_on_path next prev a [] b x p h = absurd (omega arith)
prev_on_path next prev a (y ∷ ys) b x p h =
    elim (cases_eq y x) [
      | inl e ↦ inl (ap (λ z. get_or prev z 0) (sym e) ∙ p.1)
      | inr n ↦ elim (prev_on_path next prev y ys b x p.2 (subst (λ t. 1 ≤ t) (times_there x y ys n) h)) [
        | inl e ↦ inr (subst (λ w. 1 ≤ times w (y ∷ ys)) (sym e) (let t = times_here y ys in omega (arith, t)))
        | inr t ↦ inr (let l = times_cons_le (get_or prev x 0) y ys in omega (arith, t, l))
      ]
    ]

-- the path past a place that is taken out
pub path-delete : (next prev : List ℕ) (a : ℕ) (xs : List ℕ) (b x : ℕ) → get_or prev x 0 < length next → get_or next x 0 < length prev → times a xs ≡ 0 → times b xs ≡ 0
    → ((z : ℕ) → times z xs ≤ 1) → 1 ≤ times x xs → Path next prev a xs b → Path (set next (get_or prev x 0) (get_or next x 0)) (set prev (get_or next x 0) (get_or prev x 0)) a (delete x xs) b
path-delete next prev a [] b x inp inn aa ab once h p = absurd (omega arith)
path-delete next prev a (y ∷ ys) b x inp inn aa ab once h p =
    let na = absent_cons a y ys aa in
    let nb = absent_cons b y ys ab in
    let ny : times y ys ≡ 0 = (let o = once y in let t = times_here y ys in omega (arith, o, t)) in
    let rest : (z : ℕ) → times z ys ≤ 1 = (λ z. (let o = once z in let l = times_cons_le z y ys in omega (arith, o, l))) in
    elim (cases_eq y x) [
      | inl e ↦
          (let back : get_or prev x 0 ≡ a = ap (λ z. get_or prev z 0) (sym e) ∙ p.1 in
          let goal_at : ℕ → Type 0 = λ q. Path (set next q (get_or next x 0)) (set prev (get_or next x 0) q) a (delete x (y ∷ ys)) b in
          let here : ys ≡ delete x (y ∷ ys) = subst (λ z. ys ≡ delete x (z ∷ ys)) (sym e) (sym (delete_here x ys)) in
          let fronted : Path (set next a (get_or next x 0)) (set prev (get_or next x 0) a) a ys b =
          subst (λ z. Path (set next a (get_or next z 0)) (set prev (get_or next z 0) a) a ys b) e
          (front_path next prev y ys b a (subst (λ z. z < length next) back inp) (subst (λ z. get_or next z 0 < length prev) (sym e) inn) na.1 nb.1 rest p.2) in
          subst goal_at (sym back) (subst (λ zs. Path (set next a (get_or next x 0)) (set prev (get_or next x 0) a) a zs b) here fronted))
      | inr n ↦
          (let held : 1 ≤ times x ys = subst (λ t. 1 ≤ t) (times_there x y ys n) h in
          let pa : a ≢ get_or prev x 0 = (λ q. elim (prev_on_path next prev y ys b x p.2 held) [
            | inl e ↦ na.0 (sym e ∙ sym q)
            | inr t ↦ absurd (let z : times a ys ≡ 0 = na.1 in let u : 1 ≤ times a ys = subst (λ w. 1 ≤ times w ys) (sym q) t in omega (arith, z, u))
          ]) in
          let py : y ≢ get_or next x 0 = (λ q. elim (next_on_path next prev y ys b x p.2 held) [
            | inl e ↦ nb.0 (q ∙ e)
            | inr t ↦ absurd (let u : 1 ≤ times y ys = subst (λ w. 1 ≤ times w ys) (sym q) t in omega (arith, ny, u))
          ]) in
          subst (λ zs. Path (set next (get_or prev x 0) (get_or next x 0)) (set prev (get_or next x 0) (get_or prev x 0)) a zs b) (sym (delete_there x y ys n)) (
            get_or-set_other next (get_or prev x 0) a (get_or next x 0) 0 pa ∙ p.0,
            get_or-set_other prev (get_or next x 0) y (get_or prev x 0) 0 py ∙ p.1,
            path-delete next prev y ys b x inp inn ny nb.1 rest held p.2,
          ))
    ]

-- ---- what the links say

pub walk_of_path : (next prev : List ℕ) (a : ℕ) (xs : List ℕ) (b : ℕ) → Path next prev a xs b → walk (length xs) next (get_or next a 0) ≡ xs
unfolding walk
walk_of_path next prev a [] b p = refl
walk_of_path next prev a (x ∷ xs) b p =
    subst (λ z. z ∷ walk (length xs) next (get_or next z 0) ≡ x ∷ xs) (sym p.0) (ap (λ t. x ∷ t) (walk_of_path next prev x xs b p.2))

pub rings_of_paths : (s : ℕ) (next prev ns : List ℕ) (lists : List (List ℕ)) → length ns ≡ length lists
    → ((k : ℕ) → k < length lists → get_or ns k 0 ≡ length (get_or lists k []))
    → ((k : ℕ) → k < length lists → Path next prev (s + k) (get_or lists k []) (s + k))
    → rings_from s next ns ≡ lists
unfolding rings_from
rings_of_paths s next prev [] [] e lens paths = refl
rings_of_paths s next prev (n ∷ ns) [] e lens paths = absurd (omega arith)
rings_of_paths s next prev [] (xs ∷ lists) e lens paths = absurd (omega arith)
rings_of_paths s next prev (n ∷ ns) (xs ∷ lists) e lens paths =
    let n_is : n ≡ length xs = lens 0 (omega arith) in
    let zero_is : s + 0 ≡ s = omega arith in
    let ring : Path next prev s xs s = subst (λ z. Path next prev z xs z) zero_is (paths 0 (omega arith)) in
    let tail = rings_of_paths (suc s) next prev ns lists (omega arith) (λ k h. lens (suc k) (omega arith))
    (λ k h. (let shift : s + suc k ≡ suc s + k = omega arith in subst (λ z. Path next prev z (get_or lists k []) z) shift (paths (suc k) (omega arith)))) in
    subst (λ m. walk m next (get_or next s 0) ∷ rings_from (suc s) next ns ≡ xs ∷ lists) (sym n_is)
    (ap (λ t. t ∷ rings_from (suc s) next ns) (walk_of_path next prev s xs s ring) ∙ ap (λ t. xs ∷ t) tail)

-- the link back from the end leads to the start, or to an index of the list
pub last_held : (next prev : List ℕ) (a : ℕ) (xs : List ℕ) (b : ℕ) → Path next prev a xs b → (get_or prev b 0 ≡ a) ⊎ (1 ≤ times (get_or prev b 0) xs)
last_held next prev a [] b p = inl p.1
last_held next prev a (y ∷ ys) b p =
    inr (elim (last_held next prev y ys b p.2) [
      | inl e ↦ subst (λ w. 1 ≤ times w (y ∷ ys)) (sym e) (let t = times_here y ys in omega (arith, t))
      | inr q ↦ (let l = times_cons_le (get_or prev b 0) y ys in omega (arith, l, q))
    ])
