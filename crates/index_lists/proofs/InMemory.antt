-- Links of which those of lists stand in front in memory: what places are numbered, and what a read and a write are by number.
use Rattle.std.proofs.Common.{◌≡◌, ℕ, zero, suc, ◌+◌, ◌-◌, ◌<◌, ◌≤◌, inl, inr, List, [], ◌∷◌, ◌++◌, map, length, get_or, take, drop, set, refl, sym, ap, ◌∙◌, arith, length-append}
use Rattle.std.proofs.Math.ListN.{length-drop, length-take, get_or-append}
use Rattle.std.proofs.Math.Seq.{take-set-lt}
use Rattle.std.proofs.lemmas.List.{drop-set-add, drop-set-lt, take-set-le, set-append_left, set-append_right, map-set, get_or-drop, get_or-take, get_or-append_right, get_or_read}
use Rattle.std.proofs.lemmas.Bool.Decides.{nat_tests}
use Rattle.common_lemmas.proofs.Orders.{lt_or_ge}
use Rattle.index_lists.specs.Table.{Table, with_entry}
use Rattle.index_lists.specs.inside.Links.{OneWay, number_of, numbered, with_link}

-- ---- numbers of places

pub number_list : (m n p : ℕ) → p < m → number_of m n p ≡ n + p
unfolding number_of
number_list m n p low = grind (arith, nat_tests)

pub number_index : (m n p : ℕ) → m ≤ p → p < m + n → number_of m n p ≡ p - m
unfolding number_of
number_index m n p high low = grind (arith, nat_tests)

number_out : (m n p : ℕ) → m + n ≤ p → number_of m n p ≡ p
unfolding number_of
number_out m n p high = grind (arith, nat_tests)

-- the place of a list, and of an index
pub place_is_list : (m n p k : ℕ) → k < m → number_of m n p ≡ n + k → p ≡ k
place_is_list m n p k low e = elim (lt_or_ge p m) [
  | inl l ↦ (let v = number_list m n p l in omega (arith, v, e))
  | inr g ↦ elim (lt_or_ge p (m + n)) [
    | inl l ↦ absurd (let v = number_index m n p g l in omega (arith, v, e, l, g))
    | inr h ↦ absurd (let v = number_out m n p h in omega (arith, v, e, h, low))
  ]
]

pub place_is_index : (m n p : ℕ) → number_of m n p < n → (m ≤ p) × (p < m + n) × (number_of m n p ≡ p - m)
place_is_index m n p low = elim (lt_or_ge p m) [
  | inl l ↦ absurd (let v = number_list m n p l in omega (arith, v, low))
  | inr g ↦ elim (lt_or_ge p (m + n)) [
    | inl l ↦ (g, l, number_index m n p g l)
    | inr h ↦ absurd (let v = number_out m n p h in omega (arith, v, low, h))
  ]
]

-- ---- a read, by number

abbrev behind : ℕ → List ℕ → List ℕ
behind m l = drop m l ++ take m l

map_at : (f : ℕ → ℕ) (l : List ℕ) (i : ℕ) → i < length l → get_or (map f l) i 0 ≡ f (get_or l i 0)
map_at f [] i h = absurd (omega arith)
map_at f (x ∷ l) zero h = refl
map_at f (x ∷ l) (suc i) h = map_at f l i (omega arith)

length_behind : (m n : ℕ) (l : List ℕ) → length l ≡ m + n → length (behind m l) ≡ m + n
length_behind m n l long = (let a = length-append (drop m l) (take m l) in let d = length-drop m l in let t = length-take m l in omega (arith, a, d, t, long))

behind_at : (m n p : ℕ) (l : List ℕ) → length l ≡ m + n → p < m + n → get_or (behind m l) (number_of m n p) 0 ≡ get_or l p 0
behind_at m n p l long low =
    let d = length-drop m l in
    elim (lt_or_ge p m) [
      | inl list ↦
          (let at : n + p - n ≡ p = omega arith in
          ap (λ i. get_or (behind m l) i 0) (number_list m n p list)
          ∙ get_or-append_right (drop m l) (take m l) n (n + p) 0 (omega (arith, d, long)) (omega arith)
          ∙ ap (λ i. get_or (take m l) i 0) at ∙ get_or-take m l p 0 list)
      | inr index ↦
          (let at : m + (p - m) ≡ p = omega (arith, index) in
          ap (λ i. get_or (behind m l) i 0) (number_index m n p index low)
          ∙ get_or-append (drop m l) (take m l) 0 (p - m) (omega (arith, d, long, low, index))
          ∙ get_or-drop m l (p - m) 0 ∙ ap (λ i. get_or l i 0) at)
    ]

number_within : (m n p : ℕ) → p < m + n → number_of m n p < m + n
number_within m n p low = elim (lt_or_ge p m) [
  | inl l ↦ (let v = number_list m n p l in omega (arith, v, l))
  | inr g ↦ (let v = number_index m n p g low in omega (arith, v, low))
]

pub read_at : (m n p r : ℕ) (l : List ℕ) → length l ≡ m + n → p < m + n → r ≡ get_or l p r → number_of m n r ≡ get_or (numbered m n l) (number_of m n p) 0
read_at m n p r l long low read =
    let is : r ≡ get_or l p 0 = get_or_read l p r (omega (arith, long, low)) read 0 in
    let inside = number_within m n p low in let all = length_behind m n l long in
    ap (number_of m n) is ∙ ap (number_of m n) (sym (behind_at m n p l long low)) ∙ sym (map_at (number_of m n) (behind m l) (number_of m n p) (omega (arith, inside, all)))

-- ---- a write, by number

behind_set : (m n p v : ℕ) (l : List ℕ) → length l ≡ m + n → p < m + n → behind m (set l p v) ≡ set (behind m l) (number_of m n p) v
behind_set m n p v l long low =
    let d = length-drop m l in
    elim (lt_or_ge p m) [
      | inl list ↦
          (let at : p ≡ n + p - n = omega arith in
          ap (λ e. e ++ take m (set l p v)) (drop-set-lt m l p v list)
          ∙ ap (λ t. drop m l ++ t) (take-set-lt m l p v list)
          ∙ ap (λ i. drop m l ++ set (take m l) i v) at
          ∙ sym (set-append_right (drop m l) (take m l) n (n + p) v (omega (arith, d, long)) (omega arith))
          ∙ ap (λ i. set (behind m l) i v) (sym (number_list m n p list)))
      | inr index ↦
          (let at : p ≡ m + (p - m) = omega (arith, index) in
          ap (λ i. drop m (set l i v) ++ take m (set l p v)) at
          ∙ ap (λ e. e ++ take m (set l p v)) (drop-set-add m l (p - m) v)
          ∙ ap (λ t. set (drop m l) (p - m) v ++ t) (take-set-le m l p v index)
          ∙ sym (set-append_left (drop m l) (take m l) (p - m) v (omega (arith, d, long, low, index)))
          ∙ ap (λ i. set (behind m l) i v) (sym (number_index m n p index low)))
    ]

abbrev pub one_way : Table ℕ → ℕ → ℕ → OneWay
one_way t lists indices = record { links = numbered lists indices t.entries; lists = lists; indices = indices; written = t.written - lists }

pub after_set : (t u : Table ℕ) (m n p v : ℕ) → length t.entries ≡ m + n → p < m + n → u ≡ with_entry t p v → one_way u m n ≡ with_link (one_way t m n) (number_of m n p) (number_of m n v)
after_set t u m n p v long low e =
    ap (λ w. one_way w m n) e
    ∙ ap (λ l. let r : OneWay = record { links = l; lists = m; indices = n; written = t.written - m } in r)
    (ap (map (number_of m n)) (behind_set m n p v t.entries long low) ∙ map-set (number_of m n) (behind m t.entries) (number_of m n p) v)

-- a place that is written is one of those in memory
pub place_within : (t : Table ℕ) (m n p : ℕ) (w : OneWay) → one_way t m n ≡ w → m ≤ t.written → t.written ≤ m + n → p < w.lists + w.written → p < m + n
place_within t m n p w view least most low = (let s = ap (λ (v : OneWay). v.lists + v.written) view in omega (arith, s, least, most, low))
