-- The numbers of the rows, where one is given or given back.
use Rattle.std.proofs.Common.{◌≡◌, ℕ, suc, ◌+◌, ◌-◌, ◌<◌, ◌≤◌, ◌⊎◌, inl, inr, true, false, cond, List, [], ◌∷◌, ◌++◌, length, take, Option, Some, None, refl, sym, ap, subst, ◌∙◌, arith, length-append}
use Rattle.std.specs.Prelude.{nat_lt, slice_get, slice_set, All}
use Rattle.std.proofs.lemmas.Bool.{cases_eq}
use Rattle.std.proofs.lemmas.Bool.Decides.{leb_tells}
use Rattle.std.proofs.lemmas.List.{length-set}
use Rattle.std.specs.List.{last_or, AllByRecursion}
use Rattle.std.proofs.lemmas.List.Sorted.{length_permutation}
use Rattle.std.proofs.lemmas.List.Elements.{All-from_recursion}
use Rattle.common_lemmas.specs.Lists.{times, delete}
use Rattle.common_lemmas.proofs.Counts.{times_here, times_there, times-delete_same, times-delete_other, length-delete, same-permutation}
use Rattle.key_table.specs.Table.{AreSame}
use Rattle.key_table.specs.Lazy.{Lazy, StaysKeyed, rows_in}
use Rattle.regions.specs.declared.place.Place.{Place}
use Rattle.row_cache.specs.inside.Tables.{TableState, AreNumbers, IsListed, next_number, number_or, placed}
use Rattle.row_cache.proofs.Listed.{times_append, last_listed, delete_last, listed_here, listed_later}

pub times_front : (m n : ℕ) (ns : List ℕ) → 1 ≤ times n ns → times m (n ∷ delete n ns) ≡ times m ns
times_front m n ns h =
    elim (cases_eq n m) [
      | inl e ↦ subst (λ x. times x (n ∷ delete n ns) ≡ times x ns) e (let a = times_here n (delete n ns) in let b = times-delete_same n ns h in omega (arith, a, b))
      | inr far ↦ times_there m n (delete n ns) far ∙ times-delete_other m n ns (λ q. far (sym q))
    ]

pub length_front : (n : ℕ) (ns : List ℕ) → 1 ≤ times n ns → length (n ∷ delete n ns) ≡ length ns
length_front n ns h = let e = length-delete n ns h in omega (arith, e)

-- the same numbers are rows, in whatever order
pub numbers_kept : (t u : TableState) → AreNumbers t → u.room ≡ t.room → u.index ≡ t.index → u.freed ≡ t.freed → length u.places ≡ length t.places
    → ((m : ℕ) → times m u.recency ≡ times m t.recency) → length u.recency ≡ length t.recency → AreNumbers u
numbers_kept t u a room index freed places recency len =
    let rows : (m : ℕ) → times m (rows_in u.index) ≡ times m (rows_in t.index) = λ m. ap (λ (i : Lazy). times m (rows_in i)) index in
    let frees : (m : ℕ) → times m u.freed ≡ times m t.freed = λ m. ap (λ ns. times m ns) freed in
    let count : length u.freed ≡ length t.freed = ap (λ ns. length ns) freed in
    let few = a.few in let all = a.count in let small = a.small in
    record {
      small = omega (arith, small, room);
      few = omega (arith, few, room, places);
      given = λ m h. (let g = a.given m (omega (arith, h, places)) in let r = recency m in let f = frees m in omega (arith, g, r, f));
      others = λ m h. (let g = a.others m (omega (arith, h, places)) in let r = recency m in let f = frees m in omega (arith, g, r, f));
      count = omega (arith, all, len, count, places);
      room = ap (λ i. i.room) index ∙ (a.room ∙ sym room);
      indexed = λ m. rows m ∙ (a.indexed m ∙ sym (recency m));
      index_count = ap (λ (i : Lazy). length (rows_in i)) index ∙ (a.index_count ∙ sym len);
      moves = subst StaysKeyed (sym index) a.moves;
    }

-- an index that has one row fewer
one_fewer : (n : ℕ) (more less : Lazy) → AreSame (rows_in more) (n ∷ rows_in less) → length (rows_in more) ≡ suc (length (rows_in less))
one_fewer n more less same = sym (length_permutation (rows_in more) (n ∷ rows_in less) (same-permutation (rows_in more) (n ∷ rows_in less) (λ m. sym (same m))))

-- the index has the same rows, some of which waited
pub numbers_settled : (t u : TableState) → AreNumbers t → u.room ≡ t.room → u.recency ≡ t.recency → u.places ≡ t.places → u.freed ≡ t.freed → u.index.room ≡ t.index.room → AreSame (rows_in t.index) (rows_in u.index)
    → StaysKeyed u.index → AreNumbers u
numbers_settled t u a room recency places freed index_room same moves =
    let kept = numbers_kept t (record u { index = t.index }) a room refl freed (ap (λ ps. length ps) places) (λ m. ap (times m) recency) (ap (λ ns. length ns) recency) in
    let sizes = length_permutation (rows_in t.index) (rows_in u.index) (same-permutation (rows_in t.index) (rows_in u.index) (λ m. sym (same m))) in
    record {
      small = kept.small;
      few = kept.few;
      given = kept.given;
      others = kept.others;
      count = kept.count;
      room = index_room ∙ kept.room;
      indexed = λ m. sym (same m) ∙ kept.indexed m;
      index_count = sizes ∙ kept.index_count;
      moves = moves;
    }

-- a number is given back
pub numbers_dropped : (t u : TableState) (n : ℕ) → AreNumbers t → IsListed t n → u.room ≡ t.room → u.recency ≡ delete n t.recency → u.places ≡ t.places
    → u.freed ≡ t.freed ++ n ∷ [] → u.index.room ≡ t.index.room → AreSame (rows_in t.index) (n ∷ rows_in u.index) → StaysKeyed u.index → AreNumbers u
numbers_dropped t u n a listed room recency places freed index_room out moves =
    let before : (m : ℕ) → times m (n ∷ u.recency) ≡ times m t.recency = λ m. ap (λ ns. times m (n ∷ ns)) recency ∙ times_front m n t.recency listed in
    let rows = λ (m : ℕ). sym (out m) in
    let behind : (m : ℕ) → times m u.freed ≡ times m t.freed + times m (n ∷ []) = λ m. ap (λ ns. times m ns) freed ∙ times_append m t.freed (n ∷ []) in
    let free_count : length u.freed ≡ length t.freed + 1 = ap (λ ns. length ns) freed ∙ length-append t.freed (n ∷ []) in
    let row_count : length u.recency + 1 ≡ length t.recency = (let e : length u.recency ≡ length (delete n t.recency) = ap (λ ns. length ns) recency in let d = length-delete n t.recency listed in omega (arith, e, d)) in
    let index_rows = one_fewer n t.index u.index out in
    let place_count : length u.places ≡ length t.places = ap (λ ps. length ps) places in
    let few = a.few in let all = a.count in let small = a.small in let indexes = a.index_count in
    let both : (m : ℕ) → times m u.recency + times m u.freed ≡ times m t.recency + times m t.freed = λ m.
    elim (cases_eq n m) [
      | inl q ↦ (let b = before m in let f = behind m in
          let x : times m (n ∷ u.recency) ≡ 1 + times m u.recency = subst (λ y. times m (y ∷ u.recency) ≡ 1 + times m u.recency) (sym q) (times_here m u.recency) in
          let z : times m (n ∷ []) ≡ 1 = subst (λ y. times m (y ∷ []) ≡ 1) (sym q) (times_here m []) in omega (arith, b, f, x, z))
      | inr far ↦ (let b = before m in let f = behind m in let x = times_there m n u.recency far in let z : times m (n ∷ []) ≡ 0 = times_there m n [] far in omega (arith, b, f, x, z))
    ] in
    record {
      small = omega (arith, small, room);
      few = omega (arith, few, room, place_count);
      given = λ m h. (let g = a.given m (omega (arith, h, place_count)) in let b = both m in omega (arith, g, b));
      others = λ m h. (let g = a.others m (omega (arith, h, place_count)) in let b = both m in omega (arith, g, b));
      count = omega (arith, all, row_count, free_count, place_count);
      room = index_room ∙ (a.room ∙ sym room);
      indexed = λ m. (let r = rows m in let b = before m in let i = a.indexed m in
          elim (cases_eq n m) [
            | inl q ↦ (let x : times m (n ∷ u.recency) ≡ 1 + times m u.recency = subst (λ y. times m (y ∷ u.recency) ≡ 1 + times m u.recency) (sym q) (times_here m u.recency) in
                let z : times m (n ∷ (rows_in u.index)) ≡ 1 + times m (rows_in u.index) = subst (λ y. times m (y ∷ (rows_in u.index)) ≡ 1 + times m (rows_in u.index)) (sym q) (times_here m (rows_in u.index)) in omega (arith, r, b, i, x, z))
            | inr far ↦ (let x = times_there m n u.recency far in let z = times_there m n (rows_in u.index) far in omega (arith, r, b, i, x, z))
          ]);
      index_count = omega (arith, index_rows, row_count, indexes);
      moves = moves;
    }

pub once : (t : TableState) → AreNumbers t → (m : ℕ) → times m t.recency ≤ 1
once t a m = elim (leb_tells (length t.places) m) [ inl h ↦ (let o = a.others m h.1 in omega (arith, o)) | inr h ↦ (let g = a.given m h.1 in omega (arith, g)) ]

pub freed_once : (t : TableState) → AreNumbers t → (m : ℕ) → times m t.freed ≤ 1
freed_once t a m = elim (leb_tells (length t.places) m) [ inl h ↦ (let o = a.others m h.1 in omega (arith, o)) | inr h ↦ (let g = a.given m h.1 in omega (arith, g)) ]

pub listed_below : (t : TableState) → AreNumbers t → (n : ℕ) → IsListed t n → n < length t.places
listed_below t a n h = elim (leb_tells (length t.places) n) [ inl k ↦ absurd (let o = a.others n k.1 in omega (arith, o, h)) | inr k ↦ k.1 ]

pub freed_below : (t : TableState) → AreNumbers t → (n : ℕ) → 1 ≤ times n t.freed → n < length t.places
freed_below t a n h = elim (leb_tells (length t.places) n) [ inl k ↦ absurd (let o = a.others n k.1 in omega (arith, o, h)) | inr k ↦ k.1 ]

pub gone_after : (t : TableState) → AreNumbers t → (n : ℕ) → IsListed t n → times n (delete n t.recency) ≡ 0
gone_after t a n h = (let o = once t a n in let d = times-delete_same n t.recency h in omega (arith, o, d, h))

-- the last element, by its index
last_at : (xs : List ℕ) (n : ℕ) → slice_get xs (length xs - 1) ≡ Some n → last_or None xs ≡ Some n
last_at [] n e = absurd (let clash : None ≡ Some n = e in cc)
last_at (x ∷ []) n e = e
last_at (x ∷ y ∷ ys) n e =
    let len : length (x ∷ y ∷ ys) - 1 ≡ suc (length (y ∷ ys) - 1) = omega arith in
    last_at (y ∷ ys) n (sym (ap (λ k. slice_get (x ∷ y ∷ ys) k) len) ∙ e)

pub last_got : (xs : List ℕ) (n : ℕ) (ys : List ℕ) → ys ≡ xs → slice_get ys (length ys - 1) ≡ Some n → last_or None xs ≡ Some n
last_got xs n ys same e = last_at xs n (subst (λ zs. slice_get zs (length zs - 1) ≡ Some n) same e)

pub last_pushed : (o : Option ℕ) (xs : List ℕ) (n : ℕ) → last_or o (xs ++ n ∷ []) ≡ Some n
last_pushed o [] n = refl
last_pushed o (x ∷ xs) n = last_pushed (Some x) xs n

-- the last number that was given back
last_freed : (least : ℕ) (freed : List ℕ) → ((freed ≡ []) × (number_or least (last_or None freed) ≡ least)) ⊎ (last_or None freed ≡ Some (number_or least (last_or None freed)))
last_freed least [] = inl (refl, refl)
last_freed least (n ∷ []) = inr refl
last_freed least (n ∷ m ∷ ns) = elim (last_freed least (m ∷ ns)) [ inl h ↦ absurd (let clash : m ∷ ns ≡ [] = h.0 in cc) | inr h ↦ inr h ]

-- the next number is no row's
pub next_absent : (t : TableState) → AreNumbers t → times (next_number t) t.recency ≡ 0
next_absent t a = elim (last_freed (length t.places) t.freed) [
  | inl h ↦ subst (λ n. times n t.recency ≡ 0) (sym h.1) (let o = a.others (length t.places) (omega arith) in omega (arith, o))
  | inr h ↦ (let l = last_listed (next_number t) t.freed h in let g = a.given (next_number t) (freed_below t a (next_number t) l) in omega (arith, g, l))
]

pub next_at_most : (t : TableState) → AreNumbers t → next_number t ≤ length t.places
next_at_most t a = elim (last_freed (length t.places) t.freed) [
  | inl h ↦ (let e = h.1 in omega (arith, e))
  | inr h ↦ (let b = freed_below t a (next_number t) (last_listed (next_number t) t.freed h) in omega (arith, b))
]

placed_length : (n : ℕ) (p : Place) (places : List Place) → length (placed n p places) ≡ cond (nat_lt n (length places)) (length places) (length places + 1)
placed_length n p places = elim (leb_tells (suc n) (length places)) [
  | inl h ↦ ap (λ b. length (cond b (slice_set places n p) (places ++ p ∷ []))) h.0 ∙ (length-set places n p ∙ sym (ap (λ b. cond b (length places) (length places + 1)) h.0))
  | inr h ↦ ap (λ b. length (cond b (slice_set places n p) (places ++ p ∷ []))) h.0 ∙ (length-append places (p ∷ []) ∙ sym (ap (λ b. cond b (length places) (length places + 1)) h.0))
]

-- what a new number does to the places and the numbers that were given back
record Given (t : TableState) (n : ℕ) (places : List Place) (freed : List ℕ) : Type 0 where
  below : n < length places
  least : length t.places ≤ length places
  most : length places ≤ t.room
  count : length t.recency + 1 + length freed ≡ length places
  before : (m : ℕ) → m < length t.places → times m (n ∷ freed) ≡ times m t.freed
  new : (m : ℕ) → length t.places ≤ m → m < length places → times m (n ∷ freed) ≡ 1
  behind : (m : ℕ) → length places ≤ m → times m (n ∷ freed) ≡ 0

given_number : (t : TableState) (p : Place) → AreNumbers t → length t.recency < t.room
    → Given t (next_number t) (placed (next_number t) p t.places) (take (length t.freed - 1) t.freed)
given_number t p a room =
    let few = a.few in let count = a.count in let n = next_number t in let len = placed_length n p t.places in
    elim (last_freed (length t.places) t.freed) [
      | inl h ↦
          (let none : length t.freed ≡ 0 = ap (λ ns. length ns) h.0 in
          let rest : (take (length t.freed - 1) t.freed) ≡ [] = ap (λ ns. take (length ns - 1) ns) h.0 in
          let rest_none : length (take (length t.freed - 1) t.freed) ≡ 0 = ap (λ ns. length ns) rest in
          let q : nat_lt n (length t.places) ≡ false = elim (leb_tells (suc n) (length t.places)) [ inl k ↦ absurd (let e = h.1 in let l = k.1 in omega (arith, e, l)) | inr k ↦ k.0 ] in
          let longer : length (placed n p t.places) ≡ length t.places + 1 = len ∙ ap (λ b. cond b (length t.places) (length t.places + 1)) q in
          let is = h.1 in
          let only : (m : ℕ) → times m (n ∷ take (length t.freed - 1) t.freed) ≡ times m (n ∷ []) = λ m. ap (λ ns. times m (n ∷ ns)) rest in
          record {
            below = omega (arith, longer, is);
            least = omega (arith, longer);
            most = omega (arith, longer, count, none, room, few);
            count = omega (arith, longer, count, none, rest_none);
            before = λ m l. (let o = only m in let x = times_there m n [] (λ e. omega (arith, e, is, l)) in
                let f : times m t.freed ≡ 0 = ap (λ ns. times m ns) h.0 in omega (arith, o, x, f));
            new = λ m l k. (let same : n ≡ m = omega (arith, is, l, k, longer) in let o = only m in
                let x : times m (n ∷ []) ≡ 1 = subst (λ y. times m (y ∷ []) ≡ 1) (sym same) (times_here m []) in omega (arith, o, x));
            behind = λ m l. (let o = only m in let x = times_there m n [] (λ e. omega (arith, e, is, l, longer)) in omega (arith, o, x));
          })
      | inr h ↦
          (let l = last_listed n t.freed h in let low = freed_below t a n l in
          let rest = delete_last n t.freed (freed_once t a) h in
          let all : (m : ℕ) → times m (n ∷ take (length t.freed - 1) t.freed) ≡ times m t.freed = λ m. ap (λ ns. times m (n ∷ ns)) (sym rest) ∙ times_front m n t.freed l in
          let q : nat_lt n (length t.places) ≡ true = elim (leb_tells (suc n) (length t.places)) [ inl k ↦ k.0 | inr k ↦ absurd (let g = k.1 in omega (arith, g, low)) ] in
          let long : length (placed n p t.places) ≡ length t.places = len ∙ ap (λ b. cond b (length t.places) (length t.places + 1)) q in
          let fewer : length (take (length t.freed - 1) t.freed) + 1 ≡ length t.freed = (let e : length (delete n t.freed) ≡ length (take (length t.freed - 1) t.freed) = ap (λ ns. length ns) rest in let d = length-delete n t.freed l in omega (arith, e, d)) in
          record {
            below = omega (arith, long, low);
            least = omega (arith, long);
            most = omega (arith, long, few);
            count = omega (arith, long, count, fewer);
            before = λ m k. all m;
            new = λ m k j. absurd (omega (arith, long, k, j));
            behind = λ m k. (let e = all m in let o = a.others m (omega (arith, long, k)) in omega (arith, e, o));
          })
    ]

-- a number is given
pub numbers_added : (t u : TableState) (p : Place) → AreNumbers t → length t.recency < t.room → u.room ≡ t.room
    → u.recency ≡ next_number t ∷ t.recency → u.places ≡ placed (next_number t) p t.places → u.freed ≡ take (length t.freed - 1) t.freed
    → u.index.room ≡ t.index.room → AreSame (next_number t ∷ rows_in t.index) (rows_in u.index) → StaysKeyed u.index → AreNumbers u
numbers_added t u p a room same_room recency places freed index_room put moves =
    let n = next_number t in
    let given : Given t n u.places u.freed = subst (λ ps. Given t n ps u.freed) (sym places) (subst (λ ns. Given t n (placed n p t.places) ns) (sym freed) (given_number t p a room)) in
    let small = a.small in let indexes = a.index_count in
    let least = given.least in let most = given.most in let count = given.count in
    let rows : (m : ℕ) → times m u.recency ≡ times m (n ∷ t.recency) = λ m. ap (λ ns. times m ns) recency in
    let row_count : length u.recency ≡ suc (length t.recency) = ap (λ ns. length ns) recency in
    let index_rows = one_fewer n u.index t.index (λ m. sym (put m)) in
    let move : (m : ℕ) → times m u.recency + times m u.freed ≡ times m t.recency + times m (n ∷ u.freed) = λ m.
    (let r = rows m in elim (cases_eq n m) [
      | inl q ↦ (let x : times m (n ∷ t.recency) ≡ 1 + times m t.recency = subst (λ y. times m (y ∷ t.recency) ≡ 1 + times m t.recency) (sym q) (times_here m t.recency) in
          let z : times m (n ∷ u.freed) ≡ 1 + times m u.freed = subst (λ y. times m (y ∷ u.freed) ≡ 1 + times m u.freed) (sym q) (times_here m u.freed) in omega (arith, r, x, z))
      | inr far ↦ (let x = times_there m n t.recency far in let z = times_there m n u.freed far in omega (arith, r, x, z))
    ]) in
    record {
      small = omega (arith, small, same_room);
      few = omega (arith, most, same_room);
      given = λ m h. (let e = move m in elim (leb_tells (length t.places) m) [
        | inl k ↦ (let o = a.others m k.1 in let x = given.new m k.1 h in omega (arith, e, o, x))
        | inr k ↦ (let g = a.given m k.1 in let x = given.before m k.1 in omega (arith, e, g, x))
      ]);
      others = λ m h. (let e = move m in let o = a.others m (omega (arith, h, least)) in let x = given.behind m h in omega (arith, e, o, x));
      count = omega (arith, row_count, count);
      room = index_room ∙ (a.room ∙ sym same_room);
      indexed = λ m. sym (put m) ∙ (
          elim (cases_eq n m) [
            | inl q ↦ (let x : times m (n ∷ t.recency) ≡ 1 + times m t.recency = subst (λ y. times m (y ∷ t.recency) ≡ 1 + times m t.recency) (sym q) (times_here m t.recency) in
                let z : times m (n ∷ (rows_in t.index)) ≡ 1 + times m (rows_in t.index) = subst (λ y. times m (y ∷ (rows_in t.index)) ≡ 1 + times m (rows_in t.index)) (sym q) (times_here m (rows_in t.index)) in
                let i = a.indexed m in let r = rows m in omega (arith, x, z, i, r))
            | inr far ↦ (let x = times_there m n t.recency far in let z = times_there m n (rows_in t.index) far in let i = a.indexed m in let r = rows m in omega (arith, x, z, i, r))
          ]);
      index_count = omega (arith, index_rows, indexes, row_count);
      moves = moves;
    }

-- ---- what the calls ask of the next number

all_below : (least : ℕ) (xs : List ℕ) → ((n : ℕ) → 1 ≤ times n xs → n < least) → AllByRecursion (λ n. n < least) xs
all_below least [] h = tt
all_below least (x ∷ xs) h = (h x (listed_here x xs), all_below least xs (λ n l. h n (listed_later n x xs l)))

pub all_freed_below : (t : TableState) → AreNumbers t → All (λ n. n < length t.places) t.freed
all_freed_below t a = All-from_recursion (λ n. n < length t.places) t.freed (all_below (length t.places) t.freed (freed_below t a))

pub next_below_room : (t : TableState) → AreNumbers t → length t.recency < t.room → next_number t < t.room
next_below_room t a room = elim (last_freed (length t.places) t.freed) [
  | inl h ↦ (let none : length t.freed ≡ 0 = ap (λ ns. length ns) h.0 in let is = h.1 in let count = a.count in omega (arith, none, is, count, room))
  | inr h ↦ (let b = freed_below t a (next_number t) (last_listed (next_number t) t.freed h) in let few = a.few in omega (arith, b, few))
]
