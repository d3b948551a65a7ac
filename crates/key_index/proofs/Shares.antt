-- First bytes that keys share.
use Rattle.std.proofs.Common.{◌≡◌, ◌≢◌, ℕ, zero, suc, ◌+◌, ◌-◌, ◌*◌, ◌/◌, ◌^◌, ◌<◌, ◌≤◌, inl, inr, false, List, [], ◌∷◌, ◌++◌, length, take, drop, refl, sym, ap, subst, ◌∙◌, arith, Less, Greater, nat_cmp, true≢false}
use Rattle.std.specs.Ordering.{is_gt}
use Rattle.std.specs.Cmp.Lexicographic.{slice_cmp}
use Rattle.std.proofs.lemmas.Bool.{cases_eq, cases_lt}
use Rattle.std.proofs.lemmas.Bool.Decides.{nat_tests}
use Rattle.std.proofs.lemmas.List.{take-take}
use Rattle.rows.specs.Key.{Key}
use Rattle.key_index.specs.Order.{key_cmp, Each}
use Rattle.key_index.specs.Lead.{first_bytes, lead_behind, AreBytes}
use Rattle.key_index.specs.inside.Shared.{coded, HaveSame, Share, IsLowBound, IsHighBound}
use Rattle.key_index.proofs.Leads.{behind, bytes_drop, first_below, head_less, head_same, lead_less}

pub share_none : (a b : Key) → Share 0 a b
share_none a b = record { in_first = omega arith; in_second = omega arith; same = refl }

pub share_fewer : (m n : ℕ) (a b : Key) → m ≤ n → Share n a b → Share m a b
share_fewer m n a b h s = record {
  in_first = (let i = s.in_first in omega (arith, i, h));
  in_second = (let i = s.in_second in omega (arith, i, h));
  same = sym (take-take m n (coded a) h) ∙ ap (take m) s.same ∙ take-take m n (coded b) h;
}

pub share_back : (n : ℕ) (a b : Key) → Share n a b → Share n b a
share_back n a b s = record { in_first = s.in_second; in_second = s.in_first; same = sym s.same }

-- ---- the order of keys, by their tables and by their bytes

-- behind bytes that two lists share they are in the same order
pub same_behind : (n : ℕ) (a b : List ℕ) → HaveSame n a b → slice_cmp nat_cmp a b ≡ slice_cmp nat_cmp (drop n a) (drop n b)
same_behind n a b s = behind n a b s.same

share_behind : (n : ℕ) (a b : Key) → Share n a b → key_cmp a b ≡ slice_cmp nat_cmp (drop n (coded a)) (drop n (coded b))
unfolding key_cmp
share_behind n a b s = behind n (coded a) (coded b) s.same

cell_less : (a b : ℕ) → a < b → nat_cmp a b ≡ Less
cell_less a b h = grind (arith, nat_tests)

cell_more : (a b : ℕ) → b < a → nat_cmp a b ≡ Greater
cell_more a b h = grind (arith, nat_tests)

head_more : (a b : ℕ) (xs ys : List ℕ) → b < a → slice_cmp nat_cmp (a ∷ xs) (b ∷ ys) ≡ Greater
head_more a b xs ys h = grind (arith, nat_tests)

less_table : (a b : Key) → a.table < b.table → key_cmp a b ≡ Less
unfolding key_cmp
less_table a b h = head_less a.table b.table a.bytes b.bytes h

more_table : (a b : Key) → b.table < a.table → key_cmp a b ≡ Greater
unfolding key_cmp
more_table a b h = head_more a.table b.table a.bytes b.bytes h

-- keys of two tables are in the order of these
pub apart_cmp : (a b : Key) → a.table ≢ b.table → nat_cmp a.table b.table ≡ key_cmp a b
apart_cmp a b apart =
    elim (cases_lt a.table b.table) [
      | inl h ↦ before h
      | inr h ↦ elim (cases_eq a.table b.table) [
        | inl same ↦ absurd (apart same)
        | inr other ↦ after (omega (arith, h, other))
      ]
    ]
  where
    before : a.table < b.table → nat_cmp a.table b.table ≡ key_cmp a b
    before h = cell_less a.table b.table h ∙ sym (less_table a b h)

    after : b.table < a.table → nat_cmp a.table b.table ≡ key_cmp a b
    after h = cell_more a.table b.table h ∙ sym (more_table a b h)

-- keys of one table are in the order of their bytes
pub same_cmp : (a b : Key) → a.table ≡ b.table → slice_cmp nat_cmp a.bytes b.bytes ≡ key_cmp a b
unfolding key_cmp
same_cmp a b e =
    subst (λ (t : ℕ). slice_cmp nat_cmp a.bytes b.bytes ≡ slice_cmp nat_cmp (a.table ∷ a.bytes) (t ∷ b.bytes)) e
    (sym (head_same a.table a.bytes b.bytes))

-- what keys share behind the table, their bytes share
pub share_bytes : (n m : ℕ) (a b : Key) → m ≡ n - 1 → Share n a b → HaveSame m a.bytes b.bytes
share_bytes zero m a b is s = subst (λ k. HaveSame k a.bytes b.bytes) (omega (arith, is)) none
  where
    none : HaveSame 0 a.bytes b.bytes
    none = record { in_first = omega arith; in_second = omega arith; same = refl }
share_bytes (suc n) m a b is s = subst (λ k. HaveSame k a.bytes b.bytes) (omega (arith, is)) rest
  where
    tail : (x y : ℕ) (xs ys : List ℕ) → x ∷ xs ≡ y ∷ ys → xs ≡ ys
    tail x y xs ys e = cc

    rest : HaveSame n a.bytes b.bytes
    rest = record {
      in_first = (let i : suc n ≤ suc (length a.bytes) = s.in_first in omega (arith, i));
      in_second = (let i : suc n ≤ suc (length b.bytes) = s.in_second in omega (arith, i));
      same = tail a.table b.table (take n a.bytes) (take n b.bytes) s.same;
    }

-- what the bytes of keys of one table share, the keys share behind it
pub share_table : (n m : ℕ) (a b : Key) → m ≤ suc n → a.table ≡ b.table → HaveSame n a.bytes b.bytes → Share m a b
share_table n m a b few e s = share_fewer m (suc n) a b few whole
  where
    longer : (i j : ℕ) → i ≤ j → suc i ≤ suc j
    longer i j h = omega (arith, h)

    whole : Share (suc n) a b
    whole = record {
      in_first = longer n (length a.bytes) s.in_first;
      in_second = longer n (length b.bytes) s.in_second;
      same = ap (λ (t : ℕ). t ∷ take n a.bytes) e ∙ ap (λ (xs : List ℕ). b.table ∷ xs) s.same;
    }

-- ---- leads

-- leads of three bits and the rest are in the order of both
front_less : (s t x y : ℕ) → x < 256 ^ 8 → y < 256 ^ 8 → s * 2 ^ 61 + x / 8 < t * 2 ^ 61 + y / 8 → s ≤ t
front_less s t x y f g h = omega (arith, f, g, h)

rest_less : (s t x y : ℕ) → s ≡ t → s * 2 ^ 61 + x / 8 < t * 2 ^ 61 + y / 8 → x < y
rest_less s t x y e h = omega (arith, e, h)

first_tells : (a b : Key) → AreBytes a.bytes → AreBytes b.bytes → lead_behind 0 a < lead_behind 0 b → key_cmp a b ≡ Less
unfolding lead_behind
first_tells a b f g less =
    elim (cases_lt a.table b.table) [
      | inl h ↦ less_table a b h
      | inr h ↦ in_one (omega (arith, h, most))
    ]
  where
    most : a.table ≤ b.table
    most = front_less a.table b.table (first_bytes 8 a.bytes) (first_bytes 8 b.bytes) (first_below 8 a.bytes f) (first_below 8 b.bytes g) less

    in_one : a.table ≡ b.table → key_cmp a b ≡ Less
    in_one e = sym (same_cmp a b e) ∙ lead_less 8 a.bytes b.bytes f g (rest_less a.table b.table (first_bytes 8 a.bytes) (first_bytes 8 b.bytes) e less)

-- where the leads differ behind bytes that two keys share, the keys differ so
pub lead_tells : (skip n : ℕ) (a b : Key) → skip ≤ n → Share n a b → AreBytes a.bytes → AreBytes b.bytes → lead_behind skip a < lead_behind skip b → key_cmp a b ≡ Less
unfolding lead_behind
lead_tells zero n a b h s f g less = first_tells a b f g less
lead_tells (suc skip) n a b h s f g less =
    share_behind (suc skip) a b (share_fewer (suc skip) n a b h s)
    ∙ lead_less 8 (drop skip a.bytes) (drop skip b.bytes) (bytes_drop skip a.bytes f) (bytes_drop skip b.bytes g) less

-- ---- a key between two keys that share bytes has these bytes

head_most : (a b : ℕ) (xs ys : List ℕ) → is_gt (slice_cmp nat_cmp (a ∷ xs) (b ∷ ys)) ≡ false → a ≤ b
head_most a b xs ys e =
    elim (cases_lt b a) [
      | inl l ↦ absurd (true≢false (sym (ap is_gt (head_more a b xs ys l)) ∙ e))
      | inr g ↦ g
    ]

tail_most : (a b : ℕ) (xs ys : List ℕ) → a ≡ b → is_gt (slice_cmp nat_cmp (a ∷ xs) (b ∷ ys)) ≡ false → is_gt (slice_cmp nat_cmp xs ys) ≡ false
tail_most a b xs ys same e = sym (ap is_gt (head_same a xs ys)) ∙ subst (λ z. is_gt (slice_cmp nat_cmp (a ∷ xs) (z ∷ ys)) ≡ false) (sym same) e

squeeze : (n : ℕ) (a b c : List ℕ) → is_gt (slice_cmp nat_cmp a b) ≡ false → is_gt (slice_cmp nat_cmp b c) ≡ false → n ≤ length a → n ≤ length c → take n a ≡ take n c
    → (n ≤ length b) × (take n a ≡ take n b)
squeeze zero a b c f g h i e = (omega arith, refl)
squeeze (suc n) [] b c f g h i e = absurd (omega arith)
squeeze (suc n) (x ∷ a) b [] f g h i e = absurd (omega arith)
squeeze (suc n) (x ∷ a) [] (z ∷ c) f g h i e = absurd (true≢false f)
squeeze (suc n) (x ∷ a) (y ∷ b) (z ∷ c) f g h i e =
    let head : x ≡ z = cc in
    let tail : take n a ≡ take n c = cc in
    let low = head_most x y a b f in
    let high = head_most y z b c g in
    let left : x ≡ y = omega (arith, low, high, head) in
    let right : y ≡ z = omega (arith, low, high, head) in
    let more = squeeze n a b c (tail_most x y a b left f) (tail_most y z b c right g) (omega arith) (omega arith) tail in
    (omega (arith, more.0), ap (λ (v : ℕ). v ∷ take n a) left ∙ ap (λ (vs : List ℕ). y ∷ vs) more.1)

share_between : (n : ℕ) (a b c : Key) → is_gt (key_cmp a b) ≡ false → is_gt (key_cmp b c) ≡ false → Share n a c → Share n a b
unfolding key_cmp
share_between n a b c f g s =
    let r = squeeze n (coded a) (coded b) (coded c) f g s.in_first s.in_second s.same in
    record { in_first = s.in_first; in_second = r.0; same = r.1 }

share_along : (n : ℕ) (a b c : Key) → Share n a b → Share n b c → Share n a c
share_along n a b c s t = record { in_first = s.in_first; in_second = t.in_second; same = s.same ∙ t.same }

-- a key between two bounds, and each row between them
pub share_bounded : (key_of : ℕ → Key) (key : Key) (rows : List ℕ) (l h m : ℕ) → m ≤ l → m ≤ h → IsLowBound key_of key rows l → IsHighBound key_of key rows h
    → Each (λ row. Share m (key_of row) key) rows
share_bounded key_of key rows l h m f g (inl e) high = none rows
  where
    none : (rows : List ℕ) → Each (λ row. Share m (key_of row) key) rows
    none [] = tt
    none (x ∷ rows) = (share_fewer m 0 (key_of x) key (omega arith) (share_none (key_of x) key), none rows)
share_bounded key_of key rows l h m f g (inr low) (inl e) = none rows
  where
    none : (rows : List ℕ) → Each (λ row. Share m (key_of row) key) rows
    none [] = tt
    none (x ∷ rows) = (share_fewer m 0 (key_of x) key (omega arith) (share_none (key_of x) key), none rows)
share_bounded key_of key rows l h m f g (inr (r, above, most, s)) (inr (t, below, least, u)) = go rows above below
  where
    ends : Share m (key_of r) (key_of t)
    ends = share_along m (key_of r) key (key_of t) (share_fewer m l (key_of r) key f s) (share_back m (key_of t) key (share_fewer m h (key_of t) key g u))

    go : (rows : List ℕ) → Each (λ row. is_gt (key_cmp (key_of r) (key_of row)) ≡ false) rows → Each (λ row. is_gt (key_cmp (key_of row) (key_of t)) ≡ false) rows → Each (λ row. Share m (key_of row) key) rows
    go [] a b = tt
    go (x ∷ rows) a b = (
      share_along m (key_of x) (key_of r) key (share_back m (key_of r) (key_of x) (share_between m (key_of r) (key_of x) (key_of t) a.0 b.0 ends)) (share_fewer m l (key_of r) key f s),
      go rows a.1 b.1,
    )

-- two lists that have the same bytes behind those that they share
pub same_more : (n m : ℕ) (a b : List ℕ) → HaveSame n a b → n + m ≤ length a → n + m ≤ length b → take m (drop n a) ≡ take m (drop n b) → HaveSame (n + m) a b
same_more n m a b s f g e = record { in_first = f; in_second = g; same = sym (sums n m a) ∙ ap (λ (xs : List ℕ). xs ++ take m (drop n a)) s.same ∙ ap (λ (xs : List ℕ). take n b ++ xs) e ∙ sums n m b }
  where
    sums : (n m : ℕ) (xs : List ℕ) → take n xs ++ take m (drop n xs) ≡ take (n + m) xs
    sums zero m xs = ap (λ (k : ℕ). take k xs) (let e : m ≡ zero + m = omega arith in e)
    sums (suc n) m [] = none m ∙ sym (none (suc n + m))
      where
        none : (k : ℕ) → take {A = ℕ} k [] ≡ []
        none zero = refl
        none (suc k) = refl
    sums (suc n) m (x ∷ xs) = ap (λ (ys : List ℕ). x ∷ ys) (sums n m xs) ∙ ap (λ (k : ℕ). take k (x ∷ xs)) (let e : suc (n + m) ≡ suc n + m = omega arith in e)
