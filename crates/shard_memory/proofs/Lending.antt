-- The blocks that are out and the tickets, after one of them is lent, comes home, is given or comes back.
use Rattle.std.proofs.Common.{◌≡◌, ◌≢◌, ℕ, suc, ◌+◌, ◌<◌, ◌≤◌, ◌⊎◌, inl, inr, Bool, true, false, cond, not, ◌==◌, eq-eqb, List, [], ◌∷◌, length, length-set, set, Option, Some, None, slice_get, refl, sym, ap, subst, ◌∙◌, arith}
use Rattle.std.specs.Prelude.{All, IsNone, Contains, filter}
use Rattle.std.proofs.lemmas.Bool.{ne_eqb, cases_eq}
use Rattle.std.proofs.lemmas.Option.{none-some, same_Some}
use Rattle.std.proofs.lemmas.List.Elements.{All-tail, All-head, All-contains}
use denote.RawPtr.{Ptr}
use Rattle.layout.specs.Extents.{Extent, Disjoint, IsWithin, AreDisjoint}
use Rattle.layout.specs.Sizes.{tickets}
use Rattle.raw_range.specs.Memory.{remove_extent}
use Rattle.foreign_list.specs.declared.piece_id.PieceId.{PieceId}
use Rattle.shard_memory.specs.Tickets.{Tickets, IsIdle, IsLentWith}
use Rattle.shard_memory.specs.Shards.{lent_extent}
use Rattle.shard_memory.specs.inside.Lending.{is_lent_at, staying, AreLent}
use Rattle.shard_memory.proofs.Lists.{has_first, has_later, kept_by, kept, not_apart, same_place, two_apart, filter_swap, remove_one, passes, disjoint_still}
use Rattle.shard_memory.proofs.Tickets.{got_set, got_past_set, out_set, none_out, all_idle_out, lent_at_same, lent_at_there, lent_at_from, begins_elsewhere}

abbrev pub stays : Tickets → Extent → Bool
stays lent b = not (is_lent_at lent b.start)

-- ---- filters

same_filter : (p q : Extent → Bool) (xs : List Extent) → ((x : Extent) → Contains xs x → p x ≡ q x) → filter p xs ≡ filter q xs
same_filter p q [] h = refl
same_filter p q (x ∷ xs) h =
    ap (λ b. cond b (x ∷ filter p xs) (filter p xs)) (h x (has_first x xs)) ∙ ap (λ ys. cond (q x) (x ∷ ys) ys) (same_filter p q xs (λ y c. h y (has_later x y xs c)))

filter_both : (p u q : Extent → Bool) (xs : List Extent) → ((x : Extent) → cond (u x) (p x) false ≡ q x) → filter p (filter u xs) ≡ filter q xs
filter_both p u q [] h = refl
filter_both p u q (x ∷ xs) h =
    elim (u x) as (λ b. cond b (p x) false ≡ q x → filter p (cond b (x ∷ filter u xs) (filter u xs)) ≡ cond (q x) (x ∷ filter q xs) (filter q xs)) [
      | true ↦ λ e. ap (λ ys. cond (p x) (x ∷ ys) ys) (filter_both p u q xs h) ∙ ap (λ b. cond b (x ∷ filter q xs) (filter q xs)) e
      | false ↦ λ e. filter_both p u q xs h ∙ ap (λ b. cond b (x ∷ filter q xs) (filter q xs)) e
    ] (h x)

-- the first of disjoint extents begins where no other one does
pub first_apart : (size : ℕ) (e b : Extent) (blocks : List Extent) → AreDisjoint size (e ∷ blocks) → Contains blocks b → b.start ≢ e.start
first_apart size e b blocks h has is =
    let apart : All (Disjoint e) blocks = (λ k d l. h.1 0 (suc k) d (omega arith) (omega (arith, l))) in
    let some = All-head (IsWithin size) e blocks h.0 in
    let more = All-contains (IsWithin size) blocks b (All-tail (IsWithin size) e blocks h.0) has in
    not_apart e b some.0 more.0 (sym is) (All-contains (Disjoint e) blocks b apart has)

pub same_lent : (lent : Tickets) (home home' : Ptr) (owner owner' : ℕ) (blocks blocks' : List Extent) → home ≡ home' → owner ≡ owner' → blocks ≡ blocks' → AreLent lent home owner blocks → AreLent lent home' owner' blocks'
same_lent lent home home' owner owner' blocks blocks' h o b was =
    subst (AreLent lent home' owner') b (subst (λ w. AreLent lent home' w blocks) o (subst (λ p. AreLent lent p owner blocks) h was))

-- ---- a block is lent

pub still_staying : (lent : Tickets) (t size : ℕ) (a : PieceId) (blocks : List Extent) → IsIdle lent t → AreDisjoint size (lent_extent a ∷ blocks) → staying (set lent t (Some a)) (lent_extent a ∷ blocks) ≡ staying lent blocks
still_staying lent t size a blocks idle disjoint =
    let new = set lent t (Some a) in
    let out : not (is_lent_at new a.at) ≡ false = ap not (lent_at_there new t a (got_set lent t None (Some a) idle)) in
    ap (λ b. cond b (lent_extent a ∷ staying new blocks) (staying new blocks)) out
    ∙ same_filter (λ b. not (is_lent_at new b.start)) (λ b. not (is_lent_at lent b.start)) blocks
    (λ b has. ap not (lent_at_same b.start lent t None (Some a) idle (begins_elsewhere a b.start (λ e. first_apart size (lent_extent a) b blocks disjoint has (sym e)))))

pub lent_one : (lent : Tickets) (home : Ptr) (owner t size : ℕ) (a : PieceId) (blocks : List Extent) → AreLent lent home owner blocks → IsIdle lent t → AreDisjoint size (lent_extent a ∷ blocks) → a.range ≡ home → a.owner ≡ owner
    → AreLent (set lent t (Some a)) home owner (lent_extent a ∷ blocks)
lent_one lent home owner t size a blocks was idle disjoint range of = record {
  count = length_set lent t (Some a) ∙ was.count;
  pieces = λ u b is. pieces u b is (cases_eq u t);
  each = λ u v b d is at same. each u v b d is at same (cases_eq u t) (cases_eq v t);
  out = (let s = ap length stay in let n = was.out in let o = out_set lent t None (Some a) idle in omega (arith, s, n, o));
  few = subst (λ xs. length xs ≤ 1024) (sym stay) was.few;
}
  where
    new : Tickets
    new = set lent t (Some a)

    stay : staying (set lent t (Some a)) (lent_extent a ∷ blocks) ≡ staying lent blocks
    stay = still_staying lent t size a blocks idle disjoint

    length_set : (xs : Tickets) (t : ℕ) (o : Option PieceId) → length (set xs t o) ≡ length xs
    length_set xs t o = simp length-set

    this : (b : PieceId) → IsLentWith (set lent t (Some a)) t b → a ≡ b
    this b is = same_Some a b (same_Some (Some a) (Some b) (sym (got_set lent t None (Some a) idle) ∙ is))

    other : (u : ℕ) (b : PieceId) → u ≢ t → IsLentWith (set lent t (Some a)) u b → IsLentWith lent u b
    other u b n is = sym (got_past_set lent t u (Some a) n) ∙ is

    pieces : (u : ℕ) (b : PieceId) → IsLentWith (set lent t (Some a)) u b → (u ≡ t) ⊎ (u ≢ t) → (b.range ≡ home) × (b.owner ≡ owner) × Contains (lent_extent a ∷ blocks) (lent_extent b)
    pieces u b is (inl e) =
        let same : a ≡ b = this b (subst (λ z. slice_get (set lent t (Some a)) z ≡ Some (Some b)) e is) in
        subst (λ (z : PieceId). (z.range ≡ home) × (z.owner ≡ owner) × Contains (lent_extent a ∷ blocks) (lent_extent z)) same (range, of, has_first (lent_extent a) blocks)
    pieces u b is (inr n) = let old = was.pieces u b (other u b n is) in (old.0, old.1, has_later (lent_extent a) (lent_extent b) blocks old.2)

    alone : (v : ℕ) (b d : PieceId) → a ≡ b → IsLentWith lent v d → b.at ≢ d.at
    alone v b d same is e = first_apart size (lent_extent a) (lent_extent d) blocks disjoint (was.pieces v d is).2 (sym e ∙ sym (ap (λ (z : PieceId). z.at) same))

    each : (u v : ℕ) (b d : PieceId) → IsLentWith (set lent t (Some a)) u b → IsLentWith (set lent t (Some a)) v d → b.at ≡ d.at → (u ≡ t) ⊎ (u ≢ t) → (v ≡ t) ⊎ (v ≢ t) → u ≡ v
    each u v b d is at same (inl e) (inl f) = e ∙ sym f
    each u v b d is at same (inl e) (inr f) = absurd (alone v b d (this b (subst (λ z. slice_get (set lent t (Some a)) z ≡ Some (Some b)) e is)) (other v d f at) same)
    each u v b d is at same (inr e) (inl f) = absurd (alone u d b (this d (subst (λ z. slice_get (set lent t (Some a)) z ≡ Some (Some d)) f at)) (other u b e is) (sym same))
    each u v b d is at same (inr e) (inr f) = was.each u v b d (other u b e is) (other v d f at) same

-- ---- a lent block comes home

pub staying_still : (lent : Tickets) (t : ℕ) (a : PieceId) (blocks : List Extent) → IsLentWith lent t a → staying (set lent t None) (remove_extent (lent_extent a) blocks) ≡ staying lent blocks
staying_still lent t a blocks is =
    filter_both (λ b. not (is_lent_at (set lent t None) b.start)) (λ b. not (b.start == a.at)) (λ b. not (is_lent_at lent b.start)) blocks (λ b. by b (cases_eq b.start a.at))
  where
    by : (b : Extent) → (b.start ≡ a.at) ⊎ (b.start ≢ a.at) → cond (not (b.start == a.at)) (not (is_lent_at (set lent t None) b.start)) false ≡ not (is_lent_at lent b.start)
    by b (inl e) = ap (λ z. cond (not z) (not (is_lent_at (set lent t None) b.start)) false) (eq-eqb b.start a.at e) ∙ sym (ap not (ap (is_lent_at lent) e ∙ lent_at_there lent t a is))
    by b (inr n) = ap (λ z. cond (not z) (not (is_lent_at (set lent t None) b.start)) false) (ne_eqb b.start a.at n)
        ∙ ap not (lent_at_same b.start lent t (Some a) None is (sym (begins_elsewhere a b.start (λ e. n (sym e)))))

pub came_home : (lent : Tickets) (home : Ptr) (owner t size : ℕ) (a : PieceId) (blocks : List Extent) → AreLent lent home owner blocks → IsLentWith lent t a → AreDisjoint size blocks → AreLent (set lent t None) home owner (remove_extent (lent_extent a) blocks)
came_home lent home owner t size a blocks was lends disjoint = record {
  count = (let e : length (set lent t None) ≡ length lent = simp length-set in e ∙ was.count);
  pieces = λ u b is. (let old = was.pieces u b (before u b is) in (
    old.0,
    old.1,
    kept (lent_extent a) (lent_extent b) blocks old.2 (λ e. elsewhere u b is (was.each u t b a (before u b is) lends e)),
  ));
  each = λ u v b d is at same. was.each u v b d (before u b is) (before v d at) same;
  out = (let s = ap length stay in let n = was.out in let o = out_set lent t (Some a) None lends in let r = remove_one size (lent_extent a) blocks disjoint (was.pieces t a lends).2 in omega (arith, s, n, o, r));
  few = subst (λ xs. length xs ≤ 1024) (sym stay) was.few;
}
  where
    stay : staying (set lent t None) (remove_extent (lent_extent a) blocks) ≡ staying lent blocks
    stay = staying_still lent t a blocks lends

    elsewhere : (u : ℕ) (b : PieceId) → IsLentWith (set lent t None) u b → u ≢ t
    elsewhere u b is e = none-some b (same_Some None (Some b) (sym (got_set lent t (Some a) None lends) ∙ subst (λ z. slice_get (set lent t None) z ≡ Some (Some b)) e is))

    before : (u : ℕ) (b : PieceId) → IsLentWith (set lent t None) u b → IsLentWith lent u b
    before u b is = sym (got_past_set lent t u None (elsewhere u b is)) ∙ is

-- ---- a block that stays is given

pub one_staying : (lent : Tickets) (home : Ptr) (owner size : ℕ) (e : Extent) (blocks : List Extent) → AreLent lent home owner blocks → AreDisjoint size (e ∷ blocks) → staying lent (e ∷ blocks) ≡ e ∷ staying lent blocks
one_staying lent home owner size e blocks was disjoint = ap (λ b. cond (not b) (e ∷ staying lent blocks) (staying lent blocks)) (by (is_lent_at lent e.start) refl)
  where
    by : (b : Bool) → is_lent_at lent e.start ≡ b → is_lent_at lent e.start ≡ false
    by false is = is
    by true is = let found = lent_at_from lent e.start is in absurd (first_apart size e (lent_extent found.1) blocks disjoint (was.pieces found.0 found.1 found.2).2 found.3)

pub given_one : (lent : Tickets) (home : Ptr) (owner size : ℕ) (e : Extent) (blocks : List Extent) → AreLent lent home owner blocks → AreDisjoint size (e ∷ blocks) → length (staying lent blocks) < 1024 → AreLent lent home owner (e ∷ blocks)
given_one lent home owner size e blocks was disjoint few = record {
  count = was.count;
  pieces = λ u b is. (let old = was.pieces u b is in (old.0, old.1, has_later e (lent_extent b) blocks old.2));
  each = was.each;
  out = (let s = ap length stay in let n = was.out in omega (arith, s, n));
  few = (let s = ap length stay in omega (arith, s, few));
}
  where
    stay : staying lent (e ∷ blocks) ≡ e ∷ staying lent blocks
    stay = one_staying lent home owner size e blocks was disjoint

-- ---- a block that stays comes back

pub less_staying : (lent : Tickets) (e : Extent) (blocks : List Extent) → staying lent (remove_extent e blocks) ≡ remove_extent e (staying lent blocks)
less_staying lent e blocks = filter_swap (λ b. not (is_lent_at lent b.start)) (λ b. not (b.start == e.start)) blocks

pub staying_block : (lent : Tickets) (e : Extent) (blocks : List Extent) → Contains (staying lent blocks) e → Contains blocks e
staying_block lent e blocks has = (passes (λ b. not (is_lent_at lent b.start)) blocks e has).0

pub one_less : (lent : Tickets) (size : ℕ) (e : Extent) (blocks : List Extent) → AreDisjoint size blocks → Contains (staying lent blocks) e → length (staying lent (remove_extent e blocks)) + 1 ≡ length (staying lent blocks)
one_less lent size e blocks disjoint has =
    ap (λ xs. length xs + 1) (less_staying lent e blocks) ∙ remove_one size e (staying lent blocks) (disjoint_still (λ b. not (is_lent_at lent b.start)) size blocks disjoint) has

pub back_one : (lent : Tickets) (home : Ptr) (owner size : ℕ) (e : Extent) (blocks : List Extent) → AreLent lent home owner blocks → AreDisjoint size blocks → Contains (staying lent blocks) e → AreLent lent home owner (remove_extent e blocks)
back_one lent home owner size e blocks was disjoint has = record {
  count = was.count;
  pieces = λ u b is. (let old = was.pieces u b is in (old.0, old.1, kept e (lent_extent b) blocks old.2 (other u b is)));
  each = was.each;
  out = (let less = one_less lent size e blocks disjoint has in let all = remove_one size e blocks disjoint (staying_block lent e blocks has) in let n = was.out in omega (arith, less, all, n));
  few = (let less = one_less lent size e blocks disjoint has in let n = was.few in omega (arith, less, n));
}
  where
    other : (u : ℕ) (b : PieceId) → IsLentWith lent u b → b.at ≢ e.start
    other u b is same =
        let out : not (is_lent_at lent e.start) ≡ true = (passes (λ z. not (is_lent_at lent z.start)) blocks e has).1 in
        let clash : false ≡ true = sym (ap not (ap (is_lent_at lent) (sym same) ∙ lent_at_there lent u b is)) ∙ out in cc

-- ---- what holds at each time

pub apart_from_lent : (lent : Tickets) (home : Ptr) (owner size : ℕ) (blocks : List Extent) (t : ℕ) (a : PieceId) (b : Extent) → AreLent lent home owner blocks → AreDisjoint size blocks → IsLentWith lent t a → Contains (staying lent blocks) b
    → Disjoint b (lent_extent a)
apart_from_lent lent home owner size blocks t a b was disjoint is has = elim (two_apart size blocks b (lent_extent a) disjoint (staying_block lent b blocks has) (was.pieces t a is).2) [
  | inl same ↦ absurd (let clash : false ≡ true = sym (ap not (ap (λ (e : Extent). is_lent_at lent e.start) same ∙ lent_at_there lent t a is)) ∙ (passes (stays lent) blocks b has).1 in cc)
  | inr apart ↦ apart
]

pub lent_apart : (lent : Tickets) (home : Ptr) (owner size : ℕ) (blocks : List Extent) (t u : ℕ) (a b : PieceId) → AreLent lent home owner blocks → AreDisjoint size blocks → IsLentWith lent t a → IsLentWith lent u b → t ≢ u
    → Disjoint (lent_extent a) (lent_extent b)
lent_apart lent home owner size blocks t u a b was disjoint is at other = elim (two_apart size blocks (lent_extent a) (lent_extent b) disjoint (was.pieces t a is).2 (was.pieces u b at).2) [
  | inl same ↦ absurd (other (was.each t u a b is at (ap (λ (e : Extent). e.start) same)))
  | inr apart ↦ apart
]

pub block_of_either : (lent : Tickets) (home : Ptr) (owner size : ℕ) (blocks : List Extent) (e : Extent) → AreLent lent home owner blocks → AreDisjoint size blocks → Contains blocks e
    → Contains (staying lent blocks) e ⊎ ((t : ℕ) × (a : PieceId) × IsLentWith lent t a × (lent_extent a ≡ e))
block_of_either lent home owner size blocks e was disjoint has = by (is_lent_at lent e.start) refl
  where
    by : (b : Bool) → is_lent_at lent e.start ≡ b → Contains (staying lent blocks) e ⊎ ((t : ℕ) × (a : PieceId) × IsLentWith lent t a × (lent_extent a ≡ e))
    by false is = inl (kept_by (stays lent) e blocks has (ap not is))
    by true is = let found = lent_at_from lent e.start is in inr (found.0, found.1, found.2, same_place size blocks (lent_extent found.1) e disjoint (was.pieces found.0 found.1 found.2).2 has found.3)

-- ---- nothing is given yet

pub lent_none : (lent : Tickets) (home : Ptr) (owner : ℕ) → length lent ≡ tickets → All IsNone lent → AreLent lent home owner []
lent_none lent home owner count idle = record {
  count = count;
  pieces = λ u b is. absurd (all_idle_out lent u b idle is);
  each = λ u v b d is at same. absurd (all_idle_out lent u b idle is);
  out = (let none = none_out lent idle in omega (arith, none));
  few = omega arith;
}
