-- Blocks that stand in a store.
use Rattle.std.proofs.Common.{◌≡◌, ◌≢◌, ℕ, zero, suc, ◌+◌, ◌<◌, ◌≤◌, List, [], ◌∷◌, ◌++◌, length, take, get_or, set, cond, Bool, refl, sym, ap, subst, ◌∙◌, arith, inl, inr}
use Rattle.std.specs.Prelude.{All, ◌⊎◌}
use Rattle.std.specs.List.{insert, remove}
use Rattle.std.proofs.lemmas.Bool.{eq-eqb, cases_eq}
use Rattle.std.proofs.lemmas.Bool.Decides.{nat_tests}
use Rattle.std.proofs.lemmas.List.{get_or-set_other, get_or-set_same, length-set, get_or_append_left, length_push, set-get_or, length-take-le, take-take, take_all}
use Rattle.std.proofs.lemmas.List.Edits.{length-insert, length-remove}
use Rattle.std.proofs.lemmas.List.Elements.{All-head, All-tail, All-nil, All-cons, All-set, All-push, All-weaker, All-get_or}
use Rattle.key_index.specs.declared.entries.Entry.{Entry}
use Rattle.key_index.specs.declared.blocks.Slot.{Slot}
use Rattle.key_index.specs.inside.Blocks.{entries_at}
use Rattle.key_index.specs.inside.Stock.{AreStocked, AreHeld, Stands, block_of, standing, same, uses, times}
use Rattle.key_index.proofs.Edits.{all_insert, all_remove}

same_self : (p : ℕ) → same p p ≡ 1
same_self p = ap (λ (b : Bool). cond b 1 0) (eq-eqb p p refl)

same_few : (p q : ℕ) → same p q ≤ 1
same_few p q = grind (arith, nat_tests)

same_none : (p q : ℕ) → p ≢ q → same p q ≡ 0
same_none p q h = grind (arith, nat_tests)

apart : (p q : ℕ) → same p q ≡ 0 → q ≢ p
apart p q h e = let one = subst (λ x. same p x ≡ 1) (sym e) (same_self p) in absurd (omega (arith, h, one))

-- ---- how often a place is used

uses_set : (p n k : ℕ) (order : List Slot) (s : Slot) → k < length order → s ≡ get_or order k s → uses p (set order k (record { at = s.at; len = n })) ≡ uses p order
uses_set p n k [] s h is = absurd (omega arith)
uses_set p n zero (t ∷ order) s h is = ap (λ (x : Slot). same p x.at + uses p order) is
uses_set p n (suc k) (t ∷ order) s h is = ap (λ m. same p t.at + m) (uses_set p n k order s (omega arith) is)

uses_insert : (p k : ℕ) (order : List Slot) (s : Slot) → uses p (insert order k s) ≡ same p s.at + uses p order
uses_insert p zero order s = refl
uses_insert p (suc k) [] s = refl
uses_insert p (suc k) (t ∷ order) s = let more = uses_insert p k order s in omega (arith, more)

uses_remove : (p k : ℕ) (order : List Slot) (s : Slot) → k < length order → s ≡ get_or order k s → same p s.at + uses p (remove order k) ≡ uses p order
uses_remove p k [] s h is = absurd (omega arith)
uses_remove p zero (t ∷ order) s h is = ap (λ (x : Slot). same p x.at + uses p order) is
uses_remove p (suc k) (t ∷ order) s h is = let more = uses_remove p k order s (omega arith) is in omega (arith, more)

uses_past : (p : ℕ) (store : List (List Entry)) (order : List Slot) → length store ≤ p → All (Stands store) order → uses p order ≡ 0
uses_past p store [] h all = refl
uses_past p store (t ∷ order) h all =
    let here = All-head (Stands store) t order all in
    let none = same_none p t.at (λ e. absurd (omega (arith, here, e))) in
    let more = uses_past p store order h (All-tail (Stands store) t order all) in
    omega (arith, none, more)

times_push : (p q : ℕ) (free : List ℕ) → times p (free ++ q ∷ []) ≡ same p q + times p free
times_push p q [] = refl
times_push p q (r ∷ free) = let more = times_push p q free in omega (arith, more)

times_past : (p n : ℕ) (free : List ℕ) → n ≤ p → All (λ q. q < n) free → times p free ≡ 0
times_past p n [] h all = refl
times_past p n (q ∷ free) h all =
    let here = All-head (λ (x : ℕ). x < n) q free all in
    let none = same_none p q (λ e. absurd (omega (arith, here, e))) in
    let more = times_past p n free h (All-tail (λ (x : ℕ). x < n) q free all) in
    omega (arith, none, more)

-- ---- what stands there

-- a place where no block stands
set_unused : (store : List (List Entry)) (order : List Slot) (p : ℕ) (x : List Entry) → uses p order ≡ 0 → standing (set store p x) order ≡ standing store order
set_unused store [] p x h = refl
set_unused store (t ∷ order) p x h =
    ap (λ (es : List Entry). take t.len es ∷ standing (set store p x) order) (get_or-set_other store p t.at x [] (apart p t.at (omega (arith, h))))
    ∙ ap (λ (bs : List (List Entry)). block_of store t ∷ bs) (set_unused store order p x (omega (arith, h)))

-- a block that is written
pub standing_set : (store : List (List Entry)) (order : List Slot) (k n : ℕ) (s : Slot) (x : List Entry) → k < length order → s ≡ get_or order k s → s.at < length store → uses s.at order ≤ 1
    → standing (set store s.at x) (set order k (record { at = s.at; len = n })) ≡ set (standing store order) k (take n x)
standing_set store [] k n s x h is inside once = absurd (omega arith)
standing_set store (t ∷ order) zero n s x h is inside once =
    let one = subst (λ (y : Slot). same s.at y.at ≡ 1) is (same_self s.at) in
    ap (λ (es : List Entry). take n es ∷ standing (set store s.at x) order) (get_or-set_same store s.at x [] inside)
    ∙ ap (λ (bs : List (List Entry)). take n x ∷ bs) (set_unused store order s.at x (omega (arith, one, once)))
standing_set store (t ∷ order) (suc k) n s x h is inside once =
    let left = uses_remove s.at k order s (omega arith) is in
    let one = same_self s.at in
    ap (λ (es : List Entry). take t.len es ∷ standing (set store s.at x) (set order k (record { at = s.at; len = n }))) (get_or-set_other store s.at t.at x [] (apart s.at t.at (omega (arith, left, one, once))))
    ∙ ap (λ (bs : List (List Entry)). block_of store t ∷ bs) (standing_set store order k n s x (omega arith) is inside (omega (arith, once)))

pub standing_insert : (store : List (List Entry)) (order : List Slot) (k : ℕ) (s : Slot) → standing store (insert order k s) ≡ insert (standing store order) k (block_of store s)
standing_insert store order zero s = refl
standing_insert store [] (suc k) s = refl
standing_insert store (t ∷ order) (suc k) s = ap (λ (bs : List (List Entry)). block_of store t ∷ bs) (standing_insert store order k s)

pub standing_remove : (store : List (List Entry)) (order : List Slot) (k : ℕ) → standing store (remove order k) ≡ remove (standing store order) k
standing_remove store [] zero = refl
standing_remove store [] (suc k) = refl
standing_remove store (t ∷ order) zero = refl
standing_remove store (t ∷ order) (suc k) = ap (λ (bs : List (List Entry)). block_of store t ∷ bs) (standing_remove store order k)

pub standing_grown : (store : List (List Entry)) (order : List Slot) (x : List Entry) → All (Stands store) order → standing (store ++ x ∷ []) order ≡ standing store order
standing_grown store [] x all = refl
standing_grown store (t ∷ order) x all =
    ap (λ (es : List Entry). take t.len es ∷ standing (store ++ x ∷ []) order) (get_or_append_left store (x ∷ []) [] t.at (All-head (Stands store) t order all).0)
    ∙ ap (λ (bs : List (List Entry)). block_of store t ∷ bs) (standing_grown store order x (All-tail (Stands store) t order all))

-- the entries of a block that is read
pub standing_at : (store : List (List Entry)) (order : List Slot) (k : ℕ) (s : Slot) → k < length order → s ≡ get_or order k s → block_of store s ≡ entries_at (standing store order) k
standing_at store [] k s h is = absurd (omega arith)
standing_at store (t ∷ order) zero s h is = ap (λ (x : Slot). block_of store x) is
standing_at store (t ∷ order) (suc k) s h is = standing_at store order k s (omega arith) is

pub standing_count : (store : List (List Entry)) (order : List Slot) → length (standing store order) ≡ length order
standing_count store [] = refl
standing_count store (t ∷ order) = ap suc (standing_count store order)

-- ---- the store stays in order

-- a place of the store has room for a block
pub whole_at : (store : List (List Entry)) (order : List Slot) (free : List ℕ) (k : ℕ) (s : Slot) → AreStocked store order free → k < length order → s ≡ get_or order k s
    → Stands store s × (length (get_or store s.at []) ≡ 256) × (uses s.at order ≤ 1)
whole_at store order free k s is h read =
    let stand : Stands store s = subst (Stands store) (sym read) (All-get_or (Stands store) order k s h is.stand) in
    let once = is.once s.at in
    (stand, All-get_or (λ (b : List Entry). length b ≡ 256) store s.at [] stand.0 is.whole, omega (arith, once))

stand_more : (store other : List (List Entry)) (order : List Slot) → length store ≤ length other → All (Stands store) order → All (Stands other) order
stand_more store other order h all = All-weaker (Stands store) (Stands other) (λ s i. (omega (arith, i, h), i.1)) order all

pub stocked_set : (store : List (List Entry)) (order : List Slot) (free : List ℕ) (k n : ℕ) (s : Slot) (x : List Entry) → AreStocked store order free → k < length order → s ≡ get_or order k s
    → length x ≡ 256 → n ≤ 256 → AreStocked (set store s.at x) (set order k (record { at = s.at; len = n })) free
stocked_set store order free k n s x is h read long short =
    let size = length-set store s.at x in
    let here = (whole_at store order free k s is h read).0 in
    record {
      whole = All-set (λ (b : List Entry). length b ≡ 256) store s.at x long is.whole;
      stand = stand_more store (set store s.at x) (set order k (record { at = s.at; len = n })) (omega (arith, size)) (All-set (Stands store) order k (record { at = s.at; len = n }) (here.0, short) is.stand);
      inside = subst (λ m. All (λ (p : ℕ). p < m) free) (sym size) is.inside;
      once = λ p. (let u = uses_set p n k order s h read in let o = is.once p in omega (arith, u, o));
      count = (let l = length-set order k (record { at = s.at; len = n }) in let o = is.count in omega (arith, size, l, o));
    }

pub stocked_open : (store : List (List Entry)) (order : List Slot) (free : List ℕ) (k p : ℕ) → AreStocked store order (free ++ p ∷ []) → k ≤ length order
    → AreStocked store (insert order k (record { at = p; len = 0 })) free
stocked_open store order free k p is h =
    let size = length_push free p in
    record {
      whole = is.whole;
      stand = all_insert (Stands store) order k (record { at = p; len = 0 }) is.stand (All-last p free is.inside, omega arith);
      inside = All-first p free is.inside;
      once = λ q. (let u = uses_insert q k order (record { at = p; len = 0 }) in let t = times_push q p free in let o = is.once q in omega (arith, u, t, o));
      count = (let l = length-insert order k (record { at = p; len = 0 }) h in let o = is.count in omega (arith, size, l, o));
    }
  where
    All-last : (p : ℕ) (free : List ℕ) → All (λ (q : ℕ). q < length store) (free ++ p ∷ []) → p < length store
    All-last p [] all = All-head (λ (q : ℕ). q < length store) p [] all
    All-last p (r ∷ free) all = All-last p free (All-tail (λ (q : ℕ). q < length store) r (free ++ p ∷ []) all)

    All-first : (p : ℕ) (free : List ℕ) → All (λ (q : ℕ). q < length store) (free ++ p ∷ []) → All (λ (q : ℕ). q < length store) free
    All-first p [] all = All-nil (λ (q : ℕ). q < length store)
    All-first p (r ∷ free) all =
        All-cons (λ (q : ℕ). q < length store) r free (All-head (λ (q : ℕ). q < length store) r (free ++ p ∷ []) all) (All-first p free (All-tail (λ (q : ℕ). q < length store) r (free ++ p ∷ []) all))

pub stocked_close : (store : List (List Entry)) (order : List Slot) (free : List ℕ) (k : ℕ) (s : Slot) → AreStocked store order free → k < length order → s ≡ get_or order k s
    → AreStocked store (remove order k) (free ++ s.at ∷ [])
stocked_close store order free k s is h read =
    let here = (whole_at store order free k s is h read).0 in
    record {
      whole = is.whole;
      stand = all_remove (Stands store) order k is.stand;
      inside = All-push (λ (q : ℕ). q < length store) free s.at is.inside here.0;
      once = λ q. (let u = uses_remove q k order s h read in let t = times_push q s.at free in let o = is.once q in omega (arith, u, t, o));
      count = (let l = length-remove order k h in let m = length_push free s.at in let o = is.count in omega (arith, m, l, o));
    }

pub stocked_grown : (store : List (List Entry)) (order : List Slot) (x : List Entry) → AreStocked store order [] → length x ≡ 256 → AreStocked (store ++ x ∷ []) order (length store ∷ [])
stocked_grown store order x is long =
    let size = length_push store x in
    record {
      whole = All-push (λ (b : List Entry). length b ≡ 256) store x is.whole long;
      stand = stand_more store (store ++ x ∷ []) order (omega (arith, size)) is.stand;
      inside = All-cons (λ (q : ℕ). q < length (store ++ x ∷ [])) (length store) [] (omega (arith, size)) (All-nil (λ (q : ℕ). q < length (store ++ x ∷ [])));
      once = λ p. once p (cases_eq p (length store));
      count = (let o = is.count in omega (arith, size, o));
    }
  where
    once : (p : ℕ) → (p ≡ length store) ⊎ (p ≡ length store → ⊥) → uses p order + times p (length store ∷ []) ≤ 1
    once p (inl e) = let u = uses_past p store order (omega (arith, e)) is.stand in let f = same_few p (length store) in omega (arith, u, f)
    once p (inr e) = let o = is.once p in let n = same_none p (length store) e in omega (arith, o, n)

-- ---- a block that is read or written

-- a block stands so, where so many entries have room
pub record IsSlotOf (order : List Slot) (contents : List (List Entry)) (k : ℕ) (s : Slot) (x : List Entry) : Type 0 where
  pub at : k < length order
  pub read : s ≡ get_or order k s
  pub long : length x ≡ 256
  pub short : s.len ≤ 256
  pub block : take s.len x ≡ entries_at contents k
  pub len : length (entries_at contents k) ≡ s.len

get_or_any : (xs : List (List Entry)) (i : ℕ) (d e : List Entry) → i < length xs → get_or xs i d ≡ get_or xs i e
get_or_any [] i d e h = absurd (omega arith)
get_or_any (y ∷ xs) zero d e h = refl
get_or_any (y ∷ xs) (suc i) d e h = get_or_any xs i d e (omega arith)

pub slot_of : {store : List (List Entry)} {order : List Slot} {free : List ℕ} {contents : List (List Entry)} {k : ℕ} {s : Slot} {x y : List Entry} → AreStocked store order free
    → standing store order ≡ contents → k < length contents → s ≡ get_or order k s → x ≡ y → y ≡ get_or store s.at y → IsSlotOf order contents k s x
slot_of {store = store} {order = order} {free = free} {contents = contents} {k = k} {s = s} {x = x} {y = y} is view h read seen room =
    let count = standing_count store order in
    let size = ap length view in
    let at : k < length order = omega (arith, h, count, size) in
    let here = whole_at store order free k s is at read in
    let same : x ≡ get_or store s.at [] = seen ∙ room ∙ get_or_any store s.at y [] here.0.0 in
    let long : length x ≡ 256 = ap length same ∙ here.1 in
    let block : take s.len x ≡ entries_at contents k = ap (λ (es : List Entry). take s.len es) same ∙ standing_at store order k s at read ∙ ap (λ (bs : List (List Entry)). entries_at bs k) view in
    record {
      at = at;
      read = read;
      long = long;
      short = here.0.1;
      block = block;
      len = sym (ap length block) ∙ length-take-le s.len x (let l = here.0.1 in omega (arith, l, long));
    }

pub held_set : {store : List (List Entry)} {order : List Slot} {free : List ℕ} {contents : List (List Entry)} {most a b d k : ℕ} {s : Slot} {x : List Entry} (n : ℕ) (y : List Entry) → AreHeld store order free most a b d
    → IsSlotOf order contents k s x → length y ≡ length x → n ≤ 256 → AreHeld (set store s.at y) (set order k (record { at = s.at; len = n })) free most a b d
held_set {store = store} {order = order} {free = free} {k = k} {s = s} n y held is long short =
    record {
      stocked = stocked_set store order free k n s y held.stocked is.at is.read (long ∙ is.long) short;
      within = (let l = length-set store s.at y in let w = held.within in omega (arith, l, w));
      store_fits = held.store_fits;
      order_fits = held.order_fits;
      free_fits = held.free_fits;
    }

pub block_set : {store : List (List Entry)} {order : List Slot} {free : List ℕ} {contents : List (List Entry)} {k : ℕ} {s : Slot} {x : List Entry} (n : ℕ) (y b : List Entry) → AreStocked store order free
    → standing store order ≡ contents → IsSlotOf order contents k s x → take n y ≡ b → standing (set store s.at y) (set order k (record { at = s.at; len = n })) ≡ set contents k b
block_set {store = store} {order = order} {free = free} {contents = contents} {k = k} {s = s} n y b stocked view is new =
    let here = whole_at store order free k s stocked is.at is.read in
    standing_set store order k n s y is.at is.read here.0.0 here.2 ∙ ap (λ (bs : List (List Entry)). set bs k (take n y)) view ∙ ap (λ (es : List Entry). set contents k es) new

-- a block as it stands
pub slot_here : {store : List (List Entry)} {order : List Slot} {free : List ℕ} {contents : List (List Entry)} {k : ℕ} {s : Slot} → AreStocked store order free
    → standing store order ≡ contents → k < length contents → s ≡ get_or order k s → IsSlotOf order contents k s (get_or store s.at [])
slot_here {store = store} {order = order} {free = free} {k = k} {s = s} is view h read =
    let at : k < length order = (let count = standing_count store order in let size = ap length view in omega (arith, h, count, size)) in
    slot_of is view h read refl (get_or_any store s.at [] (get_or store s.at []) (whole_at store order free k s is at read).0.0)

-- it is left its first so many entries
pub shortened : {store : List (List Entry)} {order : List Slot} {free : List ℕ} {contents : List (List Entry)} {most a b d k : ℕ} {s : Slot} (n : ℕ) → AreHeld store order free most a b d
    → standing store order ≡ contents → k < length contents → s ≡ get_or order k s → n ≤ length (entries_at contents k)
    → AreHeld store (set order k (record { at = s.at; len = n })) free most a b d × (standing store (set order k (record { at = s.at; len = n })) ≡ set contents k (take n (entries_at contents k)))
shortened {store = store} {order = order} {free = free} {contents = contents} {most = most} {a = a} {b = b} {d = d} {k = k} {s = s} n held view h read few =
    let is = slot_here held.stocked view h read in
    let x = get_or store s.at [] in
    let same : set store s.at x ≡ store = set-get_or store s.at [] in (
      subst (λ (st : List (List Entry)). AreHeld st (set order k (record { at = s.at; len = n })) free most a b d) same (held_set n x held is refl (omega (arith, few, is.len, is.short))),
      subst (λ (st : List (List Entry)). standing st (set order k (record { at = s.at; len = n })) ≡ set contents k (take n (entries_at contents k))) same
          (block_set n x (take n (entries_at contents k)) held.stocked view is (sym (take-take n s.len x (omega (arith, few, is.len))) ∙ ap (λ (es : List Entry). take n es) is.block)),
    )

-- a full block, and other entries in its place
pub whole_block : {order : List Slot} {contents : List (List Entry)} {k : ℕ} {s : Slot} {x : List Entry} → IsSlotOf order contents k s x → 256 ≤ s.len → x ≡ entries_at contents k
whole_block {s = s} {x = x} is full = sym (take_all s.len x (omega (arith, is.long, full))) ∙ is.block

pub rewritten : {store : List (List Entry)} {order : List Slot} {free : List ℕ} {contents : List (List Entry)} {k : ℕ} {s : Slot} {x : List Entry} (y : List Entry) → AreStocked store order free
    → standing store order ≡ contents → IsSlotOf order contents k s x → 256 ≤ s.len → length y ≡ length x → standing (set store s.at y) order ≡ set contents k y
rewritten {store = store} {order = order} {contents = contents} {k = k} {s = s} y stocked view is full long =
    let same : set order k s ≡ order = ap (λ (t : Slot). set order k t) is.read ∙ set-get_or order k s in
    subst (λ (ss : List Slot). standing (set store s.at y) ss ≡ set contents k y) same (block_set s.len y y stocked view is (take_all s.len y (omega (arith, long, is.long, full))))

-- a block goes out of use
pub held_close : {store : List (List Entry)} {order left : List Slot} {free more : List ℕ} {contents : List (List Entry)} {most a b c d e k : ℕ} {s : Slot} → AreHeld store order free most a b c
    → standing store order ≡ contents → k < length contents → s ≡ get_or order k s → left ≡ remove order k → more ≡ free ++ s.at ∷ [] → b ≤ d → c ≤ e → AreHeld store left more most a d e
held_close {store = store} {order = order} {free = free} {more = more} {k = k} {s = s} held view h read less given order_cap free_cap =
    let is = slot_here held.stocked view h read in
    record {
      stocked = subst (λ (ss : List Slot). AreStocked store ss more) (sym less) (subst (λ (ps : List ℕ). AreStocked store (remove order k) ps) (sym given) (stocked_close store order free k s held.stocked is.at read));
      within = held.within;
      store_fits = held.store_fits;
      order_fits = (let fits = held.order_fits in omega (arith, fits, order_cap));
      free_fits = (let fits = held.free_fits in omega (arith, fits, free_cap));
    }

pub block_close : (store : List (List Entry)) (order : List Slot) (k : ℕ) {left : List Slot} {contents : List (List Entry)} → standing store order ≡ contents → left ≡ remove order k → standing store left ≡ remove contents k
block_close store order k view less =
    ap (λ (ss : List Slot). standing store ss) less ∙ standing_remove store order k ∙ ap (λ (bs : List (List Entry)). remove bs k) view

-- a block comes into use
pub stocked_begin : {store : List (List Entry)} {order more : List Slot} {free left : List ℕ} {contents : List (List Entry)} {k : ℕ} (p : ℕ) → AreStocked store order free
    → standing store order ≡ contents → k ≤ length contents → free ≡ left ++ p ∷ [] → more ≡ insert order k (record { at = p; len = 0 }) → AreStocked store more left
stocked_begin {store = store} {order = order} {left = left} {k = k} p is view h given in_order =
    let at : k ≤ length order = (let count = standing_count store order in let size = ap length view in omega (arith, h, count, size)) in
    subst (λ (ss : List Slot). AreStocked store ss left) (sym in_order) (stocked_open store order left k p (subst (λ (ps : List ℕ). AreStocked store order ps) given is) at)

pub block_begin : (store : List (List Entry)) (order : List Slot) (k p : ℕ) {more : List Slot} {contents : List (List Entry)} → standing store order ≡ contents → more ≡ insert order k (record { at = p; len = 0 })
    → standing store more ≡ insert contents k []
block_begin store order k p view in_order =
    ap (λ (ss : List Slot). standing store ss) in_order ∙ standing_insert store order k (record { at = p; len = 0 }) ∙ ap (λ (bs : List (List Entry)). insert bs k []) view
