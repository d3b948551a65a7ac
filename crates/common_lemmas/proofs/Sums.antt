-- Sums over the values of finite maps of numbers.
use Rattle.std.proofs.Common.{◌≡◌, ◌≢◌, ℕ, zero, suc, ◌+◌, ◌<◌, ◌≤◌, cond, List, [], ◌∷◌, Option, Some, None, refl, sym, ap, ◌∙◌, arith}
use Rattle.std.specs.Prelude.{map, sum_by}
use Rattle.std.specs.Ordering.{nat_cmp, is_eq}
use Rattle.std.specs.declared.cmp.Ordering.{Ordering}
use Rattle.std.specs.declared.cmp.Ordering.TheVariants.{Less, Equal, Greater}
use Rattle.std.proofs.lemmas.List.{nil_from_length}
use Rattle.std.proofs.lemmas.List.Sums.{sum_by-cons}
use Rattle.std.proofs.lemmas.Cmp.{nat_cmp_total}
use Rattle.std.specs.FinMap.{FinMap, entries, values, get, insert, remove, empty, find, put, get-empty, get-entries, entries-insert, len, len-entries, len-empty}
use Rattle.std.specs.FinMap.Entries.{by_order}
use Rattle.common_lemmas.proofs.Maps.{maps_same, get_removed, get_past_remove, insert-remove}
use Rattle.common_lemmas.proofs.Options.{some_or_none}

sum_put : (f : ℕ → ℕ) (k v : ℕ) (es : List (ℕ × ℕ)) → find nat_cmp k es ≡ None → sum_by f (map (λ e. e.1) (put nat_cmp k v es)) ≡ sum_by f (map (λ e. e.1) es) + f v
sum_put f k v [] none = omega arith
sum_put f k v (e ∷ es) none = go (nat_cmp k e.0) refl (sum_put f k v es)
  where
    go : (r : Ordering) → nat_cmp k e.0 ≡ r → (find nat_cmp k es ≡ None → sum_by f (map (λ p. p.1) (put nat_cmp k v es)) ≡ sum_by f (map (λ p. p.1) es) + f v)
        → sum_by f (map (λ p. p.1) (by_order r ((k, v) ∷ e ∷ es) ((e.0, v) ∷ es) (e ∷ put nat_cmp k v es))) ≡ sum_by f (map (λ p. p.1) (e ∷ es)) + f v
    go Less is rest = (let one = sum_by-cons f v (map (λ p. p.1) (e ∷ es)) in let turned : f v + sum_by f (map (λ p. p.1) (e ∷ es)) ≡ sum_by f (map (λ p. p.1) (e ∷ es)) + f v = omega arith in one ∙ turned)
    go Equal is rest = absurd (let clash : Some e.1 ≡ None = sym (ap (λ r. cond (is_eq r) (Some e.1) (find nat_cmp k es)) is) ∙ none in cc)
    go Greater is rest =
        let more = rest (sym (ap (λ r. cond (is_eq r) (Some e.1) (find nat_cmp k es)) is) ∙ none) in
        let new = sum_by-cons f e.1 (map (λ p. p.1) (put nat_cmp k v es)) in
        let old = sum_by-cons f e.1 (map (λ p. p.1) es) in
        omega (arith, more, new, old)

-- an entry at a new key
pub sum_inserted : (f : ℕ → ℕ) (m : FinMap nat_cmp ℕ) (k v : ℕ) → get m k ≡ None → sum_by f (values (insert m k v)) ≡ sum_by f (values m) + f v
sum_inserted f m k v none = ap (λ es. sum_by f (map (λ (e : ℕ × ℕ). e.1) es)) (entries-insert nat_cmp_total m k v) ∙ sum_put f k v (entries m) (sym (get-entries m k) ∙ none)

-- an entry that was there
pub sum_removed : (f : ℕ → ℕ) (m : FinMap nat_cmp ℕ) (k v : ℕ) → get m k ≡ Some v → sum_by f (values (remove m k)) + f v ≡ sum_by f (values m)
sum_removed f m k v here = sym (sum_inserted f (remove m k) k v (get_removed m k k refl)) ∙ ap (λ n. sum_by f (values n)) (insert-remove m k v here)

pub sum_of_none : (f : ℕ → ℕ) (m : FinMap nat_cmp ℕ) → ((k : ℕ) → get m k ≡ None) → sum_by f (values m) ≡ 0
sum_of_none f m none =
    let nil : entries m ≡ [] = nil_from_length (entries m) (sym (len-entries m) ∙ ap len (maps_same m empty (λ k. none k ∙ sym (get-empty nat_cmp k))) ∙ len-empty nat_cmp ℕ) in
    ap (λ es. sum_by f (map (λ (e : ℕ × ℕ). e.1) es)) nil

-- a map whose keys lie below a number, and whose entries another has too
pub sum_within : (n : ℕ) (f : ℕ → ℕ) (a b : FinMap nat_cmp ℕ) → ((k v : ℕ) → get a k ≡ Some v → (k < n) × (get b k ≡ Some v)) → sum_by f (values a) ≤ sum_by f (values b)
sum_within zero f a b within = (let none = sum_of_none f a (λ k. go k (get a k) refl) in omega (arith, none))
  where
    go : (k : ℕ) (o : Option ℕ) → get a k ≡ o → get a k ≡ None
    go k None is = is
    go k (Some v) is = absurd (let low = (within k v is).0 in omega (arith, low))
sum_within (suc n) f a b within = go (get a n) refl (sum_within n f)
  where
    below : (k : ℕ) → k < suc n → k ≢ n → k < n
    below k low other = omega (arith, low, other)

    go : (o : Option ℕ) → get a n ≡ o → ((c d : FinMap nat_cmp ℕ) → ((k v : ℕ) → get c k ≡ Some v → (k < n) × (get d k ≡ Some v)) → sum_by f (values c) ≤ sum_by f (values d)) → sum_by f (values a) ≤ sum_by f (values b)
    go None is rest = rest a b (λ k v here. (below k (within k v here).0 (λ e. some_or_none here (ap (get a) e ∙ is)), (within k v here).1))
    go (Some v) is rest =
        let other : (k u : ℕ) → get (remove a n) k ≡ Some u → k ≢ n = λ k u here e. some_or_none here (get_removed a n k e) in
        let was : (k u : ℕ) → get (remove a n) k ≡ Some u → get a k ≡ Some u = λ k u here. sym (get_past_remove a n k (other k u here)) ∙ here in
        let less = rest (remove a n) (remove b n) (λ k u here. (below k (within k u (was k u here)).0 (other k u here), get_past_remove b n k (other k u here) ∙ (within k u (was k u here)).1)) in
        let ours = sum_removed f a n v is in
        let theirs = sum_removed f b n v (within n v is).1 in
        omega (arith, less, ours, theirs)
