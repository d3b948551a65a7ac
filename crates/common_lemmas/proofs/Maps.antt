-- Finite maps of numbers into which an entry is put, and from which one is removed.
use Rattle.std.proofs.Common.{◌≡◌, ◌≢◌, ℕ, inl, inr, true, false, cond, Some, None, IsSome, refl, sym, ap, ◌∙◌, arith}
use Rattle.std.proofs.lemmas.Bool.{cases_eq}
use Rattle.std.proofs.lemmas.Bool.Decides.{nat_tests}
use Rattle.std.proofs.lemmas.Cmp.{nat_cmp_total}
use Rattle.std.specs.Ordering.{nat_cmp, eq_by_cmp}
use Rattle.std.specs.FinMap.{FinMap, get, insert, remove, empty, get-empty, get-insert, get-remove, same_map, nat_cmp-IsAntisymmetric}
use Rattle.common_lemmas.proofs.Options.{is_some_of, some_or_none}

pub tie_same : (a b : ℕ) → a ≡ b → eq_by_cmp nat_cmp a b ≡ true
tie_same a b e = grind (arith, nat_tests)

pub tie_apart : (a b : ℕ) → a ≢ b → eq_by_cmp nat_cmp a b ≡ false
tie_apart a b n = grind (arith, nat_tests)

pub get_inserted : (m : FinMap nat_cmp ℕ) (k v q : ℕ) → q ≡ k → get (insert m k v) q ≡ Some v
get_inserted m k v q e = get-insert nat_cmp_total m k v q ∙ ap (λ b. cond b (Some v) (get m q)) (tie_same q k e)

pub get_past_insert : (m : FinMap nat_cmp ℕ) (k v q : ℕ) → q ≢ k → get (insert m k v) q ≡ get m q
get_past_insert m k v q n = get-insert nat_cmp_total m k v q ∙ ap (λ b. cond b (Some v) (get m q)) (tie_apart q k n)

pub get_removed : (m : FinMap nat_cmp ℕ) (k q : ℕ) → q ≡ k → get (remove m k) q ≡ None
get_removed m k q e = get-remove nat_cmp_total m k q ∙ ap (λ b. cond b None (get m q)) (tie_same q k e)

pub get_past_remove : (m : FinMap nat_cmp ℕ) (k q : ℕ) → q ≢ k → get (remove m k) q ≡ get m q
get_past_remove m k q n = get-remove nat_cmp_total m k q ∙ ap (λ b. cond b None (get m q)) (tie_apart q k n)

-- maps with the same entries are one
pub maps_same : (m n : FinMap nat_cmp ℕ) → ((q : ℕ) → get m q ≡ get n q) → m ≡ n
maps_same m n same = same_map nat_cmp_total nat_cmp-IsAntisymmetric m n same

pub inserted_is_some : (m : FinMap nat_cmp ℕ) (k v : ℕ) → IsSome (get (insert m k v) k)
inserted_is_some m k v = is_some_of _ v (get_inserted m k v k refl)

pub remove-insert : (m : FinMap nat_cmp ℕ) (k v : ℕ) → get m k ≡ None → remove (insert m k v) k ≡ m
remove-insert m k v absent = maps_same _ _ (λ q. elim (cases_eq q k) [
  | inl e ↦ get_removed (insert m k v) k q e ∙ sym (ap (get m) e ∙ absent)
  | inr d ↦ get_past_remove (insert m k v) k q d ∙ get_past_insert m k v q d
])

pub insert-remove : (m : FinMap nat_cmp ℕ) (k v : ℕ) → get m k ≡ Some v → insert (remove m k) k v ≡ m
insert-remove m k v here = maps_same _ _ (λ q. elim (cases_eq q k) [
  | inl e ↦ get_inserted (remove m k) k v q e ∙ sym (ap (get m) e ∙ here)
  | inr d ↦ get_past_insert (remove m k) k v q d ∙ get_past_remove m k q d
])

pub none_in_empty : {P : Type 0} (m : FinMap nat_cmp ℕ) (k v : ℕ) → m ≡ empty → get m k ≡ Some v → P
none_in_empty m k v none here = some_or_none here (ap (λ n. get n k) none ∙ get-empty nat_cmp k)
