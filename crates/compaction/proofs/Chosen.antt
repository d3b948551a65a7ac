-- The sparsest segment of all groups without a guard, found group by group.
use Rattle.std.proofs.Common.{◌≡◌, ◌⊎◌, inl, inr, ℕ, ◌+◌, ◌≤◌, true, false, sym, ap, ◌∙◌, subst, arith}
use Rattle.std.specs.Prelude.{Option, None, Some, IsNone, IfSome}
use Rattle.std.proofs.lemmas.Bool.{cases_eq, cases_lt}
use Rattle.regions.specs.Segments.{RegionState}
use Rattle.regions.specs.Shapes.{group_count, guards_of, HasGroup, IsClosed, IsClosedIn}
use Rattle.regions.specs.Counts.{live_bytes_at}
use Rattle.compaction.specs.Sparse.{AreDenseIn, IsDense, IsMovable, IsSparsest}
use Rattle.compaction.specs.inside.Chosen.{IsBefore, IsSparser, IsMovableBelow, IsSparsestSoFar}
use Rattle.compaction.proofs.Shut.{closed-in, closed-of, group-of-closed, guards-of-closed}

-- the sparsest of those that are of the one kind or of the other
module _ (r : RegionState) (P Q R : ℕ → Type 0) (which : (m : ℕ) → R m → P m ⊎ Q m) where
  -- where those of the other kind are dense
  pub the-only : (n : ℕ) → ((m : ℕ) → P m → R m) → IsSparsest P r n → ((m : ℕ) → Q m → IsDense r m) → IsSparsest R r n
  the-only n all s dense = record {
    holds = all n s.holds;
    sparse = s.sparse;
    fewest = λ m h. elim (which m h) [ inl p ↦ s.fewest m p | inr q ↦ let more = dense m q in let few = s.sparse in omega (arith, more, few) ];
    least = λ m h low. elim (which m h) [ inl p ↦ s.least m p low | inr q ↦ let more = dense m q in let few = s.sparse in omega (arith, more, few) ];
  }

  -- where the sparsest of the one kind is before that of the other
  pub the-former : (a b : ℕ) → ((m : ℕ) → P m → R m) → IsSparsest P r a → IsSparsest Q r b → IsBefore r a b → IsSparsest R r a
  the-former a b all s t before = record {
    holds = all a s.holds;
    sparse = s.sparse;
    fewest = λ m h.
        elim (which m h) [
          | inl p ↦ s.fewest m p
          | inr q ↦ let there = t.fewest m q in elim before [ inl less ↦ omega (arith, less, there) | inr same ↦ let e = same.0 in omega (arith, e, there) ]
        ];
    least = λ m h low.
        elim (which m h) [
          | inl p ↦ s.least m p low
          | inr q ↦ elim before [
            | inl less ↦ let there = t.fewest m q in omega (arith, less, there)
            | inr same ↦ let e = same.0 in let far = same.1 in let there = t.least m q (omega (arith, low, far)) in omega (arith, e, there)
          ]
        ];
  }

  -- where it is not
  pub the-latter : (a b : ℕ) → ((m : ℕ) → Q m → R m) → IsSparsest P r a → IsSparsest Q r b → ¬ IsBefore r a b → IsSparsest R r b
  the-latter a b all s t not = record {
    holds = all b t.holds;
    sparse = t.sparse;
    fewest = λ m h. elim (which m h) [ inl p ↦ let there = s.fewest m p in let few = no-more in omega (arith, there, few) | inr q ↦ t.fewest m q ];
    least = λ m h low.
        elim (which m h) [
          | inl p ↦ elim (cases_lt (live_bytes_at r b) (live_bytes_at r a)) [
            | inl less ↦ let there = s.fewest m p in omega (arith, less, there)
            | inr same ↦ let few = no-more in let after = no-earlier (omega (arith, few, same)) in let there = s.least m p (omega (arith, low, after)) in omega (arith, few, there)
          ]
          | inr q ↦ t.least m q low
        ];
  } where
    no-more : live_bytes_at r b ≤ live_bytes_at r a
    no-more = elim (cases_lt (live_bytes_at r a) (live_bytes_at r b)) [ inl less ↦ absurd (not (inl less)) | inr few ↦ few ]

    no-earlier : live_bytes_at r a ≡ live_bytes_at r b → b ≤ a
    no-earlier e = elim (cases_lt a b) [ inl low ↦ absurd (not (inr (e, low))) | inr after ↦ after ]

-- of so many groups and one more it is of those or of that one
below-or : (r : RegionState) (g n : ℕ) → IsMovableBelow r (g + 1) n → IsMovableBelow r g n ⊎ IsClosedIn r g n
below-or r g n (movable, h, of, low) =
    elim (cases_eq h g) [
      | inl here ↦ inr (closed-of r g n movable.0 (of ∙ ap (λ k. Some k) here))
      | inr far ↦ inl (movable, h, of, omega (arith, far, low))
    ]

wider : (r : RegionState) (g n : ℕ) → IsMovableBelow r g n → IsMovableBelow r (g + 1) n
wider r g n (movable, h, of, low) = (movable, h, of, omega (arith, low))

besides : (r : RegionState) (g n : ℕ) → guards_of r g ≡ 0 → IsClosedIn r g n → IsMovableBelow r (g + 1) n
besides r g n free shut = ((closed-in r g n shut, guards-of-closed r g n shut ∙ free), g, group-of-closed r g n shut, omega arith)

-- a group whose closed segments are dense has none that is sparse
pub so-far-dense : (r : RegionState) (g : ℕ) (found : Option ℕ) → AreDenseIn r g → IsSparsestSoFar r g found → IsSparsestSoFar r (g + 1) found
so-far-dense r g None dense so = λ n m. elim (below-or r g n m) [ inl below ↦ so n below | inr shut ↦ dense n shut ]
so-far-dense r g (Some k) dense s = the-only r (IsMovableBelow r g) (IsClosedIn r g) (IsMovableBelow r (g + 1)) (below-or r g) k (wider r g) s dense

-- the sparsest of the group is compared with the one that was found before
pub so-far-sparser : (r : RegionState) (g k n chosen : ℕ) → guards_of r g ≡ 0 → IsSparsest (IsClosedIn r g) r n → IsSparsest (IsMovableBelow r g) r k → IsSparser r k n chosen → IsSparsestSoFar r (g + 1) (Some chosen)
so-far-sparser r g k n chosen free s t (inl (is, before)) =
    subst (IsSparsest (IsMovableBelow r (g + 1)) r) (sym is) (the-former r (IsMovableBelow r g) (IsClosedIn r g) (IsMovableBelow r (g + 1)) (below-or r g) k n (wider r g) t s before)
so-far-sparser r g k n chosen free s t (inr (is, not)) =
    subst (IsSparsest (IsMovableBelow r (g + 1)) r) (sym is) (the-latter r (IsMovableBelow r g) (IsClosedIn r g) (IsMovableBelow r (g + 1)) (below-or r g) k n (λ m shut. besides r g m free shut) t s not)

-- of no group there is none
pub so-far-none : (r : RegionState) → IsSparsestSoFar r 0 None
so-far-none r n (movable, h, of, low) = absurd (omega (arith, low))

-- and once all groups are looked at it is the sparsest of all
module _ (r : RegionState) (count : ℕ) (all : group_count r ≤ count) (closed : (n : ℕ) → IsClosed r n → (g : ℕ) × HasGroup r g × IsClosedIn r g n) where
  below-all : (n : ℕ) → IsMovable r n → IsMovableBelow r count n
  below-all n m = let c = closed n m.0 in let there = c.1 in (m, c.0, group-of-closed r c.0 n c.2, omega (arith, there, all))

  pub all-none : (found : Option ℕ) → IsSparsestSoFar r count found → IsNone found → (n : ℕ) → IsMovable r n → IsDense r n
  all-none None dense none n m = dense n (below-all n m)
  all-none (Some k) s none n m = absurd (let clash : true ≡ false = none in cc)

  pub all-some : (found : Option ℕ) → IsSparsestSoFar r count found → IfSome found (IsSparsest (IsMovable r) r)
  all-some None dense = tt
  all-some (Some k) s = record {
    holds = s.holds.0;
    sparse = s.sparse;
    fewest = λ m h. s.fewest m (below-all m h);
    least = λ m h low. s.least m (below-all m h) low;
  }
