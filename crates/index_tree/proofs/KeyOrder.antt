-- The order of keys.
use Rattle.std.proofs.Common.{◌≡◌, ℕ, false, true≢false, List, refl, sym, ap, subst, ◌∙◌, Ordering, Less, Equal, Greater, is_lt}
use Rattle.std.specs.Ordering.{ordering_reverse}
use Rattle.std.proofs.lemmas.Cmp.{nat_list_cmp_total}
use Rattle.std.proofs.lemmas.Map.Lookups.{exact_bytes}
use Rattle.tree_nodes.specs.Order.{IsBelow, key_cmp}

pub less_less : (a b c : List ℕ) → IsBelow a b → IsBelow b c → IsBelow a c
unfolding key_cmp
less_less a b c e f = nat_list_cmp_total.trans a b c e f

pub greater_less : (a b : List ℕ) → key_cmp a b ≡ Greater → IsBelow b a
unfolding key_cmp
greater_less a b e = nat_list_cmp_total.antisymm b a ∙ ap ordering_reverse e

pub less_greater : (a b : List ℕ) → IsBelow a b → key_cmp b a ≡ Greater
unfolding key_cmp
less_greater a b e = nat_list_cmp_total.antisymm b a ∙ ap ordering_reverse e

pub tied : (a b : List ℕ) → key_cmp a b ≡ Equal → a ≡ b
unfolding key_cmp
tied a b e = exact_bytes a b e

-- at or above one that is above another
pub from_less : (a b c : List ℕ) → is_lt (key_cmp b a) ≡ false → IsBelow b c → IsBelow a c
from_less a b c e below = go (key_cmp b a) refl
  where
    go : (o : Ordering) → key_cmp b a ≡ o → IsBelow a c
    go Less s = absurd (true≢false (sym (ap is_lt s) ∙ e))
    go Equal s = subst (λ (k : List ℕ). IsBelow k c) (tied b a s) below
    go Greater s = less_less a b c (greater_less b a s) below

-- below one that another is at or above
pub less_from : (a b c : List ℕ) → IsBelow a b → is_lt (key_cmp c b) ≡ false → IsBelow a c
less_from a b c below e = go (key_cmp c b) refl
  where
    go : (o : Ordering) → key_cmp c b ≡ o → IsBelow a c
    go Less s = absurd (true≢false (sym (ap is_lt s) ∙ e))
    go Equal s = subst (λ (k : List ℕ). IsBelow a k) (sym (tied c b s)) below
    go Greater s = less_less a b c below (greater_less c b s)

-- at or above one that is at or above another
pub least_least : (a b c : List ℕ) → is_lt (key_cmp a b) ≡ false → is_lt (key_cmp b c) ≡ false → is_lt (key_cmp a c) ≡ false
least_least a b c e f = go (key_cmp a c) refl
  where
    go : (o : Ordering) → key_cmp a c ≡ o → is_lt (key_cmp a c) ≡ false
    go Less s = absurd (true≢false (sym (ap is_lt (from_less b a c e s)) ∙ f))
    go Equal s = ap is_lt s
    go Greater s = ap is_lt s

pub not_below : (a b : List ℕ) → IsBelow a b → is_lt (key_cmp b a) ≡ false
not_below a b e = ap is_lt (less_greater a b e)

pub not_itself : (k : List ℕ) → is_lt (key_cmp k k) ≡ false
not_itself k = go (key_cmp k k) refl
  where
    go : (o : Ordering) → key_cmp k k ≡ o → is_lt (key_cmp k k) ≡ false
    go Less is = (let clash : Less ≡ Greater = sym is ∙ less_greater k k is in cc)
    go Equal is = ap is_lt is
    go Greater is = ap is_lt is
