-- The order of keys.
use Rattle.std.proofs.Common.{◌≡◌, Bool, true, false, ◌∷◌, refl, sym, ap, ap₂, subst, ◌≢◌, ◌∙◌, true≢false, Ordering, Less, Equal, Greater, is_lt}
use Rattle.std.specs.Ordering.{nat_cmp, ordering_reverse, is_gt, is_le}
use Rattle.std.specs.Cmp.Lexicographic.{slice_cmp}
use Rattle.std.proofs.lemmas.Cmp.{nat_list_cmp_total, tied_itself, alike_right}
use Rattle.std.proofs.lemmas.Map.Lookups.{exact_bytes}
use Rattle.rows.specs.Key.{Key, in_table}
use Rattle.key_index.specs.Order.{key_cmp}
use Rattle.key_index.specs.inside.Shared.{coded}

-- keys that are one list are one key
coded_once : (a b : Key) → coded a ≡ coded b → a ≡ b
coded_once a b e =
    let cells : a.table ∷ a.bytes ≡ b.table ∷ b.bytes = e in
    let tables : a.table ≡ b.table = cc in
    let bytes : a.bytes ≡ b.bytes = cc in
    ap₂ in_table tables bytes

pub greater : (a b : Key) → key_cmp b a ≡ Less → key_cmp a b ≡ Greater
unfolding key_cmp
greater a b e = nat_list_cmp_total.antisymm (coded a) (coded b) ∙ ap ordering_reverse e

pub less : (a b : Key) → key_cmp b a ≡ Greater → key_cmp a b ≡ Less
unfolding key_cmp
less a b e = nat_list_cmp_total.antisymm (coded a) (coded b) ∙ ap ordering_reverse e

pub less_less : (a b c : Key) → key_cmp a b ≡ Less → key_cmp b c ≡ Less → key_cmp a c ≡ Less
unfolding key_cmp
less_less a b c e f = nat_list_cmp_total.trans (coded a) (coded b) (coded c) e f

pub is_less : (o : Ordering) → is_lt o ≡ true → o ≡ Less
is_less Less e = refl
is_less Equal e = cc
is_less Greater e = cc

-- what is above a key that is not below another is not below the other
pub least_less : (a b c : Key) → is_lt (key_cmp a c) ≡ false → key_cmp a b ≡ Less → is_lt (key_cmp b c) ≡ false
least_less a b c e f = go (key_cmp a c) (key_cmp b c) refl refl e
  where
    go : (o p : Ordering) → key_cmp a c ≡ o → key_cmp b c ≡ p → is_lt o ≡ false → is_lt (key_cmp b c) ≡ false
    go o Less s t e = absurd (true≢false (sym (ap is_lt (less_less a b c f t)) ∙ ap is_lt s ∙ e))
    go o Equal s t e = ap is_lt t
    go o Greater s t e = ap is_lt t

-- what is below a key that is not above another is below the other
pub less_most : (a b c : Key) → is_gt (key_cmp b c) ≡ false → key_cmp a b ≡ Less → key_cmp a c ≡ Less
unfolding key_cmp
less_most a b c e f = go (slice_cmp nat_cmp (coded b) (coded c)) refl
  where
    go : (o : Ordering) → slice_cmp nat_cmp (coded b) (coded c) ≡ o → slice_cmp nat_cmp (coded a) (coded c) ≡ Less
    go Less s = nat_list_cmp_total.trans (coded a) (coded b) (coded c) f s
    go Equal s = sym (alike_right nat_list_cmp_total (coded b) (coded c) (coded a) s) ∙ f
    go Greater s = absurd (true≢false (sym (ap is_gt s) ∙ e))

pub is_greater : (o : Ordering) → is_gt o ≡ true → o ≡ Greater
is_greater Less e = cc
is_greater Equal e = cc
is_greater Greater e = refl

pub less_apart : (a b : Key) → key_cmp a b ≡ Less → a ≢ b
unfolding key_cmp
less_apart a b e same =
    let tied = tied_itself nat_list_cmp_total (coded a) in
    let f : slice_cmp nat_cmp (coded a) (coded a) ≡ Less = subst (λ (k : Key). slice_cmp nat_cmp (coded a) (coded k) ≡ Less) (sym same) e in
    true≢false (ap is_lt (sym f ∙ tied))

pub above_apart : (a b : Key) → key_cmp a b ≡ Less → b ≢ a
above_apart a b e same = less_apart a b e (sym same)

-- what is not below a key and not the key is above it
pub least_other : (a b : Key) → is_lt (key_cmp a b) ≡ false → a ≢ b → key_cmp b a ≡ Less
unfolding key_cmp
least_other a b e apart = go (slice_cmp nat_cmp (coded a) (coded b)) refl
  where
    go : (o : Ordering) → slice_cmp nat_cmp (coded a) (coded b) ≡ o → slice_cmp nat_cmp (coded b) (coded a) ≡ Less
    go Less s = absurd (true≢false (sym (ap is_lt s) ∙ e))
    go Equal s = absurd (apart (coded_once a b (exact_bytes (coded a) (coded b) s)))
    go Greater s = nat_list_cmp_total.antisymm (coded b) (coded a) ∙ ap ordering_reverse s

pub above_least : (a b : Key) → key_cmp b a ≡ Less → is_lt (key_cmp a b) ≡ false
above_least a b e = ap is_lt (greater a b e)

-- a key that is not below another, seen from the other
not_less : (P : Ordering → Bool) (t : Bool) (a b : Key) → P Equal ≡ t → P Less ≡ t → is_lt (key_cmp a b) ≡ false → P (key_cmp b a) ≡ t
unfolding key_cmp
not_less P t a b equal less e = go (slice_cmp nat_cmp (coded a) (coded b)) refl
  where
    go : (o : Ordering) → slice_cmp nat_cmp (coded a) (coded b) ≡ o → P (slice_cmp nat_cmp (coded b) (coded a)) ≡ t
    go Less s = absurd (true≢false (sym (ap is_lt s) ∙ e))
    go Equal s = ap P (nat_list_cmp_total.antisymm (coded b) (coded a) ∙ ap ordering_reverse s) ∙ equal
    go Greater s = ap P (nat_list_cmp_total.antisymm (coded b) (coded a) ∙ ap ordering_reverse s) ∙ less

pub least_le : (a b : Key) → is_lt (key_cmp a b) ≡ false → is_le (key_cmp b a) ≡ true
least_le a b e = not_less is_le true a b refl refl e

pub greater_least : (o : Ordering) → o ≡ Greater → is_lt o ≡ false
greater_least o e = ap is_lt e

-- what is not below a key, the key is not above
pub least_most : (a b : Key) → is_lt (key_cmp a b) ≡ false → is_gt (key_cmp b a) ≡ false
least_most a b e = not_less is_gt false a b refl refl e
