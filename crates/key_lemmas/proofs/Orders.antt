-- Keys in order, and what holds of each of some rows.
use Rattle.std.proofs.Common.{◌≡◌, ◌≢◌, ℕ, List, [], ◌∷◌, ◌++◌, sym, ap, subst, ◌∙◌, true≢false, Less, is_lt, nat_cmp}
use Rattle.std.specs.Prelude.{All}
use Rattle.std.specs.Cmp.Lexicographic.{slice_cmp}
use Rattle.std.proofs.lemmas.Cmp.{nat_list_cmp_total, tied_itself}
use Rattle.std.proofs.lemmas.List.Elements.{All-head, All-tail, All-nil, All-cons}
use Rattle.rows.specs.Key.{Key}
use Rattle.key_index.specs.declared.entries.Entry.{Entry}
use Rattle.key_index.specs.Order.{key_cmp, Each, AreAbove, AreRising}
use Rattle.key_index.specs.Lead.{rows_of}

-- a key as one list, with the table in front
abbrev coded : Key → List ℕ
coded key = key.table ∷ key.bytes

pub less_less : (a b c : Key) → key_cmp a b ≡ Less → key_cmp b c ≡ Less → key_cmp a c ≡ Less
unfolding key_cmp
less_less a b c e f = nat_list_cmp_total.trans (coded a) (coded b) (coded c) e f

pub less_apart : (a b : Key) → key_cmp a b ≡ Less → a ≢ b
unfolding key_cmp
less_apart a b e same =
    let tied = tied_itself nat_list_cmp_total (coded a) in
    let f : slice_cmp nat_cmp (coded a) (coded a) ≡ Less = subst (λ (k : Key). slice_cmp nat_cmp (coded a) (coded k) ≡ Less) (sym same) e in
    true≢false (ap is_lt (sym f ∙ tied))

pub all_each : (P : ℕ → Type 0) (xs : List ℕ) → All P xs → Each P xs
all_each P [] all = tt
all_each P (x ∷ xs) all = (All-head P x xs all, all_each P xs (All-tail P x xs all))

pub each_left : (P : ℕ → Type 0) (xs ys : List ℕ) → Each P (xs ++ ys) → Each P xs
each_left P [] ys e = tt
each_left P (x ∷ xs) ys e = (e.0, each_left P xs ys e.1)

pub each_right : (P : ℕ → Type 0) (xs ys : List ℕ) → Each P (xs ++ ys) → Each P ys
each_right P [] ys e = e
each_right P (x ∷ xs) ys e = each_right P xs ys e.1

-- what holds of the row of each entry
pub all_from_each : (P : ℕ → Type 0) (es : List Entry) → Each P (rows_of es) → All (λ e. P e.row) es
all_from_each P [] each = All-nil (λ (x : Entry). P x.row)
all_from_each P (e ∷ es) each = All-cons (λ (x : Entry). P x.row) e es each.0 (all_from_each P es each.1)

pub rising_right : (key_of : ℕ → Key) (xs ys : List ℕ) → AreRising key_of (xs ++ ys) → AreRising key_of ys
rising_right key_of [] ys h = h
rising_right key_of (x ∷ xs) ys h = rising_right key_of xs ys h.1

-- each row of the front is below each of the back
pub rising_apart : (key_of : ℕ → Key) (xs ys : List ℕ) → AreRising key_of (xs ++ ys) → Each (λ x. AreAbove key_of (key_of x) ys) xs
rising_apart key_of [] ys h = tt
rising_apart key_of (x ∷ xs) ys h = (each_right (λ r. key_cmp (key_of x) (key_of r) ≡ Less) xs ys h.0, rising_apart key_of xs ys h.1)
