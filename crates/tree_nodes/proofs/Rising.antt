-- How many of some rising keys are below a key.
use Rattle.std.proofs.Common.{◌≡◌, ℕ, zero, suc, ◌+◌, ◌<◌, ◌≤◌, Bool, true, false, true≢false, List, [], ◌∷◌, All, length, take, drop, get_or, cond, refl, ap, sym, ◌∙◌, arith, Ordering, Less, Equal, Greater, is_lt}
use Rattle.std.proofs.lemmas.Cmp.{nat_list_cmp_total}
use Rattle.std.proofs.lemmas.List.{length-take-le}
use Rattle.std.proofs.lemmas.List.Elements.{All-nil, All-cons, All-head, All-tail, All-get_or, All-weaker}
use Rattle.std.proofs.lemmas.List.Sums.{count_by-le-length, sum_by-cons, sum_by-take-drop}
use Rattle.tree_nodes.specs.Nodes.{Entry}
use Rattle.tree_nodes.specs.Order.{AreRising, IsBelow, count_below, key_cmp}

less_less : (a b c : List ℕ) → IsBelow a b → IsBelow b c → IsBelow a c
unfolding key_cmp
less_less a b c e f = nat_list_cmp_total.trans a b c e f

-- what is above a key that is not below another is not below the other
least_less : (a b c : List ℕ) → is_lt (key_cmp a c) ≡ false → IsBelow a b → is_lt (key_cmp b c) ≡ false
least_less a b c e f = go (key_cmp a c) (key_cmp b c) refl refl e
  where
    go : (o p : Ordering) → key_cmp a c ≡ o → key_cmp b c ≡ p → is_lt o ≡ false → is_lt (key_cmp b c) ≡ false
    go o Less s t e = absurd (true≢false (sym (ap is_lt (less_less a b c f t)) ∙ ap is_lt s ∙ e))
    go o Equal s t e = ap is_lt t
    go o Greater s t e = ap is_lt t

pub is_less : (o : Ordering) → is_lt o ≡ true → o ≡ Less
is_less Less e = refl
is_less Equal e = cc
is_less Greater e = cc

abbrev pub Below : List ℕ → Entry → Type 0
Below key e = IsBelow e.key key

abbrev pub NotBelow : List ℕ → Entry → Type 0
NotBelow key e = is_lt (key_cmp e.key key) ≡ false

-- up to one whose key is below, all are
below_upto : (key : List ℕ) (es : List Entry) (m : ℕ) (d : Entry) → AreRising es → m < length es → Below key (get_or es m d) → All (Below key) (take (suc m) es)
below_upto key [] m d rising within below = absurd (omega arith)
below_upto key (e ∷ es) zero d rising within below = All-cons (Below key) e [] below (All-nil (Below key))
below_upto key (e ∷ es) (suc m) d rising within below =
    let later = All-get_or (λ later. IsBelow e.key later.key) es m d (omega arith) rising.0 in
    All-cons (Below key) e (take (suc m) es) (less_less e.key (get_or es m d).key key later below) (below_upto key es m d rising.1 (omega arith) below)

-- from one on whose key is not below, none is
least_from : (key : List ℕ) (es : List Entry) (m : ℕ) (d : Entry) → AreRising es → m < length es → NotBelow key (get_or es m d) → All (NotBelow key) (drop m es)
least_from key [] m d rising within least = absurd (omega arith)
least_from key (e ∷ es) zero d rising within least =
    All-cons (NotBelow key) e es least (All-weaker (λ later. IsBelow e.key later.key) (NotBelow key) (λ later above. least_less e.key later.key key least above) es rising.0)
least_from key (e ∷ es) (suc m) d rising within least = least_from key es m d rising.1 (omega arith) least

count_all : (key : List ℕ) (es : List Entry) → All (Below key) es → count_below es key ≡ length es
count_all key [] all = refl
count_all key (e ∷ es) all =
    let here : is_lt (key_cmp e.key key) ≡ true = ap is_lt (All-head (Below key) e es all) in
    let behind = count_all key es (All-tail (Below key) e es all) in
    let one : cond {A = ℕ} (is_lt (key_cmp e.key key)) 1 0 ≡ 1 = ap {B = ℕ} (λ (b : Bool). cond b 1 0) here in
    let whole : count_below (e ∷ es) key ≡ cond {A = ℕ} (is_lt (key_cmp e.key key)) 1 0 + count_below es key = sum_by-cons (λ x. cond (is_lt (key_cmp x.key key)) 1 0) e es in
    omega arith

count_none : (key : List ℕ) (es : List Entry) → All (NotBelow key) es → count_below es key ≡ 0
count_none key [] all = refl
count_none key (e ∷ es) all =
    let none : cond {A = ℕ} (is_lt (key_cmp e.key key)) 1 0 ≡ 0 = ap {B = ℕ} (λ (b : Bool). cond b 1 0) (All-head (NotBelow key) e es all) in
    let behind = count_none key es (All-tail (NotBelow key) e es all) in
    let whole : count_below (e ∷ es) key ≡ cond {A = ℕ} (is_lt (key_cmp e.key key)) 1 0 + count_below es key = sum_by-cons (λ x. cond (is_lt (key_cmp x.key key)) 1 0) e es in
    omega arith

-- one whose key is below has as many in front that are, and one whose key is not has none behind it
pub at_least : (key : List ℕ) (es : List Entry) (m : ℕ) (d : Entry) → AreRising es → m < length es → Below key (get_or es m d) → suc m ≤ count_below es key
at_least key es m d rising within below =
    let front = count_all key (take (suc m) es) (below_upto key es m d rising within below) in
    let many : length (take (suc m) es) ≡ suc m = length-take-le (suc m) es (omega arith) in
    let whole : count_below (take (suc m) es) key + count_below (drop (suc m) es) key ≡ count_below es key = sum_by-take-drop (λ e. cond (is_lt (key_cmp e.key key)) 1 0) es (suc m) in
    omega arith

pub at_most : (key : List ℕ) (es : List Entry) (m : ℕ) (d : Entry) → AreRising es → m < length es → NotBelow key (get_or es m d) → count_below es key ≤ m
at_most key es m d rising within least =
    let behind = count_none key (drop m es) (least_from key es m d rising within least) in
    let front : count_below (take m es) key ≤ length (take m es) = count_by-le-length (λ e. is_lt (key_cmp e.key key)) (take m es) in
    let many : length (take m es) ≡ m = length-take-le m es (omega arith) in
    let whole : count_below (take m es) key + count_below (drop m es) key ≡ count_below es key = sum_by-take-drop (λ e. cond (is_lt (key_cmp e.key key)) 1 0) es m in
    omega arith
