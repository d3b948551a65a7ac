-- The leads of keys are in the order of the keys, and are read from the first eight bytes of an entry's key and the zeros behind it.
use Rattle.std.proofs.Common.{◌≡◌, ℕ, zero, suc, ◌+◌, ◌-◌, ◌*◌, ◌^◌, ◌<◌, ◌≤◌, inl, inr, Bool, true, false, true≢false, get_or, cond, refl, ap, sym, subst, ◌∙◌, append_assoc, arith, Less, Greater, is_lt, nat_cmp}
use Rattle.std.specs.Ordering.{ordering_reverse}
use Rattle.std.proofs.lemmas.Cmp.{nat_list_cmp_total}
use Rattle.std.specs.Prelude.{List, [], ◌∷◌, ◌++◌, All, length, take, drop, nat_lt, nat_le}
use Rattle.std.specs.List.{count_by}
use Rattle.std.specs.Cmp.Lexicographic.{slice_cmp}
use Rattle.std.proofs.lemmas.Bool.{cases_eq, cases_lt, ltb-true}
use Rattle.std.proofs.lemmas.Bool.Decides.{leb_tells, nat_tests}
use Rattle.std.proofs.lemmas.List.{append-nil, drop-drop, drop-replicate}
use Rattle.std.proofs.lemmas.List.Elements.{All-cons, All-get_or, All-head, All-nil, All-tail, All-weaker}
use Rattle.std.proofs.lemmas.List.Sums.{count_by-le-length, sum_by-cons}
use Rattle.byteorder.specs.Endian.{big_number, little_number}
use Rattle.byteorder.specs.Numbers.{big_from-cons}
use Rattle.tree_nodes.specs.Nodes.{Entry, IsEntry, IsNode, entries_in, entry_at, entry_in, no_entry, node_in}
use Rattle.tree_nodes.specs.Order.{count_below, key_cmp}
use Rattle.tree_nodes.specs.inside.Leads.{first_bytes, lead_of, leads_below, leads_upto}
use Rattle.tree_nodes.specs.inside.Splices.{over}
use Rattle.tree_nodes.proofs.Fields.{zeros}
use Rattle.tree_nodes.proofs.Calls.{behind_entry, entry_bytes_stand}
use Rattle.tree_nodes.proofs.Rising.{is_less}

abbrev pub AreBytes : List ℕ → Type 0
AreBytes [] = Unit {0}
AreBytes (byte ∷ key) = (byte < 256) × AreBytes key

-- the bytes of a slice
pub bytes_from : (key : List ℕ) → ((i : ℕ) → get_or key i 0 < 256) → AreBytes key
bytes_from [] h = tt
bytes_from (b ∷ key) h = (h 0, bytes_from key (λ i. h (suc i)))

pub bytes_take : (n : ℕ) (key : List ℕ) → AreBytes key → AreBytes (take n key)
bytes_take zero key h = tt
bytes_take (suc n) [] h = tt
bytes_take (suc n) (b ∷ key) h = (h.0, bytes_take n key h.1)

pub bytes_drop : (n : ℕ) (key : List ℕ) → AreBytes key → AreBytes (drop n key)
bytes_drop zero key h = h
bytes_drop (suc n) [] h = tt
bytes_drop (suc n) (b ∷ key) h = bytes_drop n key h.1

-- ---- the order

scaled : (b p : ℕ) → b < 256 → b * p + p ≤ 256 * p
scaled b p h = grind arith

power : (n : ℕ) → 256 ^ suc n ≡ 256 * 256 ^ n
power n = omega arith

positive : (n : ℕ) → 0 < 256 ^ n
positive zero = omega arith
positive (suc n) = let more = positive n in let p = power n in omega (arith, more, p)

first_below : (n : ℕ) (key : List ℕ) → AreBytes key → first_bytes n key < 256 ^ n
unfolding first_bytes
first_below zero key h = omega arith
first_below (suc n) [] h = positive (suc n)
first_below (suc n) (b ∷ key) h =
    let more = first_below n key h.1 in
    let s = scaled b (256 ^ n) h.0 in
    let p = power n in
    omega (arith, more, s, p)

-- a lower first byte makes a lower number
lower : (a b p x y : ℕ) → a < b → x < p → a * p + x < b * p + y
lower a b p x y h k = grind arith

head_less : (a b : ℕ) (xs ys : List ℕ) → a < b → slice_cmp nat_cmp (a ∷ xs) (b ∷ ys) ≡ Less
head_less a b xs ys h = grind (arith, nat_tests)

head_same : (a : ℕ) (xs ys : List ℕ) → slice_cmp nat_cmp (a ∷ xs) (a ∷ ys) ≡ slice_cmp nat_cmp xs ys
head_same a xs ys = grind (arith, nat_tests)

less_behind : (x y p u v : ℕ) → x ≡ y → x * p + u < y * p + v → u < v
less_behind x y p u v e h = let k : x * p + u < x * p + v = subst (λ z. x * p + u < z * p + v) (sym e) h in omega (arith, k)

pub lead_less : (n : ℕ) (a b : List ℕ) → AreBytes a → AreBytes b → first_bytes n a < first_bytes n b → key_cmp a b ≡ Less
unfolding key_cmp first_bytes
lead_less zero a b f g h = absurd (omega arith)
lead_less (suc n) a [] f g h = absurd (omega arith)
lead_less (suc n) [] (y ∷ b) f g h = refl
lead_less (suc n) (x ∷ a) (y ∷ b) f g h =
    elim (cases_lt x y) [
      | inl l ↦ head_less x y a b l
      | inr m ↦ elim (cases_eq x y) [
        | inl e ↦ subst (λ z. slice_cmp nat_cmp (x ∷ a) (z ∷ b) ≡ Less) e (head_same x a b ∙ lead_less n a b f.1 g.1 (less_behind x y (256 ^ n) (first_bytes n a) (first_bytes n b) e h))
        | inr d ↦ absurd (let more = lower y x (256 ^ n) (first_bytes n b) (first_bytes n a) (omega arith) (first_below n b g.1) in omega (arith, more, h))
      ]
    ]

-- ---- how many leads are below, and how many keys

abbrev LeadBelow : List ℕ → Entry → Bool
LeadBelow key e = nat_lt (lead_of e.key) (lead_of key)

abbrev LeadUpto : List ℕ → Entry → Bool
LeadUpto key e = nat_le (lead_of e.key) (lead_of key)

abbrev KeyBelow : List ℕ → Entry → Bool
KeyBelow key e = is_lt (key_cmp e.key key)

abbrev pub HasBytes : Entry → Type 0
HasBytes e = AreBytes e.key

-- what is counted by one test is counted by another that holds where it does
counted_too : (p q : Entry → Bool) (es : List Entry) → All (λ e. p e ≡ true → q e ≡ true) es → count_by p es ≤ count_by q es
counted_too p q [] all = omega arith
counted_too p q (e ∷ es) all =
    let here = All-head (λ x. p x ≡ true → q x ≡ true) e es all in
    let behind = counted_too p q es (All-tail (λ x. p x ≡ true → q x ≡ true) e es all) in
    let first : count_by p (e ∷ es) ≡ cond {A = ℕ} (p e) 1 0 + count_by p es = sum_by-cons (λ x. cond (p x) 1 0) e es in
    let second : count_by q (e ∷ es) ≡ cond {A = ℕ} (q e) 1 0 + count_by q es = sum_by-cons (λ x. cond (q x) 1 0) e es in
    let one = at_most_one (p e) (q e) here in
    omega arith
  where
    at_most_one : (a b : Bool) → (a ≡ true → b ≡ true) → cond {A = ℕ} a 1 0 ≤ cond {A = ℕ} b 1 0
    at_most_one false b h = omega arith
    at_most_one true true h = omega arith
    at_most_one true false h = absurd (true≢false (sym (h refl)))

-- a key with a lower lead is below
lead_then_key : (key : List ℕ) → AreBytes key → (e : Entry) → HasBytes e → LeadBelow key e ≡ true → KeyBelow key e ≡ true
lead_then_key key bytes e h below = ap is_lt (lead_less 8 e.key key h bytes (ltb-true (lead_of e.key) (lead_of key) below))

not_both : (a b : List ℕ) → key_cmp a b ≡ Less → key_cmp b a ≡ Less → ⊥
unfolding key_cmp
not_both a b e f =
    let more : key_cmp a b ≡ Greater = nat_list_cmp_total.antisymm a b ∙ ap ordering_reverse f in
    true≢false (ap is_lt (sym e ∙ more))

-- and one that is below has no higher lead
key_then_lead : (key : List ℕ) → AreBytes key → (e : Entry) → HasBytes e → KeyBelow key e ≡ true → LeadUpto key e ≡ true
key_then_lead key bytes e h below =
    elim (leb_tells (lead_of e.key) (lead_of key)) [
      | inl l ↦ l.0
      | inr m ↦ absurd (not_both e.key key (is_less (key_cmp e.key key) below) (lead_less 8 key e.key bytes h m.1))
    ]

pub low_enough : (key : List ℕ) (es : List Entry) (lead low : ℕ) → AreBytes key → All HasBytes es → lead ≡ lead_of key → low ≡ leads_below es lead → low ≤ count_below es key
low_enough key es lead low bytes all of_key is =
    let same : low ≡ leads_below es (lead_of key) = is ∙ ap (λ k. leads_below es k) of_key in
    let few = counted_too (LeadBelow key) (KeyBelow key) es (All-weaker HasBytes (λ e. LeadBelow key e ≡ true → KeyBelow key e ≡ true) (lead_then_key key bytes) es all) in
    subst (λ k. k ≤ count_below es key) (sym same) few

pub high_enough : (key : List ℕ) (es : List Entry) (lead high : ℕ) → AreBytes key → All HasBytes es → lead ≡ lead_of key → high ≡ leads_upto es lead → count_below es key ≤ high
high_enough key es lead high bytes all of_key is =
    let same : high ≡ leads_upto es (lead_of key) = is ∙ ap (λ k. leads_upto es k) of_key in
    let few = counted_too (KeyBelow key) (LeadUpto key) es (All-weaker HasBytes (λ e. KeyBelow key e ≡ true → LeadUpto key e ≡ true) (key_then_lead key bytes) es all) in
    subst (λ k. count_below es key ≤ k) (sym same) few

pub high_within : (es : List Entry) (lead high : ℕ) → high ≡ leads_upto es lead → high ≤ length es
high_within es lead high is = subst (λ k. k ≤ length es) (sym is) (count_by-le-length (λ e. nat_le (lead_of e.key) lead) es)

-- ---- the keys of a content

keys_in : (k : ℕ) (bytes : List ℕ) → AreBytes bytes → All HasBytes (entries_in k bytes)
unfolding entries_in
keys_in zero bytes h = All-nil HasBytes
keys_in (suc k) bytes h =
    All-cons HasBytes (entry_in bytes) (entries_in k (drop 264 bytes))
    (bytes_take (little_number 2 bytes) (drop 8 bytes) (bytes_drop 8 bytes h)) (keys_in k (drop 264 bytes) (bytes_drop 264 bytes h))

pub keys_of : (content : List ℕ) → AreBytes content → All HasBytes (node_in content).entries
unfolding node_in
keys_of content h = keys_in (little_number 2 (drop 10 content)) (drop 24 content) (bytes_drop 24 content h)

-- ---- what is read

nothing : (p : ℕ) → 0 * p + 0 ≡ 0
nothing p = omega arith

zeros_read : (n m : ℕ) (rest : List ℕ) → n ≤ m → big_number n (zeros m ++ rest) ≡ 0
zeros_read zero m rest within = refl
zeros_read (suc n) zero rest within = absurd (omega arith)
zeros_read (suc n) (suc m) rest within =
    ap (λ k. 0 * 256 ^ n + k) (big_from-cons 0 n 0 (zeros m ++ rest) ∙ zeros_read n m rest (omega arith)) ∙ nothing (256 ^ n)

lead_read : (n m : ℕ) (key rest : List ℕ) → n ≤ length key + m → big_number n (key ++ (zeros m ++ rest)) ≡ first_bytes n key
unfolding first_bytes
lead_read zero m key rest within = refl
lead_read (suc n) m [] rest within = zeros_read (suc n) m rest (omega arith)
lead_read (suc n) m (b ∷ key) rest within =
    ap (λ k. b * 256 ^ n + k) (big_from-cons 0 n b (key ++ (zeros m ++ rest)) ∙ lead_read n m key rest (omega arith))

pub long_read : (key : List ℕ) → 8 ≤ length key → big_number 8 key ≡ lead_of key
long_read key long = ap (λ t. big_number 8 t) (sym (append-nil key)) ∙ lead_read 8 0 key [] (omega arith)

pub short_read : (key content : List ℕ) → length key < 8 → content ≡ over 0 key (zeros 8) → big_number 8 content ≡ lead_of key
short_read key content short is =
    let m = 8 - length key in
    let behind : drop (0 + length key) (zeros 8) ≡ zeros m ++ [] =
    ap (λ k. drop k (zeros 8)) {y = length key} (omega arith) ∙ (drop-replicate {X = ℕ} (length key) 8 0 ∙ sym (append-nil (zeros m))) in
    ap (λ t. big_number 8 t) (is ∙ ap (λ t. key ++ t) behind) ∙ lead_read 8 m key [] (omega arith)

pub entry_lead_read : (content : List ℕ) (i at : ℕ) → IsNode content → i < length (node_in content).entries → at ≡ 24 + 264 * i
    → big_number 8 (drop (at + 8) content) ≡ lead_of (entry_at (node_in content) i).key
entry_lead_read content i at is within here =
    let n = node_in content in let fits = is.node in
    let e : Entry = entry_at n i in
    let behind : List ℕ = behind_entry n i in
    let e_fits = All-get_or IsEntry n.entries i no_entry within fits.entries in
    let short = e_fits.short_key in
    let there = entry_bytes_stand content i at is within here in
    ap (λ t. big_number 8 t) (sym (drop-drop 8 at content) ∙ (ap (λ t. drop 8 t) there ∙ append_assoc e.key (zeros (256 - length e.key)) behind))
    ∙ lead_read 8 (256 - length e.key) e.key behind (omega arith)
