-- Entries that are put in and taken out among the first of some.
use Rattle.std.proofs.Common.{◌≡◌, ℕ, zero, suc, ◌+◌, ◌-◌, ◌<◌, ◌≤◌, List, [], ◌∷◌, ◌++◌, length, take, drop, set, ap, ◌∙◌, arith, add-one}
use Rattle.std.specs.List.{insert, remove}
use Rattle.std.proofs.lemmas.List.{length-take-le, take_at}
use Rattle.std.proofs.Math.Seq.{paste}
use Rattle.key_index.specs.declared.entries.Entry.{Entry}

-- the first so many, before others
first_of : (n m : ℕ) (c b : List Entry) → m ≡ n → n ≤ length c → take n (take m c ++ b) ≡ take n c
first_of n m c b same h = ap (λ k. take n (take k c ++ b)) same ∙ take_at (take n c) b n (length-take-le n c h)

pub put_first : (c : List Entry) (len at : ℕ) (e : Entry) → at ≤ len → len < length c → take (len + 1) (set (paste c (at + 1) (drop at c) (len - at)) at e) ≡ insert (take len c) at e
put_first c len at e within room =
    let b = drop (at + 1 + (len - at)) c in
    ap (λ m. take m (set (paste c (at + 1) (drop at c) (len - at)) at e)) (add-one len)
    ∙ ap (λ m. take (suc len) (set ((take m c ++ take (len - at) (drop at c)) ++ b) at e)) (add-one at) ∙ go c b len at (len - at) (omega arith) room
  where
    go : (c b : List Entry) (len at n : ℕ) → at + n ≡ len → len < length c → take (suc len) (set ((take (suc at) c ++ take n (drop at c)) ++ b) at e) ≡ insert (take len c) at e
    go [] b len at n sum room = absurd (omega arith)
    go (x ∷ c) b len zero n sum room = ap (λ (es : List Entry). e ∷ es) (first_of len n (x ∷ c) b (omega arith) (omega arith))
    go (x ∷ c) b zero (suc at) n sum room = absurd (omega arith)
    go (x ∷ c) b (suc len) (suc at) n sum room = ap (λ (es : List Entry). x ∷ es) (go c b len at n (omega arith) (omega arith))

pub close_first : (c : List Entry) (len at : ℕ) → at < len → len ≤ length c → take (len - 1) (paste c at (drop (at + 1) c) (len - (at + 1))) ≡ remove (take len c) at
close_first c len at inside within =
    let n = len - (at + 1) in
    let b = drop (at + n) c in
    let whole : suc (len - 1) ≡ len = omega arith in
    ap (λ m. take (len - 1) ((take at c ++ take n (drop m c)) ++ b)) (add-one at) ∙ go c b (len - 1) at n (omega arith) (omega arith) ∙ ap (λ m. remove (take m c) at) whole
  where
    go : (c b : List Entry) (len at n : ℕ) → at + n ≡ len → len < length c → take len ((take at c ++ take n (drop (suc at) c)) ++ b) ≡ remove (take (suc len) c) at
    go [] b len at n sum room = absurd (omega arith)
    go (x ∷ c) b len zero n sum room = first_of len n c b (omega arith) (omega arith)
    go (x ∷ c) b zero (suc at) n sum room = absurd (omega arith)
    go (x ∷ c) b (suc len) (suc at) n sum room = ap (λ (es : List Entry). x ∷ es) (go c b len at n (omega arith) (omega arith))
