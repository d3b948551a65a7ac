-- What is written over, put in and taken out, by the parts of a text.
use Rattle.std.proofs.Common.{◌≡◌, ℕ, ◌+◌, ◌≤◌, List, ◌++◌, length, take, drop, replicate, refl, ap, sym, ◌∙◌, append_assoc, arith, length-append}
use Rattle.std.proofs.lemmas.List.{take_at, drop_at, drop-drop, length-drop, length-replicate, length-take-le, take-append-drop}
use Rattle.std.proofs.Math.Seq.{take-add}
use Rattle.tree_nodes.specs.inside.Splices.{over, put_in, taken_out}

drop_two : (a b c : List ℕ) (m n k : ℕ) → length a ≡ m → length b ≡ n → m + n ≡ k → drop k (a ++ (b ++ c)) ≡ c
drop_two a b c m n k is_a is_b sum =
    ap (λ i. drop i (a ++ (b ++ c))) (sym sum)
    ∙ (sym (drop-drop n m (a ++ (b ++ c))) ∙ (ap (λ t. drop n t) (drop_at a (b ++ c) m is_a) ∙ drop_at b c n is_b))

drop_three : (a b c d : List ℕ) (m n o k : ℕ) → length a ≡ m → length b ≡ n → length c ≡ o → m + n + o ≡ k → drop k (a ++ (b ++ (c ++ d))) ≡ d
drop_three a b c d m n o k is_a is_b is_c sum =
    ap (λ i. drop i (a ++ (b ++ (c ++ d)))) (sym sum)
    ∙ (sym (drop-drop o (m + n) (a ++ (b ++ (c ++ d)))) ∙ (ap (λ t. drop o t) (drop_two a b (c ++ d) m n (m + n) is_a is_b refl) ∙ drop_at c d o is_c))

pub over_parts : (a y b bytes : List ℕ) (at : ℕ) → length a ≡ at → length y ≡ length bytes → over at bytes (a ++ (y ++ b)) ≡ a ++ (bytes ++ b)
over_parts a y b bytes at is_a is_y =
    ap (λ t. t ++ (bytes ++ drop (at + length bytes) (a ++ (y ++ b)))) (take_at a (y ++ b) at is_a)
    ∙ ap (λ t. a ++ (bytes ++ t)) (drop_two a y b at (length bytes) (at + length bytes) is_a is_y refl)

pub put_in_parts : (a x y b bytes : List ℕ) (at moved : ℕ) → length a ≡ at → length x ≡ moved → length y ≡ length bytes
    → put_in at moved bytes (a ++ (x ++ (y ++ b))) ≡ a ++ (bytes ++ (x ++ b))
put_in_parts a x y b bytes at moved is_a is_x is_y =
    let whole : List ℕ = a ++ (x ++ (y ++ b)) in
    ap (λ t. t ++ (bytes ++ (take moved (drop at whole) ++ drop (at + moved + length bytes) whole))) (take_at a (x ++ (y ++ b)) at is_a)
    ∙ (ap (λ t. a ++ (bytes ++ (take moved t ++ drop (at + moved + length bytes) whole))) (drop_at a (x ++ (y ++ b)) at is_a)
    ∙ (ap (λ t. a ++ (bytes ++ (t ++ drop (at + moved + length bytes) whole))) (take_at x (y ++ b) moved is_x)
    ∙ ap (λ t. a ++ (bytes ++ (x ++ t))) (drop_three a x y b at moved (length bytes) (at + moved + length bytes) is_a is_x is_y refl)))

pub taken_out_parts : (a y x b bytes : List ℕ) (at moved : ℕ) → length a ≡ at → length y ≡ length bytes → length x ≡ moved
    → taken_out at moved bytes (a ++ (y ++ (x ++ b))) ≡ a ++ (x ++ (bytes ++ b))
taken_out_parts a y x b bytes at moved is_a is_y is_x =
    let whole : List ℕ = a ++ (y ++ (x ++ b)) in
    let m = length bytes in
    ap (λ t. t ++ (take moved (drop (at + m) whole) ++ (bytes ++ drop (at + moved + m) whole))) (take_at a (y ++ (x ++ b)) at is_a)
    ∙ (ap (λ t. a ++ (take moved t ++ (bytes ++ drop (at + moved + m) whole))) (drop_two a y (x ++ b) at m (at + m) is_a is_y refl)
    ∙ (ap (λ t. a ++ (t ++ (bytes ++ drop (at + moved + m) whole))) (take_at x b moved is_x)
    ∙ ap (λ t. a ++ (x ++ (bytes ++ t))) (drop_three a y x b at m moved (at + moved + m) is_a is_y is_x (omega arith))))

length_part : (c : List ℕ) (from n : ℕ) → from + n ≤ length c → length (take n (drop from c)) ≡ n
length_part c from n within = length-take-le n (drop from c) (let l = length-drop from c in omega arith)

-- a part is written over another
pub moved_over : (c : List ℕ) (from to n k : ℕ) → from + n ≤ length c → k ≡ n
    → (take to c ++ take k (drop from c)) ++ drop (to + k) c ≡ over to (take n (drop from c)) c
moved_over c from to n k within same =
    let x : List ℕ = take n (drop from c) in
    ap (λ i. (take to c ++ take i (drop from c)) ++ drop (to + i) c) same
    ∙ (append_assoc (take to c) x (drop (to + n) c) ∙ ap (λ i. take to c ++ (x ++ drop (to + i) c)) (sym (length_part c from n within)))

-- a part moves up, and bytes are written where it stood
pub put_in_moved : (at moved : ℕ) (bytes c mid : List ℕ) → at + moved + length bytes ≤ length c → mid ≡ over (at + length bytes) (take moved (drop at c)) c
    → over at bytes mid ≡ put_in at moved bytes c
put_in_moved at moved bytes c mid within is =
    let m = length bytes in
    let x : List ℕ = take moved (drop at c) in
    let y : List ℕ = take m (drop at c) in
    let b : List ℕ = x ++ drop (at + m + length x) c in
    let length_x : length x ≡ moved = length_part c at moved (omega arith) in
    let front : over (at + m) x c ≡ take at c ++ (y ++ b) = ap (λ t. t ++ b) (take-add at m c) ∙ append_assoc (take at c) y b in
    ap (λ t. over at bytes t) (is ∙ front)
    ∙ (over_parts (take at c) y b bytes at (length-take-le at c (omega arith)) (length_part c at m (omega arith))
    ∙ ap (λ k. take at c ++ (bytes ++ (x ++ drop k c))) {x = at + m + length x} {y = at + moved + m} (omega arith))

-- a part moves down, and bytes are written where it ended
pub taken_out_moved : (at moved m : ℕ) (bytes c mid : List ℕ) → length bytes ≡ m → at + moved + m ≤ length c → mid ≡ over at (take moved (drop (at + m) c)) c
    → over (at + moved) bytes mid ≡ taken_out at moved bytes c
taken_out_moved at moved m bytes c mid length_bytes within is =
    let x : List ℕ = take moved (drop (at + m) c) in
    let d : List ℕ = drop (at + length x) c in
    let length_x : length x ≡ moved = length_part c (at + m) moved (omega arith) in
    let length_front : length (take at c) ≡ at = length-take-le at c (omega arith) in
    let length_a : length (take at c ++ x) ≡ at + moved = length-append (take at c) x ∙ omega arith in
    let length_y : length (take m d) ≡ length bytes = length_part c (at + length x) m (omega arith) ∙ sym length_bytes in
    let parts : over at x c ≡ (take at c ++ x) ++ (take m d ++ drop m d) =
    sym (append_assoc (take at c) x d) ∙ ap (λ t. (take at c ++ x) ++ t) (sym (take-append-drop m d)) in
    let tail : drop m d ≡ drop (at + moved + m) c = drop-drop m (at + length x) c ∙ ap (λ k. drop k c) {x = at + length x + m} {y = at + moved + m} (omega arith) in
    ap (λ t. over (at + moved) bytes t) (is ∙ parts)
    ∙ (over_parts (take at c ++ x) (take m d) (drop m d) bytes (at + moved) length_a length_y
    ∙ (ap (λ t. (take at c ++ x) ++ (bytes ++ t)) tail
    ∙ (append_assoc (take at c) x (bytes ++ drop (at + moved + m) c)
    ∙ ap (λ k. take at c ++ (take moved (drop (at + k) c) ++ (bytes ++ drop (at + moved + k) c))) (sym length_bytes))))

-- a part holds one byte as often as it is long
pub filled : (at k len byte : ℕ) (c part : List ℕ) → k ≡ len → at + len ≤ length c → part ≡ replicate (length (take k (drop at c))) byte
    → take at c ++ (part ++ drop k (drop at c)) ≡ over at (replicate len byte) c
filled at k len byte c part same within is =
    let bytes : List ℕ = replicate len byte in
    let length_bytes : length bytes ≡ len = length-replicate {A = ℕ} len byte in
    let long : length (take k (drop at c)) ≡ len = length_part c at k (omega arith) ∙ same in
    let tail : drop k (drop at c) ≡ drop (at + length bytes) c = drop-drop k at c ∙ ap (λ i. drop i c) {x = at + k} {y = at + length bytes} (omega arith) in
    ap (λ t. take at c ++ (t ++ drop k (drop at c))) (is ∙ ap (λ n. replicate n byte) long)
    ∙ ap (λ t. take at c ++ (bytes ++ t)) tail
