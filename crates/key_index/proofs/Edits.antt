-- Edits of blocks.
use Rattle.std.proofs.Common.{length-append, ◌≡◌, ℕ, zero, suc, ◌+◌, ◌-◌, ◌<◌, ◌≤◌, List, [], ◌∷◌, ◌++◌, length, take, drop, get_or, set, refl, sym, ap, subst, ◌∙◌, arith, add-one, zero-add, append_assoc, append-nil}
use Rattle.std.specs.Prelude.{All}
use Rattle.std.specs.List.{insert, remove}
use Rattle.std.proofs.lemmas.List.{take-append-drop}
use Rattle.std.proofs.lemmas.List.Elements.{All-head, All-tail, All-append, All-take, All-drop, All-cons, All-nil}
use Rattle.key_index.specs.declared.entries.Entry.{Entry}
use Rattle.std.proofs.lemmas.List.{take-map, drop-map, append_cancel_left, length-map}
use Rattle.std.proofs.lemmas.List.Elements.{All-weaker}
use Rattle.key_index.specs.Lead.{rows_of}
use Rattle.key_index.specs.Order.{Each}
use Rattle.key_index.specs.inside.Blocks.{entries_of, entries_at, front, back, lens_of, IsBlock}
use Rattle.key_index.proofs.InBlocks.{rows_append, all_left, all_right, all_at}
use Rattle.key_index.proofs.Found.{split_at, cut_at}

pub entries_set : (blocks : List (List Entry)) (k : ℕ) (b : List Entry) → k < length blocks
    → entries_of (set blocks k b) ≡ entries_of (take k blocks) ++ (b ++ entries_of (drop (k + 1) blocks))
entries_set blocks k b h = subst (λ n. entries_of (set blocks k b) ≡ entries_of (take k blocks) ++ (b ++ entries_of (drop n blocks))) (sym (add-one k)) (go blocks k b h)
  where
    go : (blocks : List (List Entry)) (k : ℕ) (b : List Entry) → k < length blocks
        → entries_of (set blocks k b) ≡ entries_of (take k blocks) ++ (b ++ entries_of (drop (suc k) blocks))
    go [] k b h = absurd (omega arith)
    go (c ∷ blocks) zero b h = refl
    go (c ∷ blocks) (suc k) b h = ap (λ es. c ++ es) (go blocks k b (omega arith)) ∙ sym (append_assoc c (entries_of (take k blocks)) (b ++ entries_of (drop (suc k) blocks)))

pub lens_set : (blocks : List (List Entry)) (k : ℕ) (b : List Entry) → lens_of (set blocks k b) ≡ set (lens_of blocks) k (length b)
lens_set [] zero b = refl
lens_set [] (suc k) b = refl
lens_set (c ∷ blocks) zero b = refl
lens_set (c ∷ blocks) (suc k) b = ap (λ ls. length c ∷ ls) (lens_set blocks k b)

pub at_set : (blocks : List (List Entry)) (k : ℕ) (b : List Entry) → k < length blocks → entries_at (set blocks k b) k ≡ b
at_set [] k b h = absurd (omega arith)
at_set (c ∷ blocks) zero b h = refl
at_set (c ∷ blocks) (suc k) b h = at_set blocks k b (omega arith)

pub all_insert : {X : Type 0} (P : X → Type 0) (xs : List X) (k : ℕ) (x : X) → All P xs → P x → All P (insert xs k x)
all_insert P xs k x all here = All-append P (take k xs) (x ∷ drop k xs) (All-take P k xs all) (All-cons P x (drop k xs) here (All-drop P k xs all))

-- a block in place of another, and one behind it
pub entries_two : (blocks : List (List Entry)) (k : ℕ) (a b : List Entry) → k < length blocks
    → entries_of (insert (set blocks k a) (k + 1) b) ≡ entries_of (take k blocks) ++ ((a ++ b) ++ entries_of (drop (k + 1) blocks))
entries_two blocks k a b h = subst (λ n. entries_of (insert (set blocks k a) n b) ≡ entries_of (take k blocks) ++ ((a ++ b) ++ entries_of (drop n blocks))) (sym (add-one k)) (go blocks k a b h)
  where
    go : (blocks : List (List Entry)) (k : ℕ) (a b : List Entry) → k < length blocks
        → entries_of (insert (set blocks k a) (suc k) b) ≡ entries_of (take k blocks) ++ ((a ++ b) ++ entries_of (drop (suc k) blocks))
    go [] k a b h = absurd (omega arith)
    go (c ∷ blocks) zero a b h = sym (append_assoc a b (entries_of blocks))
    go (c ∷ blocks) (suc k) a b h = ap (λ es. c ++ es) (go blocks k a b (omega arith)) ∙ sym (append_assoc c (entries_of (take k blocks)) ((a ++ b) ++ entries_of (drop (suc k) blocks)))

pub lens_two : (blocks : List (List Entry)) (k : ℕ) (a b : List Entry) → k < length blocks
    → lens_of (insert (set blocks k a) (k + 1) b) ≡ take k (lens_of blocks) ++ length a ∷ length b ∷ drop (k + 1) (lens_of blocks)
lens_two blocks k a b h = subst (λ n. lens_of (insert (set blocks k a) n b) ≡ take k (lens_of blocks) ++ length a ∷ length b ∷ drop n (lens_of blocks)) (sym (add-one k)) (go blocks k a b h)
  where
    go : (blocks : List (List Entry)) (k : ℕ) (a b : List Entry) → k < length blocks
        → lens_of (insert (set blocks k a) (suc k) b) ≡ take k (lens_of blocks) ++ length a ∷ length b ∷ drop (suc k) (lens_of blocks)
    go [] k a b h = absurd (omega arith)
    go (c ∷ blocks) zero a b h = refl
    go (c ∷ blocks) (suc k) a b h = ap (λ ls. length c ∷ ls) (go blocks k a b (omega arith))

-- a block whose parts are those of another
pub entries_same : (blocks : List (List Entry)) (k : ℕ) → k < length blocks → entries_of (take k blocks) ++ (entries_at blocks k ++ entries_of (drop (k + 1) blocks)) ≡ entries_of blocks
entries_same blocks k h = subst (λ n. entries_of (take k blocks) ++ (entries_at blocks k ++ entries_of (drop n blocks)) ≡ entries_of blocks) (sym (add-one k)) (go blocks k h)
  where
    go : (blocks : List (List Entry)) (k : ℕ) → k < length blocks → entries_of (take k blocks) ++ (entries_at blocks k ++ entries_of (drop (suc k) blocks)) ≡ entries_of blocks
    go [] k h = absurd (omega arith)
    go (c ∷ blocks) zero h = refl
    go (c ∷ blocks) (suc k) h = append_assoc c (entries_of (take k blocks)) (entries_at blocks k ++ entries_of (drop (suc k) blocks)) ∙ ap (λ es. c ++ es) (go blocks k (omega arith))

pub take_two : (blocks : List (List Entry)) (k : ℕ) (a b : List Entry) → k < length blocks → take k (insert (set blocks k a) (k + 1) b) ≡ take k blocks
take_two blocks k a b h = subst (λ n. take k (insert (set blocks k a) n b) ≡ take k blocks) (sym (add-one k)) (go blocks k h)
  where
    go : (blocks : List (List Entry)) (k : ℕ) → k < length blocks → take k (insert (set blocks k a) (suc k) b) ≡ take k blocks
    go [] k h = absurd (omega arith)
    go (c ∷ blocks) zero h = refl
    go (c ∷ blocks) (suc k) h = ap (λ (bs : List (List Entry)). c ∷ bs) (go blocks k (omega arith))

pub low_two : (blocks : List (List Entry)) (k : ℕ) (a b : List Entry) → k < length blocks → entries_at (insert (set blocks k a) (k + 1) b) k ≡ a
low_two blocks k a b h = subst (λ n. entries_at (insert (set blocks k a) n b) k ≡ a) (sym (add-one k)) (go blocks k h)
  where
    go : (blocks : List (List Entry)) (k : ℕ) → k < length blocks → entries_at (insert (set blocks k a) (suc k) b) k ≡ a
    go [] k h = absurd (omega arith)
    go (c ∷ blocks) zero h = refl
    go (c ∷ blocks) (suc k) h = go blocks k (omega arith)

pub high_two : (blocks : List (List Entry)) (k : ℕ) (a b : List Entry) → k < length blocks → entries_at (insert (set blocks k a) (k + 1) b) (k + 1) ≡ b
high_two blocks k a b h = subst (λ n. entries_at (insert (set blocks k a) n b) n ≡ b) (sym (add-one k)) (go blocks k h)
  where
    go : (blocks : List (List Entry)) (k : ℕ) → k < length blocks → entries_at (insert (set blocks k a) (suc k) b) (suc k) ≡ b
    go [] k h = absurd (omega arith)
    go (c ∷ blocks) zero h = refl
    go (c ∷ blocks) (suc k) h = go blocks k (omega arith)

pub upto_two : (blocks : List (List Entry)) (k : ℕ) (a b : List Entry) → k < length blocks → entries_of (take (k + 1) (insert (set blocks k a) (k + 1) b)) ≡ entries_of (take k blocks) ++ a
upto_two blocks k a b h = subst (λ n. entries_of (take n (insert (set blocks k a) n b)) ≡ entries_of (take k blocks) ++ a) (sym (add-one k)) (go blocks k h)
  where
    go : (blocks : List (List Entry)) (k : ℕ) → k < length blocks → entries_of (take (suc k) (insert (set blocks k a) (suc k) b)) ≡ entries_of (take k blocks) ++ a
    go [] k h = absurd (omega arith)
    go (c ∷ blocks) zero h = append-nil a
    go (c ∷ blocks) (suc k) h = ap (λ es. c ++ es) (go blocks k (omega arith)) ∙ sym (append_assoc c (entries_of (take k blocks)) a)

pub take_sum : {X : Type 0} (n m : ℕ) (xs : List X) → take n xs ++ take m (drop n xs) ≡ take (n + m) xs
take_sum zero m xs = ap (λ k. take k xs) (sym (zero-add m))
take_sum {X = X} (suc n) m [] = none m ∙ sym (none (suc n + m))
  where
    none : (k : ℕ) → take {A = X} k [] ≡ []
    none zero = refl
    none (suc k) = refl
take_sum {X = X} (suc n) m (x ∷ xs) = ap (λ (ys : List X). x ∷ ys) (take_sum n m xs) ∙ ap (λ k. take k (x ∷ xs)) (more n m)
  where
    more : (n m : ℕ) → suc (n + m) ≡ suc n + m
    more n m = omega arith

pub take_beyond : {X : Type 0} (n m : ℕ) (xs : List X) → n ≤ m → take n xs ++ take (m - n) (drop n xs) ≡ take m xs
take_beyond n m xs h = take_sum n (m - n) xs ∙ ap (λ k. take k xs) (let e : n + (m - n) ≡ m = omega arith in e)

pub all_full : (blocks : List (List Entry)) → All IsBlock blocks → All (λ b. 0 < length b) blocks
all_full blocks all = All-weaker IsBlock (λ (b : List Entry). 0 < length b) (λ b h. h.0) blocks all

-- how many entries a block has
pub len_at : (blocks : List (List Entry)) (k : ℕ) → get_or (lens_of blocks) k 0 ≡ length (entries_at blocks k)
len_at [] zero = refl
len_at [] (suc k) = refl
len_at (b ∷ blocks) zero = refl
len_at (b ∷ blocks) (suc k) = len_at blocks k

-- blocks of the same lengths are as many
pub lens_count : (blocks others : List (List Entry)) → lens_of blocks ≡ lens_of others → length blocks ≡ length others
lens_count blocks others same = sym (length-map blocks (λ (b : List Entry). length b)) ∙ ap length same ∙ length-map others (λ (b : List Entry). length b)

pub blocks_same : (blocks others : List (List Entry)) → lens_of blocks ≡ lens_of others → All IsBlock others → All IsBlock blocks
blocks_same [] others same all = All-nil IsBlock
blocks_same (b ∷ blocks) [] same all = (let none = ap length same in absurd (omega (arith, none)))
blocks_same (b ∷ blocks) (c ∷ others) same all =
    let here = All-head IsBlock c others all in
    let len : length b ≡ length c = ap (λ (ns : List ℕ). get_or ns 0 0) same in
    All-cons IsBlock b blocks (omega (arith, len, here), omega (arith, len, here)) (blocks_same blocks others (ap (λ (ns : List ℕ). drop 1 ns) same) (All-tail IsBlock c others all))

pub lens_positive : (blocks : List (List Entry)) → All IsBlock blocks → Each (λ n. 0 < n) (lens_of blocks)
lens_positive [] all = tt
lens_positive (b ∷ blocks) all = ((All-head IsBlock b blocks all).0, lens_positive blocks (All-tail IsBlock b blocks all))

pub short_at : (blocks : List (List Entry)) (k : ℕ) → All IsBlock blocks → length (entries_at blocks k) ≤ 256
short_at [] k all = omega arith
short_at (b ∷ blocks) zero all = (All-head IsBlock b blocks all).1
short_at (b ∷ blocks) (suc k) all = short_at blocks k (All-tail IsBlock b blocks all)

-- what holds of all entries and of another holds of them with the other put in
pub all_put : (P : Entry → Type 0) (blocks : List (List Entry)) (k at : ℕ) (e : Entry) → All P (entries_of blocks) → P e
    → All P (entries_of (take k blocks) ++ (insert (entries_at blocks k) at e ++ entries_of (drop (k + 1) blocks)))
all_put P blocks k at e all here =
    let before = entries_of (take k blocks) in
    let es = entries_at blocks k in
    let after = entries_of (drop (k + 1) blocks) in
    let whole = subst (All P) (split_at blocks k) all in
    All-append P before (insert es at e ++ after) (all_left P before (es ++ after) whole)
    (All-append P (insert es at e) after
    (All-append P (take at es) (e ∷ drop at es) (All-take P at es (all_at P blocks k all)) (All-cons P e (drop at es) here (All-drop P at es (all_at P blocks k all))))
    (all_right P es after (all_right P before (es ++ after) whole)))

-- the rows with another put in
pub rows_put : (blocks : List (List Entry)) (k at : ℕ) (e : Entry)
    → rows_of (entries_of (take k blocks) ++ (insert (entries_at blocks k) at e ++ entries_of (drop (k + 1) blocks))) ≡ front blocks k at ++ e.row ∷ back blocks k at
rows_put blocks k at e =
    let before = entries_of (take k blocks) in
    let es = entries_at blocks k in
    let after = entries_of (drop (k + 1) blocks) in
    rows_append before (insert es at e ++ after)
    ∙ ap (λ (xs : List ℕ). rows_of before ++ xs) (rows_append (insert es at e) after)
    ∙ ap (λ (xs : List ℕ). rows_of before ++ (xs ++ rows_of after)) (rows_append (take at es) (e ∷ drop at es))
    ∙ ap (λ (xs : List ℕ). rows_of before ++ ((xs ++ e.row ∷ rows_of (drop at es)) ++ rows_of after)) (sym (take-map (λ (x : Entry). x.row) at es))
    ∙ ap (λ (xs : List ℕ). rows_of before ++ ((take at (rows_of es) ++ e.row ∷ xs) ++ rows_of after)) (sym (drop-map (λ (x : Entry). x.row) at es))
    ∙ ap (λ (xs : List ℕ). rows_of before ++ xs) (append_assoc (take at (rows_of es)) (e.row ∷ drop at (rows_of es)) (rows_of after))
    ∙ sym (append_assoc (rows_of before) (take at (rows_of es)) (e.row ∷ (drop at (rows_of es) ++ rows_of after)))

-- two cuts with one front have one back
pub same_back : (blocks others : List (List Entry)) (k at j to : ℕ) → rows_of (entries_of others) ≡ rows_of (entries_of blocks) → front others j to ≡ front blocks k at → back others j to ≡ back blocks k at
same_back blocks others k at j to e f =
    append_cancel_left (front blocks k at) (back others j to) (back blocks k at)
    (ap (λ (xs : List ℕ). xs ++ back others j to) (sym f) ∙ sym (cut_at others j to) ∙ e ∙ cut_at blocks k at)

pub length_put : (blocks : List (List Entry)) (k at : ℕ) (e : Entry)
    → length (entries_of (take k blocks) ++ (insert (entries_at blocks k) at e ++ entries_of (drop (k + 1) blocks))) ≡ length (entries_of blocks) + 1
length_put blocks k at e =
    let before = entries_of (take k blocks) in
    let es = entries_at blocks k in
    let after = entries_of (drop (k + 1) blocks) in
    let a = length-append before (insert es at e ++ after) in
    let b = length-append (insert es at e) after in
    let d = length-append (take at es) (e ∷ drop at es) in
    let f = length-append before (es ++ after) in
    let h = length-append es after in
    let i = length-append (take at es) (drop at es) in
    let j = ap length (take-append-drop at es) in
    let w = ap length (split_at blocks k) in
    omega (arith, a, b, d, f, h, i, j, w)

-- ---- two blocks that are joined

pub entries_join : (blocks : List (List Entry)) (k : ℕ) (w : List Entry) → k + 1 < length blocks → w ≡ entries_at blocks k ++ entries_at blocks (k + 1)
    → entries_of (set (remove blocks (k + 1)) k w) ≡ entries_of blocks
entries_join blocks k w h is =
    subst (λ n. entries_of (set (remove blocks n) k w) ≡ entries_of blocks) (sym (add-one k)) (go blocks k (omega arith) (subst (λ n. w ≡ entries_at blocks k ++ entries_at blocks n) (add-one k) is))
  where
    go : (blocks : List (List Entry)) (k : ℕ) → suc k < length blocks → w ≡ entries_at blocks k ++ entries_at blocks (suc k) → entries_of (set (remove blocks (suc k)) k w) ≡ entries_of blocks
    go [] k h is = absurd (omega arith)
    go (a ∷ []) zero h is = absurd (omega arith)
    go (a ∷ b ∷ blocks) zero h is = ap (λ (es : List Entry). es ++ entries_of blocks) is ∙ append_assoc a b (entries_of blocks)
    go (c ∷ blocks) (suc k) h is = ap (λ (es : List Entry). c ++ es) (go blocks k (omega arith) is)

pub lens_join : (blocks : List (List Entry)) (k : ℕ) (w : List Entry) → k + 1 < length blocks → lens_of (set (remove blocks (k + 1)) k w) ≡ take k (lens_of blocks) ++ length w ∷ drop (k + 2) (lens_of blocks)
lens_join blocks k w h =
    subst (λ n. lens_of (set (remove blocks n) k w) ≡ take k (lens_of blocks) ++ length w ∷ drop (k + 2) (lens_of blocks)) (sym (add-one k))
    (go blocks k (omega arith) ∙ ap (λ (m : ℕ). take k (lens_of blocks) ++ length w ∷ drop m (lens_of blocks)) (let e : suc (suc k) ≡ k + 2 = omega arith in e))
  where
    go : (blocks : List (List Entry)) (k : ℕ) → suc k < length blocks → lens_of (set (remove blocks (suc k)) k w) ≡ take k (lens_of blocks) ++ length w ∷ drop (suc (suc k)) (lens_of blocks)
    go [] k h = absurd (omega arith)
    go (a ∷ []) zero h = absurd (omega arith)
    go (a ∷ b ∷ blocks) zero h = refl
    go (c ∷ blocks) (suc k) h = ap (λ (ns : List ℕ). length c ∷ ns) (go blocks k (omega arith))

pub all_remove : {X : Type 0} (P : X → Type 0) (xs : List X) (k : ℕ) → All P xs → All P (remove xs k)
all_remove P xs k all = All-append P (take k xs) (drop (suc k) xs) (All-take P k xs all) (All-drop P (suc k) xs all)
