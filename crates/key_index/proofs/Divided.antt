-- A block that is cut in two, and two that are joined.
use Rattle.std.proofs.Common.{◌≡◌, ℕ, zero, suc, ◌+◌, ◌<◌, List, [], ◌∷◌, ◌++◌, length, take, drop, set, refl, sym, ap, ◌∙◌, arith, add-one}
use Rattle.std.specs.List.{insert, remove}
use Rattle.key_index.specs.declared.entries.Entry.{Entry}
use Rattle.key_index.specs.inside.Blocks.{entries_at}

-- a block that has come into use behind another
pub opened_low : (blocks : List (List Entry)) (k : ℕ) → k < length blocks → entries_at (insert blocks (k + 1) []) k ≡ entries_at blocks k
opened_low blocks k h = ap (λ n. entries_at (insert blocks n []) k) (add-one k) ∙ go blocks k h
  where
    go : (blocks : List (List Entry)) (k : ℕ) → k < length blocks → entries_at (insert blocks (suc k) []) k ≡ entries_at blocks k
    go [] k h = absurd (omega arith)
    go (b ∷ blocks) zero h = refl
    go (b ∷ blocks) (suc k) h = go blocks k (omega arith)

pub opened_high : (blocks : List (List Entry)) (k : ℕ) → k < length blocks → entries_at (insert blocks (k + 1) []) (k + 1) ≡ []
opened_high blocks k h = ap (λ n. entries_at (insert blocks n []) n) (add-one k) ∙ go blocks k h
  where
    go : (blocks : List (List Entry)) (k : ℕ) → k < length blocks → entries_at (insert blocks (suc k) []) (suc k) ≡ []
    go [] k h = absurd (omega arith)
    go (b ∷ blocks) zero h = refl
    go (b ∷ blocks) (suc k) h = go blocks k (omega arith)

pub opened_len : (blocks opened : List (List Entry)) (k : ℕ) → k < length blocks → opened ≡ insert blocks (k + 1) [] → length (entries_at opened k) ≡ length (entries_at blocks k)
opened_len blocks opened k h is = ap (λ (bs : List (List Entry)). length (entries_at bs k)) is ∙ ap length (opened_low blocks k h)

pub opened_none : (blocks opened : List (List Entry)) (k behind : ℕ) → k < length blocks → behind ≡ k + 1 → opened ≡ insert blocks (k + 1) [] → length (entries_at opened behind) ≡ 0
opened_none blocks opened k behind h next is =
    ap (λ n. length (entries_at opened n)) next ∙ ap (λ (bs : List (List Entry)). length (entries_at bs (k + 1))) is ∙ ap length (opened_high blocks k h)

-- a block before one that is written
pub set_behind : (blocks : List (List Entry)) (k : ℕ) (x : List Entry) → entries_at (set blocks (k + 1) x) k ≡ entries_at blocks k
set_behind blocks k x = ap (λ n. entries_at (set blocks n x) k) (add-one k) ∙ go blocks k
  where
    go : (blocks : List (List Entry)) (k : ℕ) → entries_at (set blocks (suc k) x) k ≡ entries_at blocks k
    go [] k = refl
    go (b ∷ blocks) zero = refl
    go (b ∷ blocks) (suc k) = go blocks k

pub moved_len : (opened moved : List (List Entry)) (k behind : ℕ) (x : List Entry) → behind ≡ k + 1 → moved ≡ set opened behind x → length (entries_at moved k) ≡ length (entries_at opened k)
moved_len opened moved k behind x next is =
    ap (λ (bs : List (List Entry)). length (entries_at bs k)) is ∙ ap (λ n. length (entries_at (set opened n x) k)) next ∙ ap length (set_behind opened k x)

pub cut_is : (blocks opened moved left : List (List Entry)) (k behind : ℕ) → k < length blocks → behind ≡ k + 1 → opened ≡ insert blocks (k + 1) []
    → moved ≡ set opened behind (entries_at opened behind ++ drop 128 (entries_at opened k)) → left ≡ set moved k (take 128 (entries_at moved k))
    → left ≡ insert (set blocks k (take 128 (entries_at blocks k))) (k + 1) (drop 128 (entries_at blocks k))
cut_is blocks opened moved left k behind h next is_opened is_moved is_left =
    is_left ∙ ap (λ (bs : List (List Entry)). set bs k (take 128 (entries_at bs k))) (is_moved ∙ ap (λ n. set opened n (entries_at opened n ++ drop 128 (entries_at opened k))) (next ∙ add-one k)
    ∙ ap (λ (bs : List (List Entry)). set bs (suc k) (entries_at bs (suc k) ++ drop 128 (entries_at bs k))) (is_opened ∙ ap (λ n. insert blocks n []) (add-one k)))
    ∙ go blocks k h ∙ ap (λ n. insert (set blocks k (take 128 (entries_at blocks k))) n (drop 128 (entries_at blocks k))) (sym (add-one k))
  where
    go : (blocks : List (List Entry)) (k : ℕ) → k < length blocks
        → set (set (insert blocks (suc k) []) (suc k) (entries_at (insert blocks (suc k) []) (suc k) ++ drop 128 (entries_at (insert blocks (suc k) []) k))) k
        (take 128 (entries_at (set (insert blocks (suc k) []) (suc k) (entries_at (insert blocks (suc k) []) (suc k) ++ drop 128 (entries_at (insert blocks (suc k) []) k))) k))
        ≡ insert (set blocks k (take 128 (entries_at blocks k))) (suc k) (drop 128 (entries_at blocks k))
    go [] k h = absurd (omega arith)
    go (b ∷ blocks) zero h = refl
    go (b ∷ blocks) (suc k) h = ap (λ (bs : List (List Entry)). b ∷ bs) (go blocks k (omega arith))

pub joined_is : (blocks moved left : List (List Entry)) (k behind : ℕ) → k + 1 < length blocks → behind ≡ k + 1
    → moved ≡ set blocks k (entries_at blocks k ++ drop 0 (entries_at blocks behind)) → left ≡ remove moved behind
    → left ≡ set (remove blocks (k + 1)) k (entries_at blocks k ++ entries_at blocks (k + 1))
joined_is blocks moved left k behind h next is_moved is_left =
    is_left ∙ ap (λ n. remove moved n) (next ∙ add-one k) ∙ ap (λ (bs : List (List Entry)). remove bs (suc k)) (is_moved ∙ ap (λ n. set blocks k (entries_at blocks k ++ drop 0 (entries_at blocks n))) (next ∙ add-one k))
    ∙ go blocks k (omega arith) ∙ ap (λ n. set (remove blocks n) k (entries_at blocks k ++ entries_at blocks n)) (sym (add-one k))
  where
    go : (blocks : List (List Entry)) (k : ℕ) → suc k < length blocks
        → remove (set blocks k (entries_at blocks k ++ drop 0 (entries_at blocks (suc k)))) (suc k) ≡ set (remove blocks (suc k)) k (entries_at blocks k ++ entries_at blocks (suc k))
    go [] k h = absurd (omega arith)
    go (a ∷ []) k h = absurd (omega arith)
    go (a ∷ b ∷ blocks) zero h = refl
    go (a ∷ b ∷ blocks) (suc k) h = ap (λ (bs : List (List Entry)). a ∷ bs) (go (b ∷ blocks) k (omega arith))
