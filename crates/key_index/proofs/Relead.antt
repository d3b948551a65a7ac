-- Leads that are read anew.
use Rattle.std.proofs.Common.{◌≡◌, ℕ, zero, suc, ◌<◌, List, [], ◌∷◌, ◌++◌, length, take, get_or, set, refl, sym, ap, ◌∙◌, arith, append_assoc}
use Rattle.std.specs.Prelude.{All}
use Rattle.std.proofs.lemmas.List.{length-map}
use Rattle.std.proofs.lemmas.List.Elements.{All-append}
use Rattle.key_index.specs.declared.entries.Entry.{Entry}
use Rattle.key_index.specs.Lead.{rows_of}
use Rattle.key_index.specs.inside.Blocks.{entries_of, entries_at, lens_of, front}
use Rattle.key_index.proofs.InBlocks.{rows_append, all_left, all_right}

pub rows_set : (es : List Entry) (k : ℕ) (e d : Entry) → k < length es → e.row ≡ (get_or es k d).row → rows_of (set es k e) ≡ rows_of es
rows_set [] k e d h is = absurd (omega arith)
rows_set (x ∷ es) zero e d h is = ap (λ (r : ℕ). r ∷ rows_of es) is
rows_set (x ∷ es) (suc k) e d h is = ap (λ (rs : List ℕ). x.row ∷ rs) (rows_set es k e d (omega arith) is)

pub rows_block : (blocks : List (List Entry)) (k : ℕ) (b : List Entry) → rows_of b ≡ rows_of (entries_at blocks k) → rows_of (entries_of (set blocks k b)) ≡ rows_of (entries_of blocks)
rows_block [] zero b is = refl
rows_block [] (suc k) b is = refl
rows_block (c ∷ blocks) zero b is =
    rows_append b (entries_of blocks) ∙ ap (λ (rs : List ℕ). rs ++ rows_of (entries_of blocks)) is ∙ sym (rows_append c (entries_of blocks))
rows_block (c ∷ blocks) (suc k) b is =
    rows_append c (entries_of (set blocks k b)) ∙ ap (λ (rs : List ℕ). rows_of c ++ rs) (rows_block blocks k b is) ∙ sym (rows_append c (entries_of blocks))

pub lens_block : (blocks : List (List Entry)) (k : ℕ) (b : List Entry) → length b ≡ length (entries_at blocks k) → lens_of (set blocks k b) ≡ lens_of blocks
lens_block [] zero b is = refl
lens_block [] (suc k) b is = refl
lens_block (c ∷ blocks) zero b is = ap (λ (n : ℕ). n ∷ lens_of blocks) is
lens_block (c ∷ blocks) (suc k) b is = ap (λ (ns : List ℕ). length c ∷ ns) (lens_block blocks k b is)

pub same_len : (es fs : List Entry) → rows_of es ≡ rows_of fs → length es ≡ length fs
same_len es fs e = sym (length-map es (λ (x : Entry). x.row)) ∙ ap length e ∙ length-map fs (λ (x : Entry). x.row)

-- entries that are replaced by others of the same rows
pub all_block : (P : Entry → Type 0) (blocks : List (List Entry)) (k : ℕ) (b : List Entry) → All P (entries_of blocks) → All P b → All P (entries_of (set blocks k b))
all_block P [] zero b all here = all
all_block P [] (suc k) b all here = all
all_block P (c ∷ blocks) zero b all here = All-append P b (entries_of blocks) here (all_right P c (entries_of blocks) all)
all_block P (c ∷ blocks) (suc k) b all here =
    All-append P c (entries_of (set blocks k b)) (all_left P c (entries_of blocks) all) (all_block P blocks k b (all_right P c (entries_of blocks) all) here)

pub front_block : (blocks : List (List Entry)) (k : ℕ) (b : List Entry) (j : ℕ) → rows_of b ≡ rows_of (entries_at blocks k) → k < length blocks → front (set blocks k b) k j ≡ front blocks k j
front_block [] k b j is h = absurd (omega arith)
front_block (c ∷ blocks) zero b j is h = ap (λ (rs : List ℕ). take j rs) is
front_block (c ∷ blocks) (suc k) b j is h =
    ap (λ (rs : List ℕ). rs ++ take j (rows_of (entries_at (set blocks k b) k))) (rows_append c (entries_of (take k (set blocks k b))))
    ∙ append_assoc (rows_of c) (rows_of (entries_of (take k (set blocks k b)))) (take j (rows_of (entries_at (set blocks k b) k)))
    ∙ ap (λ (rs : List ℕ). rows_of c ++ rs) (front_block blocks k b j is (omega arith))
    ∙ sym (append_assoc (rows_of c) (rows_of (entries_of (take k blocks))) (take j (rows_of (entries_at blocks k))))
    ∙ ap (λ (rs : List ℕ). rs ++ take j (rows_of (entries_at blocks k))) (sym (rows_append c (entries_of (take k blocks))))
