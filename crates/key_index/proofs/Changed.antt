-- What a change of blocks says of all rows.
use Rattle.std.proofs.Common.{zero, suc, take, drop, slice_get, Some, add-one, append_assoc, ◌≡◌, ℕ, ◌+◌, ◌<◌, List, [], ◌∷◌, ◌++◌, length, sym, ap, subst, ◌∙◌, arith}
use Rattle.std.specs.Prelude.{All}
use Rattle.key_index.specs.declared.entries.Entry.{Entry}
use Rattle.key_index.specs.Lead.{rows_of}
use Rattle.key_index.specs.inside.Kept.{AreKept}
use Rattle.key_index.specs.inside.Stock.{Stock}
use Rattle.key_index.specs.inside.Blocks.{entries_of, entries_at, front}
use Rattle.std.specs.List.{remove}
use Rattle.std.proofs.lemmas.List.{take-map}
use Rattle.std.proofs.lemmas.List.Elements.{All-append, All-take, All-drop}
use Rattle.key_index.proofs.InBlocks.{rows_append, all_left, all_right, all_at}
use Rattle.key_index.proofs.Found.{split_at, got, cut_at}
use Rattle.key_index.proofs.Density.{few_blocks}

-- an index with room may take another block into use
pub has_room : (room count : ℕ) (blocks : Stock) → AreKept room count blocks → length (entries_of blocks.contents) < room → length blocks.contents < blocks.most
has_room room count blocks kept less =
    let few = few_blocks blocks.contents kept.dense in
    let enough = kept.enough in
    omega (arith, few, enough, less)

-- ---- an entry taken out

pub all_taken : (P : Entry → Type 0) (blocks : List (List Entry)) (k at : ℕ) → All P (entries_of blocks) → All P (entries_of (take k blocks) ++ (remove (entries_at blocks k) at ++ entries_of (drop (k + 1) blocks)))
all_taken P blocks k at all =
    let before = entries_of (take k blocks) in
    let es = entries_at blocks k in
    let after = entries_of (drop (k + 1) blocks) in
    let whole = subst (All P) (split_at blocks k) all in
    let here = all_at P blocks k all in
    All-append P before (remove es at ++ after) (all_left P before (es ++ after) whole)
    (All-append P (remove es at) after (All-append P (take at es) (drop (suc at) es) (All-take P at es here) (All-drop P (suc at) es here))
    (all_right P es after (all_right P before (es ++ after) whole)))

pub rows_taken : (blocks : List (List Entry)) (k at : ℕ)
    → rows_of (entries_of (take k blocks) ++ (remove (entries_at blocks k) at ++ entries_of (drop (k + 1) blocks))) ≡ front blocks k at ++ (rows_of (drop (at + 1) (entries_at blocks k)) ++ rows_of (entries_of (drop (k + 1) blocks)))
rows_taken blocks k at =
    let before = entries_of (take k blocks) in
    let es = entries_at blocks k in
    let after = entries_of (drop (k + 1) blocks) in
    rows_append before (remove es at ++ after)
    ∙ ap (λ (xs : List ℕ). rows_of before ++ xs) (rows_append (remove es at) after)
    ∙ ap (λ (xs : List ℕ). rows_of before ++ (xs ++ rows_of after)) (rows_append (take at es) (drop (suc at) es))
    ∙ ap (λ (n : ℕ). rows_of before ++ ((rows_of (take at es) ++ rows_of (drop n es)) ++ rows_of after)) (sym (add-one at))
    ∙ ap (λ (xs : List ℕ). rows_of before ++ ((xs ++ rows_of (drop (at + 1) es)) ++ rows_of after)) (sym (take-map (λ (x : Entry). x.row) at es))
    ∙ ap (λ (xs : List ℕ). rows_of before ++ xs) (append_assoc (take at (rows_of es)) (rows_of (drop (at + 1) es)) (rows_of after))
    ∙ sym (append_assoc (rows_of before) (take at (rows_of es)) (rows_of (drop (at + 1) es) ++ rows_of after))

pub cut_taken : (blocks : List (List Entry)) (k at : ℕ) (e : Entry) → Some e ≡ slice_get (entries_at blocks k) at
    → rows_of (entries_of blocks) ≡ front blocks k at ++ e.row ∷ (rows_of (drop (at + 1) (entries_at blocks k)) ++ rows_of (entries_of (drop (k + 1) blocks)))
cut_taken blocks k at e some = cut_at blocks k at ∙ ap (λ (xs : List ℕ). front blocks k at ++ (xs ++ rows_of (entries_of (drop (k + 1) blocks)))) (got (entries_at blocks k) at e some)

pub inside_of : (blocks : List (List Entry)) (k at : ℕ) (e : Entry) → Some e ≡ slice_get (entries_at blocks k) at → (k < length blocks) × (at < length (entries_at blocks k))
inside_of blocks k at e some = (outer blocks k some, inner (entries_at blocks k) at some)
  where
    inner : (es : List Entry) (at : ℕ) → Some e ≡ slice_get es at → at < length es
    inner [] at h = absurd (let c : ⊥ = cc in c)
    inner (x ∷ es) zero h = omega arith
    inner (x ∷ es) (suc at) h = let more = inner es at h in omega (arith, more)

    outer : (bs : List (List Entry)) (k : ℕ) → Some e ≡ slice_get (entries_at bs k) at → k < length bs
    outer [] k h = absurd (let i = inner [] at h in omega (arith, i))
    outer (b ∷ bs) zero h = omega arith
    outer (b ∷ bs) (suc k) h = let more = outer bs k h in omega (arith, more)
