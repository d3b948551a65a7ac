-- The rows from a place on.
use Rattle.std.proofs.Common.{◌≡◌, ℕ, zero, suc, ◌+◌, ◌<◌, ◌≤◌, List, [], ◌∷◌, ◌++◌, length, drop, slice_get, Some, None, refl, sym, ap, ◌∙◌, arith, add-one, inl, inr}
use Rattle.std.specs.Prelude.{All}
use Rattle.std.proofs.lemmas.List.{drop-map, drop_all}
use Rattle.std.proofs.lemmas.Bool.{cases_lt}
use Rattle.rows.specs.Key.{Key}
use Rattle.key_index.specs.declared.entries.Entry.{Entry}
use Rattle.key_index.specs.Lead.{rows_of}
use Rattle.key_index.specs.inside.Blocks.{entries_of, entries_at, back, IsBlock}
use Rattle.key_index.proofs.InBlocks.{rows_append, some_at}
use Rattle.key_index.proofs.Found.{got, got_none, at_past}
use Rattle.std.proofs.Common.{Bool, cond, filter}
use Rattle.std.specs.Ordering.{is_le}
use Rattle.std.proofs.lemmas.List.Elements.{filter-append}
use Rattle.key_index.specs.Order.{key_cmp, AreBelow}
use Rattle.key_index.specs.inside.Blocks.{AreAtLeast}
use Rattle.key_index.specs.inside.Blocks.{front, IsPlaceOf}
use Rattle.key_index.proofs.KeyOrder.{greater, least_le}
use Rattle.key_index.proofs.Found.{cut_at, front_below, back_least}
use Rattle.key_index.proofs.Edits.{all_full, short_at}

pub back_here : (blocks : List (List Entry)) (k at : ℕ) (e : Entry) → Some e ≡ slice_get (entries_at blocks k) at → back blocks k at ≡ e.row ∷ back blocks k (at + 1)
back_here blocks k at e some =
    let after = rows_of (entries_of (drop (k + 1) blocks)) in
    ap (λ (xs : List ℕ). xs ++ after) (got (entries_at blocks k) at e some)
    ∙ ap (λ (xs : List ℕ). e.row ∷ (xs ++ after)) (sym (drop-map (λ (x : Entry). x.row) (at + 1) (entries_at blocks k)))

from_block : (blocks : List (List Entry)) (k : ℕ) → rows_of (entries_of (drop k blocks)) ≡ back blocks k 0
from_block blocks k = go blocks k ∙ ap (λ (n : ℕ). drop 0 (rows_of (entries_at blocks k)) ++ rows_of (entries_of (drop n blocks))) (sym (add-one k))
  where
    go : (blocks : List (List Entry)) (k : ℕ) → rows_of (entries_of (drop k blocks)) ≡ drop 0 (rows_of (entries_at blocks k)) ++ rows_of (entries_of (drop (suc k) blocks))
    go [] zero = refl
    go [] (suc k) = refl
    go (b ∷ blocks) zero = rows_append b (entries_of blocks)
    go (b ∷ blocks) (suc k) = go blocks k

pub back_none : (blocks : List (List Entry)) (k at : ℕ) → None ≡ slice_get (entries_at blocks k) at → back blocks k at ≡ back blocks (k + 1) 0
back_none blocks k at none =
    ap (λ (xs : List ℕ). xs ++ rows_of (entries_of (drop (k + 1) blocks))) (got_none (entries_at blocks k) at none) ∙ from_block blocks (k + 1)

pub back_past : (blocks : List (List Entry)) (k at : ℕ) → length blocks ≤ k → back blocks k at ≡ []
back_past blocks k at h =
    ap (λ (es : List Entry). drop at (rows_of es) ++ rows_of (entries_of (drop (k + 1) blocks))) (at_past blocks k h)
    ∙ ap (λ (xs : List ℕ). xs ++ rows_of (entries_of (drop (k + 1) blocks))) (none at)
    ∙ ap (λ (bs : List (List Entry)). rows_of (entries_of bs)) (drop_all (k + 1) blocks (omega arith))
  where
    none : (n : ℕ) → drop {A = ℕ} n [] ≡ []
    none zero = refl
    none (suc n) = refl

pub back_end : (blocks : List (List Entry)) (k : ℕ) → All IsBlock blocks → None ≡ slice_get (entries_at blocks k) 0 → back blocks k 0 ≡ []
back_end blocks k all none =
    elim (cases_lt k (length blocks)) [
      | inl l ↦ absurd (go (entries_at blocks k) none (some_at blocks k (all_full blocks all) l))
      | inr g ↦ back_past blocks k 0 g
    ]
  where
    go : (es : List Entry) → None ≡ slice_get es 0 → 0 < length es → ⊥
    go [] e h = absurd (omega arith)
    go (x ∷ es) e h = cc

pub got_within : (blocks : List (List Entry)) (k at : ℕ) (e : Entry) → All IsBlock blocks → Some e ≡ slice_get (entries_at blocks k) at → at < 256
got_within blocks k at e all some = let short = short_at blocks k all in let within = go (entries_at blocks k) at some in omega (arith, short, within)
  where
    go : (es : List Entry) (at : ℕ) → Some e ≡ slice_get es at → at < length es
    go [] at h = absurd (let c : ⊥ = cc in c)
    go (x ∷ es) zero h = omega arith
    go (x ∷ es) (suc at) h = let more = go es at h in omega (arith, more)

-- the rows from a key's place on are those that are not below it
pub kept_from : (key_of : ℕ → Key) (key : Key) (blocks : List (List Entry)) (k at : ℕ) → IsPlaceOf key_of key blocks k at
    → back blocks k at ≡ filter (λ r. is_le (key_cmp key (key_of r))) (rows_of (entries_of blocks))
kept_from key_of key blocks k at place =
    let p : ℕ → Bool = λ r. is_le (key_cmp key (key_of r)) in
    sym (ap (filter p) (cut_at blocks k at) ∙ filter-append p (front blocks k at) (back blocks k at)
    ∙ ap (λ (xs : List ℕ). xs ++ filter p (back blocks k at)) (none (front blocks k at) (front_below key_of key blocks k at place))
    ∙ all (back blocks k at) (back_least key_of key blocks k at place))
  where
    none : (xs : List ℕ) → AreBelow key_of key xs → filter (λ r. is_le (key_cmp key (key_of r))) xs ≡ []
    none [] h = refl
    none (x ∷ xs) h = ap (λ (b : Bool). cond b (x ∷ filter (λ r. is_le (key_cmp key (key_of r))) xs) (filter (λ r. is_le (key_cmp key (key_of r))) xs)) (ap is_le (greater key (key_of x) h.0)) ∙ none xs h.1

    all : (xs : List ℕ) → AreAtLeast key_of key xs → filter (λ r. is_le (key_cmp key (key_of r))) xs ≡ xs
    all [] h = refl
    all (x ∷ xs) h = ap (λ (b : Bool). cond b (x ∷ filter (λ r. is_le (key_cmp key (key_of r))) xs) (filter (λ r. is_le (key_cmp key (key_of r))) xs)) (least_le (key_of x) key h.0) ∙ ap (λ (ys : List ℕ). x ∷ ys) (all xs h.1)
