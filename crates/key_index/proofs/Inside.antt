-- A place inside a block.
use Rattle.std.proofs.Common.{◌≡◌, ℕ, zero, suc, ◌+◌, ◌<◌, List, [], ◌∷◌, ◌++◌, length, take, drop, length-drop, get_or, subst, arith, Less}
use Rattle.std.specs.Prelude.{All}
use Rattle.std.proofs.lemmas.List.{length-map}
use Rattle.rows.specs.Key.{Key}
use Rattle.key_index.specs.declared.entries.Entry.{Entry}
use Rattle.key_index.specs.Order.{key_cmp, Each, AreAbove, AreBelow, AreRising}
use Rattle.key_index.specs.Lead.{rows_of}
use Rattle.key_index.specs.inside.Blocks.{entries_of, entries_at, front, back, AreAtLeast, IsPlaceOf}
use Rattle.key_index.proofs.KeyOrder.{less_less}
use Rattle.key_index.proofs.RowOrder.{each_right, rising_right}
use Rattle.key_index.proofs.InBlocks.{below_first}
use Rattle.key_index.proofs.Found.{above_first, cut_at}

first_passed : (P : ℕ → Type 0) (es : List Entry) (at : ℕ) (d : Entry) → 0 < at → at < length es → Each P (take at (rows_of es)) → P (get_or es 0 d).row
first_passed P es zero d some within below = absurd (omega arith)
first_passed P [] (suc at) d some within below = absurd (omega arith)
first_passed P (e ∷ es) (suc at) d some within below = below.0

above_rest : (key_of : ℕ → Key) (key : Key) (rows rest : List ℕ) → 0 < length rows → AreRising key_of (rows ++ rest) → AreAtLeast key_of key rows → AreAbove key_of key rest
above_rest key_of key [] rest some rising least = absurd (omega arith)
above_rest key_of key (row ∷ rows) rest some rising least = each_right (λ r. key_cmp key (key_of r) ≡ Less) rows rest (above_first key_of key row (rows ++ rest) rising least.0)

-- between two entries of a block a key stands among all rows
pub place_inside : (key_of : ℕ → Key) (key : Key) (blocks : List (List Entry)) (k at : ℕ) (d : Entry) → AreRising key_of (rows_of (entries_of blocks))
    → All (λ b. 0 < length b) blocks → k < length blocks → 0 < at → at < length (entries_at blocks k)
    → AreBelow key_of key (take at (rows_of (entries_at blocks k))) → AreAtLeast key_of key (drop at (rows_of (entries_at blocks k))) → IsPlaceOf key_of key blocks k at
place_inside key_of key blocks k at d rising full h some within below least =
    let es = entries_at blocks k in
    let first : ℕ = (get_or es 0 d).row in
    let less : key_cmp (key_of first) key ≡ Less = first_passed (λ r. key_cmp (key_of r) key ≡ Less) es at d some within below in
    record {
      before = below_first key_of key blocks k d rising full h (λ low e. less_less low (key_of first) key e less);
      below = below;
      at_least = least;
      after = above_rest key_of key (drop at (rows_of es)) (rows_of (entries_of (drop (k + 1) blocks))) (omega (arith, length-drop at (rows_of es), length-map es (λ (e : Entry). e.row), within))
          (rising_right key_of (front blocks k at) (back blocks k at) (subst (AreRising key_of) (cut_at blocks k at) rising)) least;
    }
