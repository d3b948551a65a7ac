-- An entry that is taken out.
use Rattle.std.proofs.Common.{◌≡◌, ℕ, ◌+◌, List, ◌++◌, length, take, drop, slice_get, Some, ap, ◌∙◌}
use Rattle.std.specs.List.{remove}
use Rattle.key_index.specs.declared.entries.Entry.{Entry}
use Rattle.key_index.specs.Lead.{rows_of}
use Rattle.key_index.specs.inside.Blocks.{entries_of, entries_at, front}
use Rattle.key_index.proofs.Changed.{rows_taken, cut_taken}
use Rattle.key_index.proofs.Places as places

-- the rows behind the one at a place
abbrev pub rest : List (List Entry) → ℕ → ℕ → List ℕ
rest blocks k at = rows_of (drop (at + 1) (entries_at blocks k)) ++ rows_of (entries_of (drop (k + 1) blocks))

pub one_more : (fewer blocks : List (List Entry)) (k at : ℕ) (e : Entry) → Some e ≡ slice_get (entries_at blocks k) at
    → entries_of fewer ≡ entries_of (take k blocks) ++ (remove (entries_at blocks k) at ++ entries_of (drop (k + 1) blocks)) → length (entries_of blocks) ≡ length (entries_of fewer) + 1
one_more fewer blocks k at e some is =
    places.one_more (entries_of fewer) (entries_of blocks) (front blocks k at) (rest blocks k at) e.row (ap rows_of is ∙ rows_taken blocks k at) (cut_taken blocks k at e some)
