-- A table is one of the keys of the rows that it had.
use Rattle.std.proofs.Common.{ℕ, ◌≤◌, ◌≡◌, inl, inr, List, ◌∷◌, Result, Ok, Err, sym, ap, subst, ◌∙◌, arith}
use Rattle.std.specs.Prelude.{Contains, MatchResult}
use Rattle.std.proofs.lemmas.List.Elements.{All-contains}
use Rattle.std.proofs.lemmas.Bool.{cases_eq}
use Rattle.common_lemmas.specs.Lists.{times}
use Rattle.common_lemmas.proofs.Counts.{times_there, times_cons_le}
use Rattle.rows.specs.Key.{Key}
use Rattle.key_table.specs.declared.entries.RowAt.{RowAt}
use Rattle.key_table.specs.Hash.{tag_of}
use Rattle.key_table.specs.Table.{Table, AreSame, IsTagged, IsTagOf}
use Rattle.key_table.specs.Lazy.{Lazy, rows_in, Has, IsKeyed, IsLazyOf}

pub readable_more : (P : ℕ → Type 0) (row : ℕ) (before after : List ℕ) → AreSame (row ∷ before) after → P row → ((n : ℕ) → 1 ≤ times n before → P n) → (n : ℕ) → 1 ≤ times n after → P n
readable_more P row before after same here is n h =
    elim (cases_eq row n) [
      | inl e ↦ subst P e here
      | inr far ↦ is n (let s = same n in let t = times_there n row before far in omega (arith, s, t, h))
    ]

pub readable_less : (P : ℕ → Type 0) (row : ℕ) (before after : List ℕ) → AreSame before (row ∷ after) → ((n : ℕ) → 1 ≤ times n before → P n) → (n : ℕ) → 1 ≤ times n after → P n
readable_less P row before after same is n h = is n (let s = same n in let t = times_cons_le n row after in omega (arith, s, t, h))

pub readable_told : {A : Type 0} {B : Type 0} (P : ℕ → Type 0) (row : ℕ) (before after : List ℕ) (result : Result A B) → MatchResult result (λ _. AreSame (row ∷ before) after) (λ _. AreSame before after)
    → P row → ((n : ℕ) → 1 ≤ times n before → P n) → (n : ℕ) → 1 ≤ times n after → P n
readable_told {A} {B} P row before after (Ok x) same here is n h = readable_more P row before after same here is n h
readable_told {A} {B} P row before after (Err x) same here is n h = is n (let s = same n in omega (arith, s, h))

-- the tag of a row's key is the one that the table has beside it
pub tag_there : (key_of : ℕ → Key) (table : Table) (found : RowAt) → IsTagged key_of table → Contains table.kept found → IsTagOf table found
tag_there key_of table found tagged there =
    let is = All-contains (λ (s : RowAt). s.tag ≡ tag_of (key_of s.row)) table.kept found tagged there in
    λ k d inside e. tagged k d inside ∙ (ap (λ n. tag_of (key_of n)) e ∙ sym is)

-- an index stays one of its keys with a row less
pub lazy_less : (has_row : ℕ → Type 0) (key_of : ℕ → Key) (row : ℕ) (before after : Lazy) → AreSame (rows_in before) (row ∷ rows_in after) → IsLazyOf has_row key_of before → IsKeyed key_of after → IsLazyOf has_row key_of after
lazy_less has_row key_of row before after same is keyed =
    let was : (n : ℕ) → Has after n → Has before n = λ n h. (let s = same n in let t = times_cons_le n row (rows_in after) in omega (arith, s, t, h)) in
    record { readable = λ n h. is.readable n (was n h); apart = λ m n h k e. is.apart m n (was m h) (was n k) e; keyed = keyed }
