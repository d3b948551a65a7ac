-- Journals that are read one after another.
use Rattle.std.proofs.Common.{◌≡◌, ℕ, suc, ◌+◌, ◌-◌, ◌<◌, List, [], ◌∷◌, ◌++◌, drop, slice_get, Option, Some, None, Result, Ok, Err, arith, refl, ap, ◌∙◌}
use Rattle.std.specs.List.{range_with_len}
use Rattle.cache_model.specs.declared.entry.Entry.{Entry}
use Rattle.report_check.specs.Lines.{Line}
use Rattle.report_check.specs.Spelled.{journal_of, journals_of, with_journal, with_journals}

-- behind these journals, what later lines spell
abbrev pub behind : List (List Entry) → Result (List (List Entry)) ℕ → Result (List (List Entry)) ℕ
behind [] later = later
behind (journal ∷ journals) later = with_journals journal (behind journals later)

pub behind-more : (journals : List (List Entry)) (journal : List Entry) (later : Result (List (List Entry)) ℕ)
    → behind journals (with_journals journal later) ≡ behind (journals ++ journal ∷ []) later
behind-more [] journal later = refl
behind-more (first ∷ journals) journal later = ap (with_journals first) (behind-more journals journal later)

pub behind-err : (journals : List (List Entry)) (line : ℕ) → behind journals (Err line) ≡ Err line
behind-err [] line = refl
behind-err (journal ∷ journals) line = ap (with_journals journal) (behind-err journals line)

pub behind-all : (journals : List (List Entry)) → behind journals (Ok []) ≡ Ok journals
behind-all [] = refl
behind-all (journal ∷ journals) = ap (with_journals journal) (behind-all journals)

-- the next shard's line spells its journal
pub next-read : (count a n : ℕ) (lines : List Line) (before : List (List Entry)) (journal : List Entry) → journal_of count a (slice_get lines 0) ≡ Some journal
    → behind before (journals_of count (range_with_len a (suc n)) lines) ≡ behind (before ++ journal ∷ []) (journals_of count (range_with_len (a + 1) n) (drop 1 lines))
next-read count a n lines before journal is =
    ap (λ (o : Option (List Entry)). behind before (with_journal (count + a + 1) o (journals_of count (range_with_len (a + 1) n) (drop 1 lines)))) is
    ∙ behind-more before journal (journals_of count (range_with_len (a + 1) n) (drop 1 lines))

-- or none
pub next-other : (count a n : ℕ) (lines : List Line) (before : List (List Entry)) → journal_of count a (slice_get lines 0) ≡ None
    → behind before (journals_of count (range_with_len a (suc n)) lines) ≡ Err (count + a + 1)
next-other count a n lines before is =
    ap (λ (o : Option (List Entry)). behind before (with_journal (count + a + 1) o (journals_of count (range_with_len (a + 1) n) (drop 1 lines)))) is
    ∙ behind-err before (count + a + 1)

-- Lines that were read as far as that of a shard, of so many.
module _ (count n a : ℕ) (all lines : List Line) (before : List (List Entry)) (below : a < n)
    (so-far : journals_of count (range_with_len 0 n) all ≡ behind before (journals_of count (range_with_len a (n - a)) lines)) where
  later : n - a ≡ suc (n - (a + 1))
  later = omega (arith, below)

  here : journals_of count (range_with_len 0 n) all ≡ behind before (journals_of count (range_with_len a (suc (n - (a + 1)))) lines)
  here = so-far ∙ ap (λ (m : ℕ). behind before (journals_of count (range_with_len a m) lines)) later

  pub shard-read : (journal : List Entry) → journal_of count a (slice_get lines 0) ≡ Some journal
      → journals_of count (range_with_len 0 n) all ≡ behind (before ++ journal ∷ []) (journals_of count (range_with_len (a + 1) (n - (a + 1))) (drop 1 lines))
  shard-read journal is = here ∙ next-read count a (n - (a + 1)) lines before journal is

  pub shard-other : journal_of count a (slice_get lines 0) ≡ None → journals_of count (range_with_len 0 n) all ≡ Err (count + a + 1)
  shard-other is = here ∙ next-other count a (n - (a + 1)) lines before is

pub all-read : (count n a : ℕ) (all lines : List Line) (before : List (List Entry)) → a ≡ n
    → journals_of count (range_with_len 0 n) all ≡ behind before (journals_of count (range_with_len a (n - a)) lines) → journals_of count (range_with_len 0 n) all ≡ Ok before
all-read count n a all lines before end so-far =
    let none : n - a ≡ 0 = omega (arith, end) in
    so-far ∙ ap (λ (m : ℕ). behind before (journals_of count (range_with_len a m) lines)) none ∙ behind-all before
