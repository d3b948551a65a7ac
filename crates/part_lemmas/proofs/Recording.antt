-- A journal that is told of rows, one after another.
use Rattle.std.proofs.Common.{ℕ, List, [], ◌∷◌, ◌++◌, map, sym, ap, ◌∙◌, append_assoc, append-nil, length-append, arith}
use Rattle.cache_model.specs.declared.entry.Entry.{Entry}
use Rattle.cache_model.specs.declared.entry.Entry.TheVariants.{Evicted}
use Rattle.run_log.specs.JournalState.{JournalState}
use Rattle.rows.specs.Told.{AreTold}
use Rattle.run_log.specs.Recorded.{Records, RecordsEviction}

-- entries that were written in two goes
records-both : (old now new : JournalState) (first second : List Entry) → Records old now first → Records now new second → Records old new (first ++ second)
records-both old now new first second a b = record {
  entries = b.entries ∙ ap (λ xs. xs ++ second) a.entries ∙ append_assoc old.entries first second;
  spare = let f = a.spare in let s = b.spare in omega (arith, f, s, length-append first second);
}

pub told-recorded : (old new : JournalState) (tags : List ℕ) → AreTold RecordsEviction old tags new → Records old new (map (λ tag. Evicted tag) tags)
told-recorded old new [] same = record { entries = ap (λ (j : JournalState). j.entries) same ∙ sym (append-nil old.entries); spare = let s = ap (λ (j : JournalState). j.spare) same in omega (arith, s) }
told-recorded old new (tag ∷ tags) h = records-both old h.0 new (Evicted tag ∷ []) (map (λ t. Evicted t) tags) h.1 (told-recorded h.0 new tags h.2)
