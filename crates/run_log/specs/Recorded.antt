-- What a journal wrote down.
use Rattle.std.specs.Prelude.{◌≡◌, ℕ, ◌+◌, List, [], ◌∷◌, ◌++◌, length}
use Rattle.cache_model.specs.declared.entry.Entry.{Entry}
use Rattle.cache_model.specs.declared.entry.Entry.TheVariants.{Evicted}
use Rattle.run_log.specs.JournalState.{JournalState}

-- the journal has these entries more, at its end
pub record Records (old new : JournalState) (added : List Entry) : Type 0 where
  pub entries : new.entries ≡ old.entries ++ added
  pub spare : new.spare + length added ≡ old.spare

-- the entry of one row that went
abbrev pub RecordsEviction : JournalState → ℕ → JournalState → Type 0
RecordsEviction old tag new = Records old new (Evicted tag ∷ [])
