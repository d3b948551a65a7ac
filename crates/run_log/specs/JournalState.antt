-- What contracts see of a journal.
use Rattle.std.specs.Prelude.{ℕ, List}
use Rattle.cache_model.specs.declared.entry.Entry.{Entry}

pub record JournalState : Type 0 where
  pub entries : List Entry
  -- how many entries may be added still
  pub spare : ℕ
