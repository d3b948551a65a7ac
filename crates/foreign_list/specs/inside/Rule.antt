-- The rule of the table: the fact of places, the fact of changes, and the events that led there.
use Rattle.std.specs.Prelude.{ℕ, List}
use Rattle.foreign_list.specs.declared.views.Ledger.{Ledger}
use Rattle.foreign_list.specs.inside.Words.{Table, word_at}
use Rattle.foreign_list.specs.inside.Places.{Places}
use Rattle.foreign_list.specs.inside.Changes.{Changes}
use Rattle.foreign_list.specs.inside.History.{History}

pub record IsConsistent (s : Table) : Type 0 where
  pub ledger : Ledger
  pub listed : List ℕ
  pub places : Places ledger listed s.words s.homes s.views
  pub changes : Changes (word_at s.words 0) s.views
  pub history : History ledger listed s.views
