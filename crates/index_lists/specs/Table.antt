-- A table of which the entries are written as far as they were ever set.
use Rattle.std.specs.Prelude.{ℕ, List, slice_set, max}

-- the entries, and how many of them are written, from the first one on
pub record Table (A : Type 0) : Type 0 where
  pub entries : List A
  pub written : ℕ

-- another value for an entry
abbrev pub with_entry : {A : Type 0} → Table A → ℕ → A → Table A
with_entry t at value = record { entries = slice_set t.entries at value; written = t.written }

-- all entries below a number are written
abbrev pub reaching : {A : Type 0} → Table A → ℕ → Table A
reaching t end = record { entries = t.entries; written = max t.written end }
