-- Entries that are read one after another.
use Rattle.std.proofs.Common.{Bor, ◌≡◌, ℕ, ◌<◌, ◌≤◌, List, [], ◌∷◌, ◌++◌, length, ap, refl, ◌∙◌, Option, Some, None, IfSome, option_map, arith}
use Rattle.cache_model.specs.declared.entry.Entry.{Entry}
use Rattle.report_check.specs.Spelled.{entries_of, entry_of, with_first, with_later}
use Rattle.report_check.specs.inside.Spells.{room_of}

-- the bytes that are shown, if any are
abbrev pub shown : Option (Bor (List ℕ)) → Option (List ℕ)
shown o = option_map (λ text. text.now) o

-- behind these entries, what later fields spell
abbrev pub behind : List Entry → Option (List Entry) → Option (List Entry)
behind [] later = later
behind (entry ∷ entries) later = with_later entry (behind entries later)

pub behind-more : (entries : List Entry) (entry : Entry) (later : Option (List Entry)) → behind entries (with_first (Some entry) later) ≡ behind (entries ++ entry ∷ []) later
behind-more [] entry later = refl
behind-more (first ∷ entries) entry later = ap (with_later first) (behind-more entries entry later)

pub behind-none : (entries : List Entry) → behind entries None ≡ None
behind-none [] = refl
behind-none (entry ∷ entries) = ap (with_later entry) (behind-none entries)

pub behind-all : (entries : List Entry) → behind entries (Some []) ≡ Some entries
behind-all [] = refl
behind-all (entry ∷ entries) = ap (with_later entry) (behind-all entries)

-- Fields that were read as far as some of them: the next one spells an entry, or none, or there is none.
module _ (count : ℕ) (all fields : List (List ℕ)) (entries : List Entry) (so-far : entries_of count all ≡ behind entries (entries_of count fields)) where
  pub next-entry : (field : List ℕ) (later : List (List ℕ)) (entry : Entry) → fields ≡ field ∷ later → entry_of count field ≡ Some entry
      → entries_of count all ≡ behind (entries ++ entry ∷ []) (entries_of count later)
  next-entry field later entry cut is =
      so-far ∙ ap (λ (fs : List (List ℕ)). behind entries (entries_of count fs)) cut
      ∙ ap (λ (o : Option Entry). behind entries (with_first o (entries_of count later))) is ∙ behind-more entries entry (entries_of count later)

  pub no-entry : (field : List ℕ) (later : List (List ℕ)) → fields ≡ field ∷ later → entry_of count field ≡ None → entries_of count all ≡ None
  no-entry field later cut is =
      so-far ∙ ap (λ (fs : List (List ℕ)). behind entries (entries_of count fs)) cut
      ∙ ap (λ (o : Option Entry). behind entries (with_first o (entries_of count later))) is ∙ behind-none entries

  pub all-entries : fields ≡ [] → entries_of count all ≡ Some entries
  all-entries none = so-far ∙ ap (λ (fs : List (List ℕ)). behind entries (entries_of count fs)) none ∙ behind-all entries

-- behind a field there is less room
pub room-less : (behind : Option (Bor (List ℕ))) (n : ℕ) → IfSome behind (λ text. length text.now < n) → room_of (shown behind) ≤ n
room-less None n less = omega arith
room-less (Some text) n less = omega (arith, less)
