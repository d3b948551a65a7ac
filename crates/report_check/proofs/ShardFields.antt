-- The fields of the line of a journal: `journal`, the shard, and those of its entries.
use Rattle.std.proofs.Common.{◌≡◌, ℕ, ◌&&◌, Bool, true, false, cond, List, ◌∷◌, Option, Some, None, IfNone, ap, codes, ◌∙◌}
use Rattle.std.specs.Fmt.{decimal}
use Rattle.std.specs.Str.{bytes_eq}
use Rattle.report_check.specs.Spelled.{entries_of, from_fields, journal_in}
use Rattle.report_check.specs.inside.Spells.{fields_of}

-- whether these are the first two
abbrev pub names : ℕ → List ℕ → List ℕ → Bool
names s word shard = bytes_eq word (codes "journal") && bytes_eq (decimal s) shard

module _ (s : ℕ) (text word shard : List ℕ) (behind later : Option (List ℕ)) (first : fields_of (Some text) ≡ word ∷ fields_of behind) (second : fields_of behind ≡ shard ∷ fields_of later) where
  cut : (count : ℕ) → journal_in count s text ≡ cond (names s word shard) (entries_of count (fields_of later)) None
  cut count = ap (from_fields count s) first ∙ ap (λ (fs : List (List ℕ)). from_fields count s (word ∷ fs)) second

  pub named : names s word shard ≡ true → (count : ℕ) → journal_in count s text ≡ entries_of count (fields_of later)
  named is count = cut count ∙ ap (λ (b : Bool). cond b (entries_of count (fields_of later)) None) is

  pub misnamed : names s word shard ≡ false → (count : ℕ) → journal_in count s text ≡ None
  misnamed is count = cut count ∙ ap (λ (b : Bool). cond b (entries_of count (fields_of later)) None) is

-- a text of one field is none
pub one-field : (s : ℕ) (text word : List ℕ) (behind : Option (List ℕ)) → fields_of (Some text) ≡ word ∷ fields_of behind → behind ≡ None → (count : ℕ) → journal_in count s text ≡ None
one-field s text word behind first none count =
    ap (from_fields count s) first ∙ ap (λ (o : Option (List ℕ)). from_fields count s (word ∷ fields_of o)) none

-- a fact that holds anyway
pub if-none : {X : Type 0} {P : Type 0} (o : Option X) → P → IfNone o P
if-none None p = p
if-none (Some x) p = tt
