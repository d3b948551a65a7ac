-- What a test notes of the spans that it takes and gives back.
use Rattle.std.proofs.Common.{◌≡◌, ℕ, ◌<◌, List, length, inl, inr, Option, Some, None, sym, ap, ◌∙◌}
use Rattle.std.proofs.lemmas.Bool.{cases_eq}
use Rattle.std.proofs.lemmas.Grind.{get_or-set_at}
use Rattle.std.proofs.lemmas.List.{get_or-set_other}
use Rattle.std.specs.Prelude.{slice_set}
use Rattle.std.specs.FinMap as map
use Rattle.common_lemmas.proofs.Maps.{get_inserted, get_past_insert, get_past_remove}
use Rattle.common_lemmas.proofs.Options.{some_or_none}
use Rattle.span_lists.specs.Layout.{Layout}
use Rattle.memory_tests.specs.Taken.{AreTaken}

pub noted : (old new : Layout) (taken : List (Option ℕ)) (first order : ℕ) → first < length taken → new.allocated ≡ map.insert old.allocated first order
    → AreTaken old taken → AreTaken new (slice_set taken first (Some order))
noted old new taken first order within is are q k read = elim (cases_eq q first) [
  | inl e ↦ ap (λ m. map.get m q) is ∙ get_inserted old.allocated first order q e ∙ sym (get_or-set_at taken first q (Some order) None e within) ∙ read
  | inr d ↦ ap (λ m. map.get m q) is ∙ get_past_insert old.allocated first order q d ∙ are q k (sym (get_or-set_other taken first q (Some order) None d) ∙ read)
]

pub past_the_table : (old new : Layout) (taken : List (Option ℕ)) (first order : ℕ) → map.get old.allocated first ≡ None → new.allocated ≡ map.insert old.allocated first order
    → AreTaken old taken → AreTaken new taken
past_the_table old new taken first order free is are q k read = elim (cases_eq q first) [
  | inl e ↦ some_or_none (are q k read) (ap (map.get old.allocated) e ∙ free)
  | inr d ↦ ap (λ m. map.get m q) is ∙ get_past_insert old.allocated first order q d ∙ are q k read
]

pub crossed_out : (old new : Layout) (taken : List (Option ℕ)) (first : ℕ) → first < length taken → new.allocated ≡ map.remove old.allocated first
    → AreTaken old taken → AreTaken new (slice_set taken first None)
crossed_out old new taken first within is are q k read = elim (cases_eq q first) [
  | inl e ↦ some_or_none read (get_or-set_at taken first q None None e within)
  | inr d ↦ ap (λ m. map.get m q) is ∙ get_past_remove old.allocated first q d ∙ are q k (sym (get_or-set_other taken first q None None d) ∙ read)
]
