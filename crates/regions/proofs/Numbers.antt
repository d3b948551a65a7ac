-- The numbers of the segments that are held, and of those that are free, as sets.
use Rattle.std.proofs.Common.{◌≡◌, ℕ, ◌+◌, Bool, cond, List, [], ◌∷◌, map, refl, sym, ap, ◌∙◌}
use Rattle.std.specs.Prelude.{Option, None, slice_set}
use Rattle.std.specs.List.{count_by}
use Rattle.std.proofs.lemmas.List.{map-set}
use Rattle.std.proofs.lemmas.List.Sums.{sum_by-cons}
use Rattle.std.proofs.Math.ListN.{get_or-map}
use Rattle.number_set.specs.Numbers.{has, size}
use Rattle.regions.specs.Shapes.{Slot, slot_at, is_held, is_free}

module _ (p : Option Slot → Bool) where
  pub size-map : (slots : List (Option Slot)) → size (map p slots) ≡ count_by p slots
  size-map [] = refl
  size-map (s ∷ ss) = sum_by-cons (λ (b : Bool). cond b 1 0) (p s) (map p ss) ∙ ap (λ n. cond (p s) 1 0 + n) (size-map ss) ∙ sym (sum_by-cons (λ x. cond (p x) 1 0) s ss)

  -- a set that follows the segments, when one of them is another
  pub follows : (xs : List Bool) (slots : List (Option Slot)) (n : ℕ) (s : Option Slot) → xs ≡ map p slots → slice_set xs n (p s) ≡ map p (slice_set slots n s)
  follows xs slots n s e = ap (λ l. slice_set l n (p s)) e ∙ sym (map-set p slots n s)

pub has-held : (slots : List (Option Slot)) (n : ℕ) → has (map is_held slots) n ≡ is_held (slot_at slots n)
has-held slots n = get_or-map is_held slots n None

pub has-free : (slots : List (Option Slot)) (n : ℕ) → has (map is_free slots) n ≡ is_free (slot_at slots n)
has-free slots n = get_or-map is_free slots n None
