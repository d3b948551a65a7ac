-- The test whether a journal is legal and complete.
use Rattle.std.proofs.Common.{◌≡◌, ℕ, zero, suc, ◌+◌, ◌<◌, ◌≤◌, ◌==◌, ◌&&◌, Bool, true, false, List, Some, None, arith, refl, sym, ap, ◌∙◌}
use Rattle.std.specs.Prelude.{is_some}
use Rattle.std.specs.List.{list_all, range_with_len}
use Rattle.std.proofs.lemmas.Bool.{and_parts, eqb-true, false_from_ne_true}
use Rattle.std.proofs.lemmas.Bool.Decides.{nat_tests}
use Rattle.std.proofs.lemmas.Slice.Eq.{bytes_eq-Decides}
use Rattle.rows.specs.Row.{Row}
use Rattle.trace_text.specs.Parts.{parts}
use Rattle.trace_text.specs.Trace.{Trace}
use Rattle.cache_model.specs.declared.entry.Entry.{Entry}
use Rattle.cache_model.specs.Legal.{IsComplete, cache_after}
use Rattle.part_lemmas.specs.Exchange.{done_for}
use Rattle.report_check.specs.Verdict.{has_parts, is_complete, is_sound}

and-false : (b : Bool) → (b && false) ≡ false
and-false true = refl
and-false false = refl

-- a test of each number of a range
all-in : (p : ℕ → Bool) (a k : ℕ) → ((q : ℕ) → a ≤ q → q < a + k → p q ≡ true) → list_all p (range_with_len a k) ≡ true
all-in p a zero each = refl
all-in p a (suc k) each =
    let here : p a ≡ true = each a (omega arith) (omega arith) in
    rw here (all-in p (a + 1) k (λ q low high. each q (omega (arith, low)) (omega (arith, high))))

pub each-in : (p : ℕ → Bool) (a k q : ℕ) → list_all p (range_with_len a k) ≡ true → a ≤ q → q < a + k → p q ≡ true
each-in p a zero q all low high = absurd (omega (arith, low, high))
each-in p a (suc k) q all low high = go (a == q) refl (λ above less. each-in p (a + 1) k q both.1 above less)
  where
    both : (p a ≡ true) × (list_all p (range_with_len (a + 1) k) ≡ true)
    both = and_parts (p a) (list_all p (range_with_len (a + 1) k)) all

    go : (b : Bool) → (a == q) ≡ b → (a + 1 ≤ q → q < a + 1 + k → p q ≡ true) → p q ≡ true
    go true is later = let same : a ≡ q = eqb-true a q is in ap p (sym same) ∙ both.0
    go false is later = let above : a + 1 ≤ q = grind (arith, nat_tests) in later above (omega (arith, high))

fails-in : (p : ℕ → Bool) (a k q : ℕ) → a ≤ q → q < a + k → p q ≡ false → list_all p (range_with_len a k) ≡ false
fails-in p a k q low high fails =
    false_from_ne_true _ (λ all. let passes = each-in p a k q all low high in let clash : true ≡ false = sym passes ∙ fails in cc)

module _ (trace : Trace) (n pages s : ℕ) (journal : List Entry) where
  -- where it leads somewhere, and has the parts of each origin
  pub sound : (rows : List Row) → cache_after trace pages journal ≡ Some rows → IsComplete trace n s journal → is_sound trace n pages (s, journal) ≡ true
  sound rows leads complete =
      let all : is_complete trace n s journal ≡ true = all-in (has_parts trace n s journal) 0 n
      (λ o low below. (bytes_eq-Decides (done_for n o journal) (parts trace n o s)).1 (complete o (omega (arith, below)))) in
      rw (leads, all) refl

  pub unsound-leads : cache_after trace pages journal ≡ None → is_sound trace n pages (s, journal) ≡ false
  unsound-leads nowhere = rw nowhere refl

  -- where it has not the parts of one origin
  pub unsound-parts : (o : ℕ) → o < n → (done_for n o journal ≡ parts trace n o s → ⊥) → is_sound trace n pages (s, journal) ≡ false
  unsound-parts o below other =
      let fails : has_parts trace n s journal o ≡ false =
      false_from_ne_true _ (λ is. absurd (other ((bytes_eq-Decides (done_for n o journal) (parts trace n o s)).0 is))) in
      let all : is_complete trace n s journal ≡ false = fails-in (has_parts trace n s journal) 0 n o (omega arith) (omega (arith, below)) fails in
      rw all (and-false (is_some (cache_after trace pages journal)))

  -- a sound journal is legal and complete
  pub sound-legal : is_sound trace n pages (s, journal) ≡ true → is_some (cache_after trace pages journal) ≡ true
  sound-legal is = (and_parts (is_some (cache_after trace pages journal)) (is_complete trace n s journal) is).0

  pub sound-complete : is_sound trace n pages (s, journal) ≡ true → IsComplete trace n s journal
  sound-complete is o below =
      let all = (and_parts (is_some (cache_after trace pages journal)) (is_complete trace n s journal) is).1 in
      (bytes_eq-Decides (done_for n o journal) (parts trace n o s)).0 (each-in (has_parts trace n s journal) 0 n o all (omega arith) (omega (arith, below)))
