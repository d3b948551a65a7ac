-- What follows where each ticket is in one place.
use Rattle.std.proofs.Common.{◌≡◌, ◌≢◌, ℕ, suc, ◌+◌, ◌<◌, ◌≤◌, Bool, true, false, cond, nat_lt, List, [], ◌∷◌, sum_by, sym, refl, ap, ◌∙◌, arith, ltb-true}
use mathlib.Core.Option.{some}
use lib.ListN.{get_elem?}
use Rattle.layout.specs.Sizes as sizes
use Rattle.foreign_list.specs.declared.views.Holder.{Holder}
use Rattle.foreign_list.specs.declared.views.Ledger.{Ledger}
use Rattle.foreign_list.specs.declared.views.View.{View}
use Rattle.foreign_list.specs.declared.views.View.TheVariants.{Pass}
use Rattle.foreign_list.specs.inside.Words.{times, IsChain}
use Rattle.foreign_list.specs.inside.Views.{idle_times, hand_times, pass_times}
use Rattle.foreign_list.specs.inside.Places.{IsOnce}
use Rattle.foreign_list.proofs.Counts.{sum_at, sum_two}
use Rattle.foreign_list.proofs.Chains.{same_here, same_is}

one_at_most : (b : Bool) → cond b 1 0 ≤ 1
one_at_most true = omega arith
one_at_most false = omega arith

module _ (ledger : Ledger) (listed : List ℕ) (views : List View) (once : IsOnce ledger listed views) where
  pub most : (t : ℕ) → idle_times t ledger.lent + hand_times t ledger.hand + times t ledger.walk + times t listed + sum_by (pass_times t) views ≤ 1
  most t = let o = once t in let m = one_at_most (nat_lt t sizes.tickets) in omega arith

  pub pass_alone : (id : ℕ) (e : Holder) → get_elem? views id ≡ some (Pass e)
      → (idle_times e.ticket ledger.lent ≡ 0) × (hand_times e.ticket ledger.hand ≡ 0) × (times e.ticket ledger.walk ≡ 0) × (times e.ticket listed ≡ 0)
  pass_alone id e at = let t : ℕ = e.ticket in let m = most t in let a = sum_at (pass_times t) views id (Pass e) at in let s = same_here t in (omega arith, omega arith, omega arith, omega arith)

  pub passes_apart : (id j : ℕ) (e f : Holder) → get_elem? views id ≡ some (Pass e) → get_elem? views j ≡ some (Pass f) → j ≢ id → f.ticket ≢ e.ticket
  passes_apart id j e f at at' n same_one = let t : ℕ = e.ticket in let m = most t in let a = sum_two (pass_times t) views j id (Pass f) (Pass e) n at' at in let s = same_here t in
      let s' = same_is t f.ticket (sym same_one) in absurd (omega arith)

  pub no_pass : (t : ℕ) → 0 < idle_times t ledger.lent + hand_times t ledger.hand + times t ledger.walk + times t listed → (j : ℕ) (f : Holder) → get_elem? views j ≡ some (Pass f) → f.ticket ≢ t
  no_pass t there j f at' e = let m = most t in let a = sum_at (pass_times t) views j (Pass f) at' in let s = same_is t f.ticket (sym e) in absurd (omega arith)

  pub below : (t : ℕ) → 0 < idle_times t ledger.lent + hand_times t ledger.hand + times t ledger.walk + times t listed + sum_by (pass_times t) views → t < sizes.tickets
  below t there = let o = once t in go (nat_lt t sizes.tickets) refl o
    where
      sum : ℕ
      sum = idle_times t ledger.lent + hand_times t ledger.hand + times t ledger.walk + times t listed + sum_by (pass_times t) views

      go : (b : Bool) → nat_lt t sizes.tickets ≡ b → sum ≡ cond (nat_lt t sizes.tickets) 1 0 → t < sizes.tickets
      go true e o = ltb-true t sizes.tickets e
      go false e o = let z : sum ≡ 0 = o ∙ ap (λ c. cond c 1 0) e in absurd (omega arith)

  -- the word that a chain of these tickets begins with
  pub word_low : (words : List ℕ) (word : ℕ) (ts : List ℕ) → IsChain words word ts → ((t : ℕ) → 0 < times t ts → t < sizes.tickets) → word ≤ sizes.tickets
  word_low words word [] c low = let z : word ≡ 0 = c in omega arith
  word_low words word (t ∷ ts) c low = let a = low t (let s = same_here t in omega arith) in let e : word ≡ suc t = c.0 in omega arith

  pub list_low : (words : List ℕ) (word : ℕ) → IsChain words word listed → word ≤ sizes.tickets
  list_low words word c = word_low words word listed c (λ t p. below t (omega arith))

  pub walk_low : (words : List ℕ) (word : ℕ) → IsChain words word ledger.walk → word ≤ sizes.tickets
  walk_low words word c = word_low words word ledger.walk c (λ t p. below t (omega arith))
