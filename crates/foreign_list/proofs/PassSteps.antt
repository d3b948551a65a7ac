-- The steps of a pass keep the fact of places.
use Rattle.std.proofs.Common.{◌≡◌, ℕ, suc, ◌+◌, ◌<◌, Bool, true, false, List, ◌∷◌, length, set, Some, sym, refl, ap, ◌∙◌, subst, arith, length-set, get_or-set_other, get_or-set_same}
use mathlib.Core.Option.{some, none}
use lib.ListN.{get_elem?}
use Rattle.layout.specs.Sizes as sizes
use Rattle.atomic_table.proofs.Lists.{set_else, set_here}
use Rattle.raw_range.specs.Memory.{Lent}
use Rattle.foreign_list.specs.declared.views.Holder.{Holder}
use Rattle.foreign_list.specs.declared.views.Ledger.{Ledger}
use Rattle.foreign_list.specs.declared.views.View.{View}
use Rattle.foreign_list.specs.declared.views.View.TheVariants.{Pass, Spent}
use Rattle.foreign_list.specs.declared.views.Stage.{Stage}
use Rattle.foreign_list.specs.declared.views.Stage.TheVariants.{Carry, Looked, Linked}
use Rattle.foreign_list.specs.Blocks.{piece_id_of}
use Rattle.foreign_list.specs.inside.Words.{Homes, word_at, link_to, IsChain, same, times}
use Rattle.foreign_list.specs.inside.Views.{pass_times, at_stage, sent_back}
use Rattle.foreign_list.specs.inside.Places.{IsEmpty, NextIs, SlotOf, PassStands, Places}
use Rattle.foreign_list.proofs.Counts.{sum_at}
use Rattle.foreign_list.proofs.Chains.{same_here, chain_off, chain_head, chain_front}
use Rattle.foreign_list.proofs.Once.{pass_alone, below}
use Rattle.foreign_list.proofs.PlaceSteps.{Others, pass_moves, out_looked, out_linked}

module _ (ledger : Ledger) (listed words : List ℕ) (homes : Homes) (views : List View) (id : ℕ) (e : Holder) (r : Places ledger listed words homes views) (at : get_elem? views id ≡ some (Pass e)) where
  abbrev t : ℕ
  t = e.ticket

  stood : PassStands words homes ledger.lent e
  stood = r.each_view id (Pass e) at

  off_list : times t listed ≡ 0
  off_list = (pass_alone ledger listed views r.once id e at).3

  off_walk : times t ledger.walk ≡ 0
  off_walk = (pass_alone ledger listed views r.once id e at).2

  low : t < sizes.tickets
  low = let a = sum_at (pass_times t) views id (Pass e) at in let s = same_here t in below ledger listed views r.once t (omega arith)

  slot_within : t < length homes
  slot_within = let a = low in let b = r.slot_count in omega arith

  word_within : suc t < length words
  word_within = let a = low in let b = r.word_count in omega arith

  quiet : Others words words homes homes ledger.lent ledger.lent t
  quiet u n = record { next = refl; home = refl; recorded = refl }

  pub slot_is_empty : e.stage ≡ Carry → e.has_slot ≡ false → IsEmpty homes t
  slot_is_empty a b = subst (λ (p : Stage × Bool). SlotOf homes t p.0 p.1) (λ i. (a i, b i)) stood.slot

  -- only the view changes
  still : (n : Holder) → n.ticket ≡ t → PassStands words homes ledger.lent n → Places ledger listed words homes (set views id (Pass n))
  still n same_t mine = pass_moves ledger listed words words homes homes views id e (Pass n) r at quiet refl refl listed r.on_list r.on_walk
      (λ u. ap (λ k. times u listed + same u k) same_t) mine (λ p. let z = off_list in absurd (omega arith))

  pub first_look_kept : (x : ℕ) → e.stage ≡ Carry → e.has_slot ≡ false → Places ledger listed words (set homes t none) (set views id (Pass (at_stage e (Looked x))))
  first_look_kept x a b = pass_moves ledger listed words words homes (set homes t none) views id e (Pass (at_stage e (Looked x))) r at
      (λ u n. record { next = refl; home = set_else homes t u none n; recorded = refl }) refl (length-set homes t none) listed r.on_list r.on_walk (λ u. refl)
      record { next = tt; slot = set_here homes t none slot_within; recorded = stood.recorded } (λ p. let z = off_list in absurd (omega arith))

  pub look_again_kept : (x : ℕ) → e.stage ≡ Carry → e.has_slot ≡ true → Places ledger listed words homes (set views id (Pass (at_stage e (Looked x))))
  look_again_kept x a b = still (at_stage e (Looked x)) refl
      record { next = tt; slot = subst (λ (p : Stage × Bool). SlotOf homes t p.0 p.1) (λ i. (a i, b i)) stood.slot; recorded = stood.recorded }

  pub link_kept : (x : ℕ) → e.stage ≡ Looked x → Places ledger listed (set words (suc t) x) homes (set views id (Pass (at_stage e (Linked x))))
  link_kept x a = let head : word_at (set words (suc t) x) 0 ≡ word_at words 0 = get_or-set_other words (suc t) 0 x 0 (λ (z : 0 ≡ suc t). absurd (omega arith)) in
      pass_moves ledger listed words (set words (suc t) x) homes homes views id e (Pass (at_stage e (Linked x))) r at
      (λ u n. record { next = get_or-set_other words (suc t) (suc u) x 0 (λ (z : suc u ≡ suc t). n (omega arith)); home = refl; recorded = refl }) (length-set words (suc t) x) refl listed
      (chain_off words (word_at (set words (suc t) x) 0) t x listed off_list (subst (λ k. IsChain words k listed) (sym head) r.on_list))
      (chain_off words (link_to ledger.walk) t x ledger.walk off_walk r.on_walk) (λ u. refl)
      record { next = get_or-set_same words (suc t) x 0 word_within; slot = out_looked homes t x e.has_slot (subst (λ k. SlotOf homes t k e.has_slot) a stood.slot); recorded = stood.recorded }
      (λ p. let z = off_list in absurd (omega arith))

  pub win_kept : (x : ℕ) (piece : Lent) → e.stage ≡ Linked x → word_at words 0 ≡ x → piece_id_of piece ≡ e.piece_id → Places ledger (t ∷ listed) (set words 0 (suc t)) (set homes t (some (Some piece))) (set views id Spent)
  win_kept x piece a hit is = pass_moves ledger listed words (set words 0 (suc t)) homes (set homes t (some (Some piece))) views id e Spent r at
      (λ u n. record { next = get_or-set_other words 0 (suc u) (suc t) 0 (λ (z : suc u ≡ 0). absurd (omega arith)); home = set_else homes t u (some (Some piece)) n; recorded = refl })
      (length-set words 0 (suc t)) (length-set homes t (some (Some piece))) (t ∷ listed)
      (chain_front words t listed (let n = word_within in omega arith) (subst (NextIs words t) a stood.next ∙ sym hit) r.on_list)
      (chain_head words (link_to ledger.walk) (suc t) ledger.walk r.on_walk) (λ u. omega arith) tt (λ _. (piece, set_here homes t (some (Some piece)) slot_within, is))

  pub lose_kept : (x found : ℕ) → e.stage ≡ Linked x → Places ledger listed words homes (set views id (Pass (sent_back e found)))
  lose_kept x found a = still (sent_back e found) refl
      record { next = tt; slot = out_linked homes t x e.has_slot (subst (λ k. SlotOf homes t k e.has_slot) a stood.slot); recorded = stood.recorded }
