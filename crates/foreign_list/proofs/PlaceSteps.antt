-- The fact of places after one ticket moves.
use Rattle.std.proofs.Common.{◌≡◌, ◌≢◌, ℕ, suc, ◌+◌, ◌<◌, Bool, true, false, List, length, set, Option, Some, None, slice_get, sym, refl, ap, ◌∙◌, subst, arith}
use mathlib.Core.Option.{some, some-injective}
use mathlib.Core.Logic.{dite}
use native.Mathlib.Decide.{ℕ_discrete}
use lib.ListN.{get_elem?}
use Rattle.atomic_table.proofs.Lists.{set_else}
use Rattle.foreign_list.specs.declared.piece_id.PieceId.{PieceId}
use Rattle.foreign_list.specs.declared.views.Holder.{Holder}
use Rattle.foreign_list.specs.declared.views.Ledger.{Ledger}
use Rattle.foreign_list.specs.declared.views.View.{View}
use Rattle.foreign_list.specs.declared.views.View.TheVariants.{Owner, Pass, Spent}
use Rattle.foreign_list.specs.declared.views.Stage.{Stage}
use Rattle.foreign_list.specs.declared.views.Stage.TheVariants.{Carry, Looked, Linked}
use Rattle.foreign_list.specs.inside.Words.{Homes, word_at, link_to, IsChain, same, times}
use Rattle.foreign_list.specs.inside.Views.{none_there, idle_times, hand_times, pass_times, owner_in}
use Rattle.foreign_list.specs.inside.Places.{HasPiece, IsOut, NextIs, SlotOf, PassStands, Stands, HandStands, Places}
use Rattle.foreign_list.proofs.Counts.{each_set, sum_set}
use Rattle.foreign_list.proofs.Chains.{same_not, apart}
use Rattle.foreign_list.proofs.Once.{pass_alone, passes_apart}

-- nothing changed at the ticket u
pub record Agree (words words' : List ℕ) (homes homes' : Homes) (lent lent' : List (Option PieceId)) (u : ℕ) : Type 0 where
  pub next : word_at words' (suc u) ≡ word_at words (suc u)
  pub home : get_elem? homes' u ≡ get_elem? homes u
  pub recorded : slice_get lent' u ≡ slice_get lent u

abbrev pub Others : List ℕ → List ℕ → Homes → Homes → List (Option PieceId) → List (Option PieceId) → ℕ → Type 0
Others words words' homes homes' lent lent' t = (u : ℕ) → u ≢ t → Agree words words' homes homes' lent lent' u

abbrev pub IsHome : Homes → List (Option PieceId) → ℕ → Type 0
IsHome homes lent t = (piece_id : PieceId) × (slice_get lent t ≡ Some (Some piece_id)) × HasPiece homes t piece_id

module _ (words words' : List ℕ) (homes homes' : Homes) (lent lent' : List (Option PieceId)) where
  abbrev Same : ℕ → Type 0
  Same u = Agree words words' homes homes' lent lent' u

  next_kept : (t : ℕ) (stage : Stage) → Same t → NextIs words t stage → NextIs words' t stage
  next_kept t Carry a n = tt
  next_kept t (Looked x) a n = tt
  next_kept t (Linked x) a n = a.next ∙ n

  slot_kept : (t : ℕ) (stage : Stage) (has_slot : Bool) → Same t → SlotOf homes t stage has_slot → SlotOf homes' t stage has_slot
  slot_kept t Carry true a n = a.home ∙ n
  slot_kept t Carry false a n = a.home ∙ n
  slot_kept t (Looked x) true a n = a.home ∙ n
  slot_kept t (Looked x) false a n = n
  slot_kept t (Linked x) true a n = a.home ∙ n
  slot_kept t (Linked x) false a n = n

  pub pass_kept : (e : Holder) → Same e.ticket → PassStands words homes lent e → PassStands words' homes' lent' e
  pass_kept e a p = record { next = next_kept e.ticket e.stage a p.next; slot = slot_kept e.ticket e.stage e.has_slot a p.slot; recorded = a.recorded ∙ p.recorded }

  pub home_kept : (u : ℕ) → Same u → IsHome homes lent u → IsHome homes' lent' u
  home_kept u a h = (h.0, a.recorded ∙ h.1, (h.2.0, a.home ∙ h.2.1, h.2.2))

  pub hand_kept : (t : ℕ) (hand : Option ℕ) → Others words words' homes homes' lent lent' t → hand_times t hand ≡ 0 → HandStands homes lent hand → HandStands homes' lent' hand
  hand_kept t None others z h = tt
  hand_kept t (Some u) others z h = let a = others u (λ e. apart t u z (sym e)) in (a.home ∙ h.0, (h.1.0, a.recorded ∙ h.1.1))

  -- a view that names no ticket that moved
  pub view_kept : (t j : ℕ) (v : View) → Others words words' homes homes' lent lent' t → ((f : Holder) → v ≡ Pass f → f.ticket ≢ t) → Stands words homes lent j v → Stands words' homes' lent' j v
  view_kept t j (Owner d) others n s = s
  view_kept t j (Pass f) others n s = pass_kept f (others f.ticket (n f refl)) s
  view_kept t j Spent others n s = s

pub not_pass : (ledger : Ledger) (e : Holder) (views : List View) (id : ℕ) → get_elem? views 0 ≡ some (Owner ledger) → get_elem? views id ≡ some (Pass e) → 0 ≢ id
not_pass ledger e views id a b z = let w : Owner ledger ≡ Pass e = some-injective (Owner ledger) (Pass e) (sym a ∙ ap (get_elem? views) z ∙ b) in let one : owner_in (Owner ledger) ≡ owner_in (Pass e) = ap owner_in w in absurd (omega arith)

not_idle : (lent : List (Option PieceId)) (t u : ℕ) → idle_times t lent ≡ 0 → slice_get lent u ≡ Some None → u ≢ t
not_idle lent t u z is e = let one : idle_times t lent ≡ 1 = ap (λ k. none_there (slice_get lent k)) (sym e) ∙ ap none_there is in absurd (omega arith)

-- a pass makes a step: its ticket alone may change its next word and its slot, and may come on the list
pub pass_moves : (ledger : Ledger) (listed words words' : List ℕ) (homes homes' : Homes) (views : List View) (id : ℕ) (e : Holder) (w : View) (r : Places ledger listed words homes views) → get_elem? views id ≡ some (Pass e)
    → Others words words' homes homes' ledger.lent ledger.lent e.ticket → length words' ≡ length words → length homes' ≡ length homes
    → (listed' : List ℕ) → IsChain words' (word_at words' 0) listed' → IsChain words' (link_to ledger.walk) ledger.walk
    → ((u : ℕ) → times u listed' + pass_times u w ≡ times u listed + same u e.ticket)
    → Stands words' homes' ledger.lent id w → (0 < times e.ticket listed' → HasPiece homes' e.ticket e.piece_id)
    → Places ledger listed' words' homes' (set views id w)
pass_moves ledger listed words words' homes homes' views id e w r at others wide deep listed' chain_l chain_w stays mine comes =
    let t : ℕ = e.ticket in
    let alone = pass_alone ledger listed views r.once id e at in let idle0 = alone.0 in let hand0 = alone.1 in let walk0 : times t ledger.walk ≡ 0 = alone.2 in let list0 = alone.3 in
    let stood : PassStands words homes ledger.lent e = r.each_view id (Pass e) at in record {
      is_ledger = set_else views id 0 w (not_pass ledger e views id r.is_ledger at) ∙ r.is_ledger;
      word_count = wide ∙ r.word_count;
      slot_count = deep ∙ r.slot_count;
      lent_count = r.lent_count;
      on_list = chain_l;
      on_walk = chain_w;
      once = λ u. let s = sum_set (pass_times u) views id (Pass e) w at in let o = r.once u in let p = stays u in omega arith;
      each_view = each_set (Stands words' homes' ledger.lent) views id w mine
          (λ j v n at'. view_kept words words' homes homes' ledger.lent ledger.lent t j v others
          (λ f is. passes_apart ledger listed views r.once id j e f at (subst (λ x. get_elem? views j ≡ some x) is at') n) (r.each_view j v at'));
      each_idle = λ u is. (others u (not_idle ledger.lent t u idle0 is)).home ∙ r.each_idle u is;
      in_hand = hand_kept words words' homes homes' ledger.lent ledger.lent t ledger.hand others hand0 r.in_hand;
      list_home = λ u p. dite (ℕ_discrete u t)
          (λ is. subst (IsHome homes' ledger.lent) (sym is) (e.piece_id, stood.recorded, comes (subst (λ k. 0 < times k listed') is p)))
          (λ n. let s = stays u in let z = same_not u t n in home_kept words words' homes homes' ledger.lent ledger.lent u (others u n) (r.list_home u (omega arith)));
      walk_home = λ u p. home_kept words words' homes homes' ledger.lent ledger.lent u (others u (λ is. let z : times u ledger.walk ≡ 0 = ap (λ k. times k ledger.walk) is ∙ walk0 in absurd (omega arith))) (r.walk_home u p);
    }

-- a slot that a pass has
pub out_linked : (homes : Homes) (t x : ℕ) (has_slot : Bool) → SlotOf homes t (Linked x) has_slot → IsOut homes t
out_linked homes t x true s = s
out_linked homes t x false s = absurd s

pub out_looked : (homes : Homes) (t x : ℕ) (has_slot : Bool) → SlotOf homes t (Looked x) has_slot → IsOut homes t
out_looked homes t x true s = s
out_looked homes t x false s = absurd s
