-- The fact of places: where each ticket is, and what its slot holds.
use Rattle.std.specs.Prelude.{◌≡◌, ℕ, suc, ◌+◌, ◌<◌, cond, nat_lt, true, false, Bool, List, length, Option, Some, None, slice_get, sum_by}
use mathlib.Core.Option.{some, none}
use lib.ListN.{get_elem?}
use Rattle.layout.specs.Sizes as sizes
use Rattle.raw_range.specs.Memory.{Lent}
use Rattle.foreign_list.specs.declared.piece_id.PieceId.{PieceId}
use Rattle.foreign_list.specs.declared.views.Holder.{Holder}
use Rattle.foreign_list.specs.declared.views.Ledger.{Ledger}
use Rattle.foreign_list.specs.declared.views.View.{View}
use Rattle.foreign_list.specs.declared.views.View.TheVariants.{Owner, Pass, Spent}
use Rattle.foreign_list.specs.declared.views.Stage.{Stage}
use Rattle.foreign_list.specs.declared.views.Stage.TheVariants.{Carry, Looked, Linked}
use Rattle.foreign_list.specs.Blocks.{piece_id_of}
use Rattle.foreign_list.specs.inside.Words.{Homes, word_at, link_to, IsChain, times}
use Rattle.foreign_list.specs.inside.Views.{idle_times, hand_times, pass_times}

-- a slot is at home and empty, at home with the piece of this place, or out with a seat
abbrev pub IsEmpty : Homes → ℕ → Type 0
IsEmpty homes t = get_elem? homes t ≡ some (some None)

abbrev pub HasPiece : Homes → ℕ → PieceId → Type 0
HasPiece homes t piece_id = (piece : Lent) × (get_elem? homes t ≡ some (some (Some piece))) × (piece_id_of piece ≡ piece_id)

abbrev pub IsOut : Homes → ℕ → Type 0
IsOut homes t = get_elem? homes t ≡ some none

-- the next word of a linked ticket is the head that its pass expects
abbrev pub NextIs : List ℕ → ℕ → Stage → Type 0
NextIs words t Carry = Unit {0}
NextIs words t (Looked expected) = Unit {0}
NextIs words t (Linked expected) = word_at words (suc t) ≡ expected

-- a pass may have its slot, and only one that carries may not
abbrev pub SlotOf : Homes → ℕ → Stage → Bool → Type 0
SlotOf homes t Carry true = IsOut homes t
SlotOf homes t Carry false = IsEmpty homes t
SlotOf homes t (Looked expected) true = IsOut homes t
SlotOf homes t (Looked expected) false = ⊥
SlotOf homes t (Linked expected) true = IsOut homes t
SlotOf homes t (Linked expected) false = ⊥

pub record PassStands (words : List ℕ) (homes : Homes) (lent : List (Option PieceId)) (e : Holder) : Type 0 where
  pub next : NextIs words e.ticket e.stage
  pub slot : SlotOf homes e.ticket e.stage e.has_slot
  pub recorded : slice_get lent e.ticket ≡ Some (Some e.piece_id)

abbrev pub Stands : List ℕ → Homes → List (Option PieceId) → ℕ → View → Type 0
Stands words homes lent j (Owner ledger) = j ≡ 0
Stands words homes lent j (Pass holder) = PassStands words homes lent holder
Stands words homes lent j Spent = Unit {0}

abbrev pub HandStands : Homes → List (Option PieceId) → Option ℕ → Type 0
HandStands homes lent None = Unit {0}
HandStands homes lent (Some t) = IsOut homes t × ((piece_id : PieceId) × (slice_get lent t ≡ Some (Some piece_id)))

-- each ticket on the list has its piece at home
abbrev pub AreHome : Homes → List (Option PieceId) → List ℕ → Type 0
AreHome homes lent ts = (t : ℕ) → 0 < times t ts → (piece_id : PieceId) × (slice_get lent t ≡ Some (Some piece_id)) × HasPiece homes t piece_id

-- each ticket stands once in the five kinds of places together, and no other number does
abbrev pub IsOnce : Ledger → List ℕ → List View → Type 0
IsOnce ledger listed views =
    (t : ℕ) → idle_times t ledger.lent + hand_times t ledger.hand + times t ledger.walk + times t listed + sum_by (pass_times t) views ≡ cond (nat_lt t sizes.tickets) 1 0

pub record Places (ledger : Ledger) (listed words : List ℕ) (homes : Homes) (views : List View) : Type 0 where
  pub is_ledger : get_elem? views 0 ≡ some (Owner ledger)
  pub word_count : length words ≡ sizes.list_words
  pub slot_count : length homes ≡ sizes.tickets
  pub lent_count : length ledger.lent ≡ sizes.tickets
  pub on_list : IsChain words (word_at words 0) listed
  pub on_walk : IsChain words (link_to ledger.walk) ledger.walk
  pub once : IsOnce ledger listed views
  pub each_view : (j : ℕ) (v : View) → get_elem? views j ≡ some v → Stands words homes ledger.lent j v
  pub each_idle : (t : ℕ) → slice_get ledger.lent t ≡ Some None → IsEmpty homes t
  pub in_hand : HandStands homes ledger.lent ledger.hand
  pub list_home : AreHome homes ledger.lent listed
  pub walk_home : AreHome homes ledger.lent ledger.walk
