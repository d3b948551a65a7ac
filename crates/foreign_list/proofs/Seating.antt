-- What a seat keeps, from its new view.
use Rattle.std.proofs.Common.{◌≡◌, ◌≢◌, ◌≤◌, ◌<◌, ℕ, zero, suc, replicate, false, List, [], set, length, Option, Some, None, slice_get, sym, ap, subst, ◌∙◌, arith}
use Rattle.std.specs.Int.{bit_at}
use mathlib.Core.Logic.{dite}
use native.Mathlib.Decide.{ℕ_discrete}
use Rattle.std.proofs.lemmas.Option.{slice_get_within}
use Rattle.layout.specs.Sizes as sizes
use Rattle.atomic_table.specs.Seated.{TableId}
use Rattle.raw_range.specs.Memory.{Lent, PieceSite}
use Rattle.foreign_list.specs.declared.piece_id.PieceId.{PieceId}
use Rattle.foreign_list.specs.declared.views.Ledger.{Ledger}
use Rattle.foreign_list.specs.declared.views.Holder.{Holder}
use Rattle.foreign_list.specs.declared.views.View.TheVariants.{Owner, Pass}
use Rattle.foreign_list.specs.declared.views.Stage.TheVariants.{Carry}
use Rattle.foreign_list.specs.Blocks.{piece_id_of}
use Rattle.foreign_list.specs.inside.Words.{link_to}
use Rattle.foreign_list.specs.inside.Views.{ledger_of, holder_of, carry}
use Rattle.foreign_list.specs.inside.Seats.{TableSeat, IsConsistentSeat, IsConsistentPass, AreIdle, AreSites, site_in}
use Rattle.foreign_list.proofs.OwnerSteps.{record_here, record_else}

-- where each lies, as the ledger has it
abbrev site_there : Option (Option PieceId) → Option (Option PieceSite)
site_there None = None
site_there (Some None) = Some None
site_there (Some (Some x)) = Some (Some (site_in x))

-- the owner's seat with this ledger
pub owner_seat : (seat : TableSeat) (d : Ledger) (idle first : ℕ) (sites : List (Option PieceSite)) → seat.me.0 ≡ Owner d → seat.me.1 ≡ [] → d.hand ≡ None
    → first ≡ link_to d.walk → first ≤ sizes.tickets → length d.lent ≡ sizes.tickets → AreIdle idle d.lent
    → length sites ≡ sizes.tickets → AreSites sites d.lent → IsConsistentSeat seat idle first sites
owner_seat seat d idle first sites e slots hand first_is low count are site_count sites_are = let same : ledger_of seat.me.0 ≡ d = ap ledger_of e in record {
  is_owner = e ∙ ap Owner (sym same);
  slots = slots;
  hand = ap (λ (b : Ledger). b.hand) same ∙ hand;
  first_is = first_is ∙ ap (λ (b : Ledger). link_to b.walk) (sym same);
  low = low;
  count = ap (λ (b : Ledger). length b.lent) same ∙ count;
  idle_are = subst (λ (b : Ledger). AreIdle idle b.lent) (sym same) are;
  site_count = site_count;
  sites_are = subst (λ (b : Ledger). AreSites sites b.lent) (sym same) sites_are;
}

-- a piece was lent, or came home, and so the sites say
pub site_on : (sites : List (Option PieceSite)) (lent : List (Option PieceId)) (t : ℕ) (x : PieceId) → t < length lent → t < length sites
    → AreSites sites lent → AreSites (set sites t (Some (site_in x))) (set lent t (Some x))
site_on sites lent t x low inside was u y is = dite (ℕ_discrete u t)
    (λ e. let same : Some (Some x) ≡ Some (Some y) = sym (record_here lent t (Some x) low) ∙ ap (slice_get (set lent t (Some x))) (sym e) ∙ is in
    ap (slice_get (set sites t (Some (site_in x)))) e ∙ record_here sites t (Some (site_in x)) inside ∙ ap site_there same)
    (λ n. record_else sites t u (Some (site_in x)) n ∙ was u y (sym (record_else lent t u (Some x) n) ∙ is))

pub site_off : (sites : List (Option PieceSite)) (lent : List (Option PieceId)) (t : ℕ) → t < length lent → AreSites sites lent → AreSites sites (set lent t None)
site_off sites lent t low was u y is = dite (ℕ_discrete u t)
    (λ e. absurd (let clash : Some None ≡ Some (Some y) = sym (record_here lent t None low) ∙ ap (slice_get (set lent t None)) (sym e) ∙ is in cc))
    (λ n. was u y (sym (record_else lent t u None n) ∙ is))

-- a ticket was lent, or is idle again, and so the word says
pub idle_off : (lent : List (Option PieceId)) (old new t : ℕ) (x : PieceId) → t < length lent → AreIdle old lent → bit_at new t ≡ 0
    → ((u : ℕ) → u < 64 → u ≢ t → bit_at new u ≡ bit_at old u) → AreIdle new (set lent t (Some x))
idle_off lent old new t x low was off same u within = dite (ℕ_discrete u t)
    (λ e. (
      λ on. absurd (let z : 1 ≡ 0 = sym on ∙ ap (bit_at new) e ∙ off in omega (arith, z)),
      λ is. absurd (let clash : Some (Some x) ≡ Some None = sym (record_here lent t (Some x) low) ∙ ap (slice_get (set lent t (Some x))) (sym e) ∙ is in cc),
    ))
    (λ n. (
      λ on. record_else lent t u (Some x) n ∙ (was u within).0 (sym (same u (omega (arith, within)) n) ∙ on),
      λ is. same u (omega (arith, within)) n ∙ (was u within).1 (sym (record_else lent t u (Some x) n) ∙ is),
    ))

pub idle_on : (lent : List (Option PieceId)) (old new t : ℕ) → t < length lent → AreIdle old lent → bit_at new t ≡ 1
    → ((u : ℕ) → u < 64 → u ≢ t → bit_at new u ≡ bit_at old u) → AreIdle new (set lent t None)
idle_on lent old new t low was on same u within = dite (ℕ_discrete u t)
    (λ e. (λ _. ap (slice_get (set lent t None)) e ∙ record_here lent t None low, λ _. ap (bit_at new) e ∙ on))
    (λ n. (
      λ set_is. record_else lent t u None n ∙ (was u within).0 (sym (same u (omega (arith, within)) n) ∙ set_is),
      λ is. same u (omega (arith, within)) n ∙ (was u within).1 (sym (record_else lent t u None n) ∙ is),
    ))

-- an idle ticket is below the number of tickets
pub idle_low : (seat : TableSeat) (idle first t : ℕ) (sites : List (Option PieceSite)) → IsConsistentSeat seat idle first sites → slice_get (ledger_of seat.me.0).lent t ≡ Some None → t < sizes.tickets
idle_low seat idle first t sites was at = let within : t < length (ledger_of seat.me.0).lent = slice_get_within (ledger_of seat.me.0).lent t None at in
    let long = was.count in omega (arith, within, long)

-- the pass of a block that was just lent
pub new_pass : (id : TableId) (pass : TableSeat) (piece : Lent) (t : ℕ) → pass.table_id ≡ id → pass.me.0 ≡ Pass (carry t (piece_id_of piece))
    → pass.me.1 ≡ [] → t < sizes.tickets → IsConsistentPass id pass piece t false Carry
new_pass id pass piece t seat e slots low = let same : holder_of pass.me.0 ≡ carry t (piece_id_of piece) = ap holder_of e in record {
  seat = seat;
  is_pass = e ∙ ap Pass (sym same);
  stage_is = ap (λ (b : Holder). b.stage) same;
  ticket_is = sym (ap (λ (b : Holder). b.ticket) same);
  low = low;
  has_slot_is = ap (λ (b : Holder). b.has_slot) same;
  piece_is = sym (ap (λ (b : Holder). b.piece_id) same);
  slots = slots;
}

-- where all tickets are idle, no piece is lent
pub none_lent : (n t : ℕ) (x : PieceId) → slice_get {X = Option PieceId} (replicate n None) t ≡ Some (Some x) → ⊥
none_lent zero t x is = cc
none_lent (suc n) zero x is = cc
none_lent (suc n) (suc t) x is = none_lent n t x is
