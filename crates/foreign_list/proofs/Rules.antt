-- Each step is allowed: whatever the table is, it keeps the rule and tells what its play says.
use Rattle.std.proofs.Common.{◌≡◌, ℕ, suc, ◌≤◌, eqb, true, false, List, [], ◌∷◌, ◌++◌, set, Option, Some, None, slice_get, sym, refl, ap, ◌∙◌, subst}
use mathlib.Core.Logic.{dite}
use mathlib.Core.Option.{some-injective}
use native.Mathlib.Decide.{ℕ_discrete}
use Rattle.layout.specs.Sizes as sizes
use prog.Atomic.{either}
use Rattle.raw_range.specs.Memory.{Lent}
use Rattle.atomic_table.specs.Table.{Act, keeps, takes, gives, Valid, carried_after, stepped, Allows, Splits}
use Rattle.atomic_table.proofs.Lists.{exchanged}
use Rattle.foreign_list.specs.declared.piece_id.PieceId.{PieceId}
use Rattle.foreign_list.specs.declared.views.Holder.{Holder}
use Rattle.foreign_list.specs.declared.views.Ledger.{Ledger}
use Rattle.foreign_list.specs.declared.views.View.{View}
use Rattle.foreign_list.specs.declared.views.View.TheVariants.{Owner, Pass, Spent}
use Rattle.foreign_list.specs.declared.views.Stage.TheVariants.{Carry, Looked, Linked}
use Rattle.foreign_list.specs.Blocks.{piece_id_of}
use Rattle.foreign_list.specs.Laws.{Slots, Has, head}
use Rattle.foreign_list.specs.inside.Words.{Table, word_at}
use Rattle.foreign_list.specs.inside.Views.{carry, at_stage, sent_back, lent_out, lending, took_whole, walked, put_home, ledger_of}
use Rattle.foreign_list.specs.inside.Rule.{IsConsistent}
use Rattle.foreign_list.specs.inside.Plays.{SeatState, of_pass, of_owner, first_look, look_again, link, Swung, SawList, TookWhole, WalkedOn, go_home}
use Rattle.foreign_list.proofs.Once.{list_low}
use Rattle.foreign_list.proofs.PassSteps.{slot_is_empty}
use Rattle.foreign_list.proofs.OwnerSteps.{first_home, next_link, next_low}
use Rattle.foreign_list.proofs.TableSteps.{made, looked_first, looked_again, linked, won, lost, lent, head_link, took, took_none, saw, walked_on, came_home}

-- a step that the rule allows, of the word i, which it makes f of what it was
abbrev IsAllowed : ℕ → ℕ → View → Slots → ℕ → (ℕ → ℕ) → (ℕ → SeatState → Type 0) → Type 0
IsAllowed n id v c i f then = Allows IsConsistent n id (v, c) i f then

-- the seat goes on, with the word i as x
abbrev Goes : Table → ℕ → ℕ → ℕ → Slots → (ℕ → SeatState → Type 0) → Type 0
Goes s i x id c then =
    (w : View) × (a : Act (Option Lent)) × Valid s.homes c a × IsConsistent (stepped s i x id c w a) × then (word_at s.words i) (w, carried_after c a)

-- the head is 0 or names a ticket
head_low : (s : Table) (k : IsConsistent s) → head s ≤ sizes.tickets
head_low s k = list_low k.ledger k.listed s.views k.places.once s.words (head s) k.places.on_list

-- 2
pub looks_first : (n id : ℕ) (v : View) (c : Slots) (e : Holder) → v ≡ Pass e → e.stage ≡ Carry → e.has_slot ≡ false
    → IsAllowed n id v c 0 (λ x. x) (λ found m. of_pass first_look v (v, c) found m)
looks_first n id v c e is stage no_slot = subst (λ v. IsAllowed n id v c 0 (λ x. x) (λ found m. of_pass first_look v (v, c) found m)) (sym is)
    (λ s k deep at fits. (
      Pass (at_stage e (Looked (head s))),
      takes e.ticket None,
      slot_is_empty k.ledger k.listed s.words s.homes s.views id e k.places at stage no_slot,
      (looked_first s k id e at stage no_slot).0,
      (refl, refl, head_low s k),
    ))

-- 3
pub looks_again : (n id : ℕ) (v : View) (c : Slots) (e : Holder) → v ≡ Pass e → e.stage ≡ Carry → e.has_slot ≡ true
    → IsAllowed n id v c 0 (λ x. x) (λ found m. of_pass look_again v (v, c) found m)
looks_again n id v c e is stage slot = subst (λ v. IsAllowed n id v c 0 (λ x. x) (λ found m. of_pass look_again v (v, c) found m)) (sym is)
    (λ s k deep at fits. (
      Pass (at_stage e (Looked (head s))),
      keeps,
      tt,
      (looked_again s k id e at stage slot).0,
      (refl, refl, head_low s k),
    ))

-- 4
pub links : (n id : ℕ) (v : View) (c : Slots) (e : Holder) (i x : ℕ) → v ≡ Pass e → e.stage ≡ Looked x → i ≡ suc e.ticket
    → IsAllowed n id v c i (λ _. x) (λ _ m. of_pass link v (v, c) x m)
links n id v c e i x is stage next = subst (λ v. IsAllowed n id v c i (λ _. x) (λ _ m. of_pass link v (v, c) x m)) (sym is)
    (subst (λ i. IsAllowed n id (Pass e) c i (λ _. x) (λ _ m. link e (Pass e, c) x m)) (sym next)
    (λ s k deep at fits. (
      Pass (at_stage e (Linked x)),
      keeps,
      tt,
      (linked s k id e at x stage).0,
      (refl, refl),
    )))

-- 5 and 6
pub swings : (n id : ℕ) (v : View) (c : Slots) (e : Holder) (old new : ℕ) (piece : Lent) (more : Slots) → v ≡ Pass e → e.stage ≡ Linked old
    → new ≡ suc e.ticket → c ≡ (e.ticket, Some piece) ∷ more → piece_id_of piece ≡ e.piece_id
    → IsAllowed n id v c 0 (λ x. either (eqb x old) new x) (λ found m. of_pass (Swung old) v (v, c) found m)
swings n id v c e old new piece more is stage next has same_piece =
    let mine : Slots = (e.ticket, Some piece) ∷ more in
    subst (λ v. IsAllowed n id v c 0 (λ x. either (eqb x old) new x) (λ found m. of_pass (Swung old) v (v, c) found m)) (sym is)
    (subst (λ c. IsAllowed n id (Pass e) c 0 (λ x. either (eqb x old) new x) (λ found m. Swung old e (Pass e, c) found m)) (sym has)
    (subst (λ new. IsAllowed n id (Pass e) mine 0 (λ x. either (eqb x old) new x) (λ found m. Swung old e (Pass e, mine) found m)) (sym next)
    (λ s k deep at fits.
    exchanged (head s) old (suc e.ticket) (λ x. Goes s 0 x id mine (λ found m. Swung old e (Pass e, mine) found m))
    (λ hit. (
      Spent,
      gives,
      tt,
      (won s k id e at old piece stage hit same_piece).0,
      record { low = head_low s k; won = λ _. (refl, refl); lost = λ miss. absurd (miss hit) },
    ))
    (λ miss. (
      Pass (sent_back e (head s)),
      keeps,
      tt,
      (lost s k id e at old stage miss).0,
      record { low = head_low s k; won = λ hit. absurd (miss hit); lost = λ _. (refl, refl) },
    )))))

-- the owner's seat is the first, and the rule is of its ledger
owner_first : (s : Table) (k : IsConsistent s) (id : ℕ) (d : Ledger) → Has s id (Owner d) → id ≡ 0
owner_first s k id d at = k.places.each_view id (Owner d) at

pub owner_ledger : (s : Table) (k : IsConsistent s) (d : Ledger) → Has s 0 (Owner d) → k.ledger ≡ d
owner_ledger s k d at = ap ledger_of (some-injective (Owner k.ledger) (Owner d) (sym k.places.is_ledger ∙ at))

-- what holds of the seat 0 and of the rule's own ledger, holds of an owner's seat
at_ledger : (s : Table) (k : IsConsistent s) (id : ℕ) (d : Ledger) (F : ℕ → Ledger → Type 0) → Has s id (Owner d) → F 0 k.ledger → F id d
at_ledger s k id d F at f = let first = owner_first s k id d at in
    subst (λ (p : ℕ × Ledger). F p.0 p.1) (λ i. (sym first i, owner_ledger s k d (subst (λ j. Has s j (Owner d)) first at) i)) f

-- 1
pub lends : (id : ℕ) (v : View) (d : Ledger) (t : ℕ) (piece_id : PieceId) → v ≡ Owner d → slice_get d.lent t ≡ Some None
    → Splits IsConsistent id v (lending t piece_id v) (Pass (carry t piece_id))
lends id v d t piece_id is idle = subst (λ v. Splits IsConsistent id v (lending t piece_id v) (Pass (carry t piece_id))) (sym is)
    (λ s k at. at_ledger s k id d
    (λ j (b : Ledger). slice_get b.lent t ≡ Some None
    → IsConsistent (made s.words s.homes (set s.views j (Owner (lent_out t piece_id b)) ++ Pass (carry t piece_id) ∷ [])))
    at (λ free. (lent s k t piece_id free).0) idle)

-- 7
pub takes_whole : (n id : ℕ) (v : View) (c : Slots) (d : Ledger) → v ≡ Owner d → d.walk ≡ [] → d.hand ≡ None
    → IsAllowed n id v c 0 (λ _. 0) (λ found m. of_owner TookWhole v (v, c) found m)
takes_whole n id v c d is empty free = subst (λ v. IsAllowed n id v c 0 (λ _. 0) (λ found m. of_owner TookWhole v (v, c) found m)) (sym is)
    (λ s k deep at fits. at_ledger s k id d
    (λ j (b : Ledger). b.walk ≡ [] → b.hand ≡ None → Goes s 0 0 j c (λ found m. TookWhole b (Owner b, c) found m)) at
    (λ none_left no_hand. (
      Owner (took_whole k.listed k.ledger),
      keeps,
      tt,
      (took s k none_left no_hand).0,
      record { low = head_low s k; listed = k.listed; first = head_link s k; after = refl; slots = refl },
    )) empty free)

-- 8
pub walks : (n id : ℕ) (v : View) (c : Slots) (d : Ledger) (i t : ℕ) (left : List ℕ) → v ≡ Owner d → i ≡ suc t → d.walk ≡ t ∷ left → d.hand ≡ None
    → IsAllowed n id v c i (λ x. x) (λ found m. of_owner (WalkedOn t) v (v, c) found m)
walks n id v c d i t left is next first free =
    subst (λ v. IsAllowed n id v c i (λ x. x) (λ found m. of_owner (WalkedOn t) v (v, c) found m)) (sym is)
    (subst (λ i. IsAllowed n id (Owner d) c i (λ x. x) (λ found m. WalkedOn t d (Owner d, c) found m)) (sym next)
    (λ s k deep at fits. at_ledger s k id d
    (λ j (b : Ledger). b.walk ≡ t ∷ left → b.hand ≡ None → Goes s (suc t) (word_at s.words (suc t)) j c (λ found m. WalkedOn t b (Owner b, c) found m)) at
    (λ first' free'.
    let home = first_home k.ledger k.listed s.words s.homes s.views k.places t left first' in
    let link = next_link k.ledger k.listed s.words s.homes s.views k.places t left first' in (
      Owner (walked t left k.ledger),
      takes t (Some home.2.0),
      home.2.1,
      (walked_on s k t left first' free').0,
      record {
        low = next_low k.ledger k.listed s.words s.homes s.views k.places t left first';
        left = left;
        walk = first';
        first = link;
        after = refl;
        piece = home.2.0;
        slots = refl;
        is_lent = home.1 ∙ ap (λ y. Some (Some y)) (sym home.2.2);
      },
    )) first free))

-- 9
pub goes_home : (n id : ℕ) (v : View) (c : Slots) (d : Ledger) (i t : ℕ) (more : Slots) → v ≡ Owner d → i ≡ suc t → d.hand ≡ Some t → c ≡ (t, None) ∷ more
    → IsAllowed n id v c i (λ x. x) (λ found m. of_owner (λ b. go_home b.hand b) v (v, c) found m)
goes_home n id v c d i t more is next has holds =
    let mine : Slots = (t, None) ∷ more in
    subst (λ v. IsAllowed n id v c i (λ x. x) (λ found m. of_owner (λ b. go_home b.hand b) v (v, c) found m)) (sym is)
    (subst (λ i. IsAllowed n id (Owner d) c i (λ x. x) (λ found m. go_home d.hand d (Owner d, c) found m)) (sym next)
    (subst (λ c. IsAllowed n id (Owner d) c (suc t) (λ x. x) (λ found m. go_home d.hand d (Owner d, c) found m)) (sym holds)
    (λ s k deep at fits. at_ledger s k id d
    (λ j (b : Ledger). b.hand ≡ Some t → Goes s (suc t) (word_at s.words (suc t)) j mine (λ found m. go_home b.hand b (Owner b, mine) found m)) at
    (λ has'. (
      Owner (put_home t k.ledger),
      gives,
      tt,
      (came_home s k t has').0,
      subst (λ h. go_home h k.ledger (Owner k.ledger, mine) (word_at s.words (suc t)) (Owner (put_home t k.ledger), more)) (sym has') (refl, refl),
    )) has)))

-- 10
pub sees : (n id : ℕ) (v : View) (c : Slots) (d : Ledger) → v ≡ Owner d → d.walk ≡ [] → d.hand ≡ None
    → IsAllowed n id v c 0 (λ x. x) (λ found m. of_owner SawList v (v, c) found m)
sees n id v c d is empty free = subst (λ v. IsAllowed n id v c 0 (λ x. x) (λ found m. of_owner SawList v (v, c) found m)) (sym is)
    (λ s k deep at fits. at_ledger s k id d
    (λ j (b : Ledger). b.walk ≡ [] → b.hand ≡ None → Goes s 0 (head s) j c (λ found m. SawList b (Owner b, c) found m)) at
    (λ none_left no_hand. dite (ℕ_discrete (head s) 0)
    (λ none. (
      Owner (took_whole k.listed k.ledger),
      keeps,
      tt,
      (took_none s k none_left no_hand none).0,
      record {
        none = λ _. record { low = head_low s k; listed = k.listed; first = head_link s k; after = refl; slots = refl };
        some = λ other. absurd (other none);
      },
    ))
    (λ other. (
      Owner k.ledger,
      keeps,
      tt,
      (saw s k).0,
      record { none = λ none. absurd (other none); some = λ _. refl },
    ))) empty free)
