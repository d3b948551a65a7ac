-- Each step, from a table that keeps the rule, leads to one that does, and is one event of the core; the owner's walk is none, nor is its
-- look at a list on which there is a ticket.
use Rattle.std.proofs.Common.{◌≡◌, ◌≢◌, ℕ, suc, true, false, List, [], ◌∷◌, ◌++◌, set, replicate, map, Option, Some, None, slice_get, sym, refl, subst, arith, get_or-set_other, get_or-set_same}
use mathlib.Core.Option.{some, none}
use lib.ListN.{get_elem?}
use lib.Seq.{set-get_or}
use Rattle.layout.specs.Sizes as sizes
use Rattle.atomic_table.proofs.Lists.{set_again}
use Rattle.raw_range.specs.Memory.{Lent}
use Rattle.foreign_core.specs.Tickets.{step}
use Rattle.foreign_core.specs.declared.event.Event.{Event}
use Rattle.foreign_core.specs.declared.event.Event.TheVariants as event
use Rattle.foreign_list.specs.declared.piece_id.PieceId.{PieceId}
use Rattle.foreign_list.specs.declared.views.Holder.{Holder}
use Rattle.foreign_list.specs.declared.views.Ledger.{Ledger}
use Rattle.foreign_list.specs.declared.views.View.{View}
use Rattle.foreign_list.specs.declared.views.View.TheVariants.{Owner, Pass, Spent}
use Rattle.foreign_list.specs.declared.views.Stage.{Stage}
use Rattle.foreign_list.specs.declared.views.Stage.TheVariants.{Carry, Looked, Linked}
use Rattle.foreign_list.specs.Blocks.{piece_id_of}
use Rattle.foreign_list.specs.Laws.{head}
use Rattle.foreign_list.specs.inside.Words.{Table, Homes, word_at, link_to}
use Rattle.foreign_list.specs.inside.Views.{carry, at_stage, sent_back, lent_out, took_whole, walked, put_home, idle_ledger}
use Rattle.foreign_list.specs.inside.Places.{Places}
use Rattle.foreign_list.specs.inside.Changes.{Changes}
use Rattle.foreign_list.specs.inside.History.{Counted, Shows}
use Rattle.foreign_list.specs.inside.Rule.{IsConsistent}
use Rattle.foreign_list.proofs.HistorySteps as history
use Rattle.foreign_list.proofs.ChangeSteps as change
use Rattle.foreign_list.proofs.PassSteps.{first_look_kept, look_again_kept, link_kept, win_kept, lose_kept}
use Rattle.foreign_list.proofs.OwnerSteps as places
use Rattle.foreign_list.proofs.OwnerSteps.{lend_kept, take_kept, walk_kept, home_kept_idle}

-- a table, from its parts
abbrev pub made : List ℕ → Homes → List View → Table
made words homes views = record { words = words; homes = homes; views = views }

-- the event leads on to this table
abbrev pub LeadsTo : (s : Table) → IsConsistent s → Event → List ℕ → Homes → List View → Type 0
LeadsTo s k event words homes views = (k' : IsConsistent (made words homes views)) × (step k.history.tickets event ≡ Some k'.history.tickets)

-- a word that is only read
abbrev read : (words : List ℕ) (i : ℕ) (homes : Homes) (views : List View) → IsConsistent (made words homes views)
    → IsConsistent (made (set words i (word_at words i)) homes views)
read words i homes views k = record {
  ledger = k.ledger;
  listed = k.listed;
  places = subst (λ ws. Places k.ledger k.listed ws homes views) (sym (set-get_or words i 0)) k.places;
  changes = subst (λ ws. Changes (word_at ws 0) views) (sym (set-get_or words i 0)) k.changes;
  history = k.history;
}

-- the table that is made
pub begins : IsConsistent (made (replicate sizes.list_words 0) (map (λ (x : Option Lent). some x) (replicate sizes.tickets None)) (Owner idle_ledger ∷ []))
begins = record { ledger = idle_ledger; listed = []; places = places.begins; changes = change.begins; history = history.begins }

module _ (s : Table) (k : IsConsistent s) where
  module _ (id : ℕ) (e : Holder) (at : get_elem? s.views id ≡ some (Pass e)) where
    abbrev pass_at : Stage → List View
    pass_at stage = set s.views id (Pass (at_stage e stage))

    pub looked_first : e.stage ≡ Carry → e.has_slot ≡ false
        → LeadsTo s k (event.Look e.ticket) (set s.words 0 (head s)) (set s.homes e.ticket none) (pass_at (Looked (head s)))
    looked_first stage no_slot = let n = history.looked k.ledger k.listed s.words s.homes s.views k.places k.history id e at stage in (
      read s.words 0 (set s.homes e.ticket none) (pass_at (Looked (head s))) record {
        ledger = k.ledger;
        listed = k.listed;
        places = first_look_kept k.ledger k.listed s.words s.homes s.views id e k.places at (head s) stage no_slot;
        changes = change.looks (head s) s.views id e k.changes at;
        history = n.history;
      },
      n.step_is,
    )

    pub looked_again : e.stage ≡ Carry → e.has_slot ≡ true
        → LeadsTo s k (event.Look e.ticket) (set s.words 0 (head s)) s.homes (pass_at (Looked (head s)))
    looked_again stage slot = let n = history.looked k.ledger k.listed s.words s.homes s.views k.places k.history id e at stage in (
      read s.words 0 s.homes (pass_at (Looked (head s))) record {
        ledger = k.ledger;
        listed = k.listed;
        places = look_again_kept k.ledger k.listed s.words s.homes s.views id e k.places at (head s) stage slot;
        changes = change.looks (head s) s.views id e k.changes at;
        history = n.history;
      },
      n.step_is,
    )

    pub linked : (x : ℕ) → e.stage ≡ Looked x → LeadsTo s k (event.Link e.ticket) (set s.words (suc e.ticket) x) s.homes (pass_at (Linked x))
    linked x stage = let n = history.linked k.ledger k.listed s.words s.homes s.views k.places k.history id e at x stage in
        let same_head : word_at (set s.words (suc e.ticket) x) 0 ≡ head s =
        get_or-set_other s.words (suc e.ticket) 0 x 0 (λ (z : 0 ≡ suc e.ticket). absurd (omega arith)) in (
          record {
            ledger = k.ledger;
            listed = k.listed;
            places = link_kept k.ledger k.listed s.words s.homes s.views id e k.places at x stage;
            changes = subst (λ h. Changes h (pass_at (Linked x))) (sym same_head) (change.links (head s) s.views id e x k.changes at stage);
            history = n.history;
          },
          n.step_is,
        )

    pub won : (x : ℕ) (piece : Lent) → e.stage ≡ Linked x → head s ≡ x → piece_id_of piece ≡ e.piece_id
        → LeadsTo s k (event.Swing e.ticket) (set s.words 0 (suc e.ticket)) (set s.homes e.ticket (some (Some piece))) (set s.views id Spent)
    won x piece stage hit is = let n = history.won k.ledger k.listed s.words s.homes s.views k.places k.history id e at x stage hit in (
      record {
        ledger = k.ledger;
        listed = e.ticket ∷ k.listed;
        places = win_kept k.ledger k.listed s.words s.homes s.views id e k.places at x piece stage hit is;
        changes = change.wins (head s) (word_at (set s.words 0 (suc e.ticket)) 0) s.views id e k.changes at;
        history = n.history;
      },
      n.step_is,
    )

    pub lost : (x : ℕ) → e.stage ≡ Linked x → head s ≢ x
        → LeadsTo s k (event.Swing e.ticket) (set s.words 0 (head s)) s.homes (set s.views id (Pass (sent_back e (head s))))
    lost x stage miss = let n = history.lost k.ledger k.listed s.words s.homes s.views k.places k.history id e at x stage miss in (
      read s.words 0 s.homes (set s.views id (Pass (sent_back e (head s)))) record {
        ledger = k.ledger;
        listed = k.listed;
        places = lose_kept k.ledger k.listed s.words s.homes s.views id e k.places at x (head s) stage;
        changes = change.loses (head s) s.views id e x k.changes at stage miss;
        history = n.history;
      },
      n.step_is,
    )

  abbrev owner_at : Ledger → List View
  owner_at ledger = set s.views 0 (Owner ledger)

  pub lent : (t : ℕ) (piece_id : PieceId) → slice_get k.ledger.lent t ≡ Some None
      → LeadsTo s k (event.Lend t) s.words s.homes (owner_at (lent_out t piece_id k.ledger) ++ Pass (carry t piece_id) ∷ [])
  lent t piece_id idle = let n = history.lent k.ledger k.listed s.words s.homes s.views k.places k.history t piece_id idle in (
    record {
      ledger = lent_out t piece_id k.ledger;
      listed = k.listed;
      places = lend_kept k.ledger k.listed s.words s.homes s.views k.places t piece_id idle;
      changes = change.lends (head s) s.views 0 k.ledger t piece_id k.changes k.places.is_ledger;
      history = n.history;
    },
    n.step_is,
  )

  pub head_link : head s ≡ link_to k.listed
  head_link = places.list_link k.ledger k.listed s.words s.homes s.views k.places

  pub took : k.ledger.walk ≡ [] → k.ledger.hand ≡ None
      → LeadsTo s k event.TakeWhole (set s.words 0 0) s.homes (owner_at (took_whole k.listed k.ledger))
  took empty free = let n = history.took k.ledger k.listed s.words s.homes s.views k.places k.history empty free in
      let no_head : word_at (set s.words 0 0) 0 ≡ 0 = get_or-set_same s.words 0 0 0 (let m = k.places.word_count in omega arith) in (
        record {
          ledger = took_whole k.listed k.ledger;
          listed = [];
          places = take_kept k.ledger k.listed s.words s.homes s.views k.places empty;
          changes = subst (λ h. Changes h (owner_at (took_whole k.listed k.ledger))) (sym no_head)
              (change.takes_whole (head s) s.views 0 k.ledger k.listed head_link k.changes k.places.is_ledger);
          history = n.history;
        },
        n.step_is,
      )

  -- a look at the head finds none
  pub took_none : k.ledger.walk ≡ [] → k.ledger.hand ≡ None → head s ≡ 0
      → LeadsTo s k event.TakeWhole (set s.words 0 (head s)) s.homes (owner_at (took_whole k.listed k.ledger))
  took_none empty free bare =
      subst (λ x. LeadsTo s k event.TakeWhole (set s.words 0 x) s.homes (owner_at (took_whole k.listed k.ledger))) (sym bare) (took empty free)

  -- a look at the head, by which nothing changes
  pub saw : (k' : IsConsistent (made (set s.words 0 (head s)) s.homes (owner_at k.ledger))) × (k'.history.tickets ≡ k.history.tickets)
  saw = let again : owner_at k.ledger ≡ s.views = set_again s.views 0 (Owner k.ledger) k.places.is_ledger in (
    read s.words 0 s.homes (owner_at k.ledger) record {
      ledger = k.ledger;
      listed = k.listed;
      places = subst (λ (vs : List View). Places k.ledger k.listed s.words s.homes vs) (sym again) k.places;
      changes = subst (λ (vs : List View). Changes (head s) vs) (sym again) k.changes;
      history = record {
        tickets = k.history.tickets;
        shows = subst (λ (vs : List View). Shows k.ledger k.listed vs k.history.tickets) (sym again) k.history.shows;
        events = k.history.events;
        ran = k.history.ran;
        counted = subst (λ (vs : List View). Counted k.ledger vs k.history.tickets k.history.events) (sym again) k.history.counted;
      };
    },
    refl,
  )

  pub walked_on : (t : ℕ) (left : List ℕ) → k.ledger.walk ≡ t ∷ left → k.ledger.hand ≡ None
      → (k' : IsConsistent (made (set s.words (suc t) (word_at s.words (suc t))) (set s.homes t none) (owner_at (walked t left k.ledger))))
      × (k'.history.tickets ≡ k.history.tickets)
  walked_on t left is free = let n = history.walked_on k.ledger k.listed s.words s.homes s.views k.places k.history t left free is in (
    read s.words (suc t) (set s.homes t none) (owner_at (walked t left k.ledger)) record {
      ledger = walked t left k.ledger;
      listed = k.listed;
      places = walk_kept k.ledger k.listed s.words s.homes s.views k.places t left is free;
      changes = change.walks (head s) s.views 0 k.ledger (walked t left k.ledger) k.changes k.places.is_ledger refl refl;
      history = n.history;
    },
    n.step_is,
  )

  pub came_home : (t : ℕ) → k.ledger.hand ≡ Some t
      → LeadsTo s k event.Back (set s.words (suc t) (word_at s.words (suc t))) (set s.homes t (some None)) (owner_at (put_home t k.ledger))
  came_home t has = let n = history.came_home k.ledger k.listed s.words s.homes s.views k.places k.history t has in (
    read s.words (suc t) (set s.homes t (some None)) (owner_at (put_home t k.ledger)) record {
      ledger = put_home t k.ledger;
      listed = k.listed;
      places = home_kept_idle k.ledger k.listed s.words s.homes s.views k.places t has;
      changes = change.walks (head s) s.views 0 k.ledger (put_home t k.ledger) k.changes k.places.is_ledger refl refl;
      history = n.history;
    },
    n.step_is,
  )
