use Rattle.std.proofs.Common.{◌≡◌, ℕ, suc, List, [], ◌∷◌, Some, None, slice_get, sym, subst}
use mathlib.Core.Logic.{dite}
use Rattle.layout.specs.Sizes as sizes
use native.Mathlib.Decide.{ℕ_discrete}
use Rattle.atomic_table.specs.Table.{stepped, keeps, takes, gives}
use Rattle.foreign_core.specs.Tickets.{step}
use Rattle.foreign_core.specs.declared.event.Event.{Event}
use Rattle.foreign_core.specs.declared.event.Event.TheVariants as event
use Rattle.foreign_list.specs.declared.views.Holder.{Holder}
use Rattle.foreign_list.specs.declared.views.Ledger.{Ledger}
use Rattle.foreign_list.specs.declared.views.View.TheVariants.{Owner, Pass}
use Rattle.foreign_list.specs.Laws.{head, listed_in}
use Rattle.foreign_list.specs.Laws as laws
use Rattle.foreign_list.specs.inside.Words.{Table, word_at, link_to, chain}
use Rattle.foreign_list.specs.inside.Views.{took_whole, walked, put_home}
use Rattle.foreign_list.specs.inside.History.{Shows}
use Rattle.foreign_list.specs.inside.Rule.{IsConsistent}
use Rattle.foreign_list.proofs.Chains.{chain_is}
use Rattle.foreign_list.proofs.Bounds.{list_short, walk_short}
use Rattle.foreign_list.proofs.Once.{passes_apart}
use Rattle.foreign_list.proofs.Rules.{owner_ledger}
use Rattle.foreign_list.proofs.TableSteps.{looked_first, looked_again, linked, won, lost, lent, took, took_none, saw, walked_on, came_home}
use Rattle.foreign_list.proofs.law.law_of_the_list.Goals as goal

-- the chain from the head, as the words give it
on_list : (s : Table) (k : IsConsistent s) → listed_in s ≡ k.listed
on_list s k = chain_is sizes.tickets s.words (word_at s.words 0) k.listed (list_short k.ledger k.listed s.views k.places.once) k.places.on_list

on_walk : (s : Table) (k : IsConsistent s) → chain sizes.tickets s.words (link_to k.ledger.walk) ≡ k.ledger.walk
on_walk s k = chain_is sizes.tickets s.words (link_to k.ledger.walk) k.ledger.walk (walk_short k.ledger k.listed s.views k.places.once) k.places.on_walk

one_pass : (s : Table) (k : IsConsistent s) (i j : ℕ) (e f : Holder) → laws.Has s i (Pass e) → laws.Has s j (Pass f) → e.ticket ≡ f.ticket → i ≡ j
one_pass s k i j e f at_e at_f same = dite (ℕ_discrete i j) (λ here. here)
    (λ n. absurd (passes_apart k.ledger k.listed s.views k.places.once i j e f at_e at_f (λ eq. n (sym eq)) (sym same)))

abbrev Led : (s : Table) → IsConsistent s → Event → Table → Type 0
Led s k event s' = (k' : IsConsistent s') × (step k.history.tickets event ≡ Some k'.history.tickets)

each_step : laws.EachStepIsOneEvent
each_step = record {
  lend = λ s d t piece_id at idle k.
      subst (λ (b : Ledger). slice_get b.lent t ≡ Some None → Led s k (event.Lend t) (laws.split_off s t piece_id b)) (owner_ledger s k d at) (lent s k t piece_id) idle;
  look_first = λ s id c e at stage no_slot k. looked_first s k id e at stage no_slot;
  look_again = λ s id c e at stage slot k. looked_again s k id e at stage slot;
  link = λ s id c e x at stage k. linked s k id e at x stage;
  win = λ s id more e x piece at stage hit is k. won s k id e at x piece stage hit is;
  lose = λ s id c e x at stage miss k. lost s k id e at x stage miss;
  take = λ s c d at empty free k. subst
      (λ (b : Ledger). b.walk ≡ [] → b.hand ≡ None → Led s k event.TakeWhole (stepped s 0 0 0 c (Owner (took_whole (listed_in s) b)) keeps))
      (owner_ledger s k d at)
      (λ none_left no_hand. subst (λ (ts : List ℕ). Led s k event.TakeWhole (stepped s 0 0 0 c (Owner (took_whole ts k.ledger)) keeps)) (sym (on_list s k))
      (took s k none_left no_hand)) empty free;
  take_none = λ s c d at empty free none k. subst
      (λ (b : Ledger). b.walk ≡ [] → b.hand ≡ None → Led s k event.TakeWhole (stepped s 0 (head s) 0 c (Owner (took_whole (listed_in s) b)) keeps))
      (owner_ledger s k d at)
      (λ none_left no_hand. subst (λ (ts : List ℕ). Led s k event.TakeWhole (stepped s 0 (head s) 0 c (Owner (took_whole ts k.ledger)) keeps)) (sym (on_list s k))
      (took_none s k none_left no_hand none)) empty free;
  see = λ s c d at other k. subst
      (λ (b : Ledger). (k' : IsConsistent (stepped s 0 (head s) 0 c (Owner b) keeps)) × (k'.history.tickets ≡ k.history.tickets))
      (owner_ledger s k d at) (saw s k);
  walk = λ s c d t left piece at first free k. subst
      (λ (b : Ledger). b.walk ≡ t ∷ left → b.hand ≡ None
      → (k' : IsConsistent (stepped s (suc t) (word_at s.words (suc t)) 0 c (Owner (walked t left b)) (takes t (Some piece)))) × (k'.history.tickets ≡ k.history.tickets))
      (owner_ledger s k d at) (walked_on s k t left) first free;
  back = λ s more d t at has k. subst
      (λ (b : Ledger). b.hand ≡ Some t → Led s k event.Back (stepped s (suc t) (word_at s.words (suc t)) 0 ((t, None) ∷ more) (Owner (put_home t b)) gives))
      (owner_ledger s k d at) (came_home s k t) has;
}

pub returns : goal.returns
returns c = record {
  shows = λ s k. (
    k.history.tickets,
    record {
      ledger = k.ledger;
      is_ledger = k.places.is_ledger;
      walk_is = on_walk s k;
      shows = subst (λ (ts : List ℕ). Shows k.ledger ts s.views k.history.tickets) (sym (on_list s k)) k.history.shows;
      events = k.history.events;
      ran = k.history.ran;
      counted = k.history.counted;
      one_pass = λ i j e f at_e at_f same. one_pass s k i j e f at_e at_f same;
      is_lent = λ id e at. (k.places.each_view id (Pass e) at).recorded;
      one_state = c.law_of_histories.ensures.one_state sizes.tickets k.history.events k.history.tickets k.history.ran;
    },
  );
  events = each_step;
}
