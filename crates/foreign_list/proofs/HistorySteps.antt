-- Each step of the table is one event of the core, and the owner's walk is none.
use Rattle.std.proofs.Common.{◌≡◌, ◌≢◌, ℕ, zero, suc, ◌+◌, ◌<◌, Bool, true, false, cond, nat_eq, List, [], ◌∷◌, ◌++◌, length, map, set, replicate, Option, Some, None, slice_get, sum_by, sym, refl, ap, ◌∙◌, subst, arith, length-set, ⊎_elim, eq-eqb, ne_eqb}
use mathlib.Core.Option.{some, some-injective, some-ne-none}
use mathlib.Core.Logic.{dite}
use Rattle.layout.specs.Sizes as sizes
use native.Mathlib.Decide.{ℕ_discrete}
use lib.ListN.{get_elem?}
use Rattle.std.specs.Option.{option_eq, option_and_then}
use Rattle.std.specs.Prelude.{option_map}
use Rattle.std.proofs.lemmas.Option.{slice_get_within, slice_get-map}
use Rattle.std.proofs.lemmas.List.{length-map}
use Rattle.atomic_table.proofs.Lists.{at_set, at_snoc}
use Rattle.foreign_core.specs.Tickets.{Tickets, state_of, head_of, becomes, listed_first, taken, lend, look, link, swing, take_whole, back, step}
use Rattle.foreign_core.specs.Tickets as tickets
use Rattle.foreign_core.specs.Histories.{run}
use Rattle.foreign_core.specs.declared.event.Event.{Event}
use Rattle.foreign_core.specs.declared.event.Event.TheVariants as event
use Rattle.foreign_core.specs.declared.ticket_state.TicketState.{TicketState}
use Rattle.foreign_core.specs.declared.ticket_state.TicketState.TheVariants as core
use Rattle.foreign_list.specs.declared.piece_id.PieceId.{PieceId}
use Rattle.foreign_list.specs.declared.views.Holder.{Holder}
use Rattle.foreign_list.specs.declared.views.Ledger.{Ledger}
use Rattle.foreign_list.specs.declared.views.View.{View}
use Rattle.foreign_list.specs.declared.views.View.TheVariants.{Owner, Pass, Spent}
use Rattle.foreign_list.specs.declared.views.Stage.{Stage}
use Rattle.foreign_list.specs.declared.views.Stage.TheVariants.{Carry, Looked, Linked}
use Rattle.foreign_list.specs.inside.Words.{Homes, word_at, IsChain, same, times, ticket_of}
use Rattle.foreign_list.specs.inside.Views.{none_there, idle_times, hand_times, pass_times, owner_in, carry, at_stage, sent_back, lent_out, took_whole, walked, put_home, idle_ledger, holder_of, spent_in}
use Rattle.foreign_list.specs.inside.Places.{Places}
use Rattle.foreign_list.specs.inside.History.{shown, in_hand, Shows, History, NextHistory, SameHistory, Counted, lend_in, take_whole_in, back_in}
use Rattle.foreign_list.proofs.Counts.{sum_at, sum_set, sum_snoc}
use Rattle.foreign_list.proofs.Chains.{same_here, same_not}
use Rattle.foreign_list.proofs.Once.{most, pass_alone, passes_apart, no_pass, below}
use Rattle.foreign_list.proofs.OwnerSteps.{record_here, record_else}

-- one event more
run_on : (s c c' : Tickets) (events : List Event) (e : Event) → run s events ≡ Some c → step c e ≡ Some c' → run s (events ++ e ∷ []) ≡ Some c'
run_on s c c' [] e ran goes = let same_c : s ≡ c = cc ran in subst (λ (b : Tickets). option_and_then (λ next. Some next) (step b e) ≡ Some c') (sym same_c) (ap (option_and_then (λ next. Some next)) goes)
run_on s c c' (x ∷ events) e ran goes = go (step s x) refl (λ n is. run_on n c c' events e (ap (option_and_then (λ next. run next events)) (sym is) ∙ ran) goes)
  where
    go : (o : Option Tickets) → step s x ≡ o → ((n : Tickets) → step s x ≡ Some n → run n (events ++ e ∷ []) ≡ Some c') → run s ((x ∷ events) ++ e ∷ []) ≡ Some c'
    go None is rest = let none : None ≡ Some c = ap (option_and_then (λ next. run next events)) (sym is) ∙ ran in cc none
    go (Some n) is rest = ap (option_and_then (λ next. run next (events ++ e ∷ []))) is ∙ rest n is

-- what an event adds to the counts
record Grows (ledger ledger' : Ledger) (views views' : List View) (c c' : Tickets) (e : Event) : Type 0 where
  lends : ledger'.lends ≡ ledger.lends + lend_in e
  take_wholes : ledger'.take_wholes ≡ ledger.take_wholes + take_whole_in e
  spent : sum_by spent_in views' + (length c.listed + length c.walk) ≡ sum_by spent_in views + (length c'.listed + length c'.walk + back_in e)

count_on : (ledger ledger' : Ledger) (views views' : List View) (c c' : Tickets) (events : List Event) (e : Event)
    → Counted ledger views c events → Grows ledger ledger' views views' c c' e → Counted ledger' views' c' (events ++ e ∷ [])
count_on ledger ledger' views views' c c' events e n g =
    let a = sum_snoc lend_in events e in let b = sum_snoc take_whole_in events e in let d = sum_snoc back_in events e in
    let p = n.lends in let q = n.take_wholes in let r = n.spent in let u = g.lends in let v = g.take_wholes in let w = g.spent in
    record { lends = omega arith; take_wholes = omega arith; spent = omega arith }

-- the history goes on by an event
next : (ledger ledger' : Ledger) (listed listed' : List ℕ) (views views' : List View) (hist : History ledger listed views) (e : Event) (c' : Tickets)
    → step hist.tickets e ≡ Some c' → Shows ledger' listed' views' c' → Grows ledger ledger' views views' hist.tickets c' e
    → NextHistory hist.tickets e ledger' listed' views'
next ledger ledger' listed listed' views views' hist e c' goes shows grows = record {
  history = record {
    tickets = c';
    shows = shows;
    events = hist.events ++ e ∷ [];
    ran = run_on (tickets.start sizes.tickets) hist.tickets c' hist.events e hist.ran goes;
    counted = count_on ledger ledger' views views' hist.tickets c' hist.events e hist.counted grows;
  };
  step_is = goes;
}

-- the head, as a word and as a ticket
head_ticket : (words : List ℕ) (word : ℕ) (ts : List ℕ) → IsChain words word ts → slice_get ts 0 ≡ ticket_of word
head_ticket words word [] c = ap ticket_of (sym c)
head_ticket words word (t ∷ ts) c = ap ticket_of (sym c.0)

ticket_eq : (a b : ℕ) → a ≡ b → option_eq nat_eq (ticket_of a) (ticket_of b) ≡ true
ticket_eq a b e = ap (λ k. option_eq nat_eq (ticket_of a) (ticket_of k)) (sym e) ∙ self a
  where
    self : (k : ℕ) → option_eq nat_eq (ticket_of k) (ticket_of k) ≡ true
    self zero = refl
    self (suc k) = eq-eqb k k refl

ticket_ne : (a b : ℕ) → a ≢ b → option_eq nat_eq (ticket_of a) (ticket_of b) ≡ false
ticket_ne zero zero n = absurd (n refl)
ticket_ne zero (suc b) n = refl
ticket_ne (suc a) zero n = refl
ticket_ne (suc a) (suc b) n = ne_eqb a b (λ e. n (ap suc e))

taken_shown : (stage : Stage) → taken (shown stage) ≡ shown stage
taken_shown Carry = refl
taken_shown (Looked x) = refl
taken_shown (Linked x) = refl

not_owner : (d : Ledger) (e : Holder) → Owner d ≢ Pass e
not_owner d e w = let one : owner_in (Owner d) ≡ owner_in (Pass e) = ap owner_in w in absurd (omega arith)

module _ (ledger : Ledger) (listed words : List ℕ) (homes : Homes) (views : List View) (r : Places ledger listed words homes views) (hist : History ledger listed views) where
  abbrev c : Tickets
  c = hist.tickets

  abbrev sh : Shows ledger listed views hist.tickets
  sh = hist.shows

  on_walk_times : (t : ℕ) → times t c.walk ≡ hand_times t ledger.hand + times t ledger.walk
  on_walk_times t = ap (times t) sh.walk_is ∙ go ledger.hand
    where
      go : (h : Option ℕ) → times t (in_hand h ++ ledger.walk) ≡ hand_times t h + times t ledger.walk
      go None = omega arith
      go (Some u) = omega arith

  module _ (id : ℕ) (e : Holder) (at : get_elem? views id ≡ some (Pass e)) where
    abbrev t : ℕ
    t = e.ticket

    low : t < length c.states
    low = let a = sum_at (pass_times t) views id (Pass e) at in let s = same_here t in let b = below ledger listed views r.once t (omega arith) in let n = sh.number in omega arith

    -- the pass is at another stage
    moved : (f : Holder) → f.ticket ≡ t → (s : TicketState) → s ≡ shown f.stage → Shows ledger listed (set views id (Pass f)) (becomes c t s)
    moved f same_t s is = let alone = pass_alone ledger listed views r.once id e at in record {
      number = length-set c.states t s ∙ sh.number;
      listed_are = sh.listed_are;
      walk_is = sh.walk_is;
      idle = λ u h. record_else c.states t u s (λ eq. let one : idle_times t ledger.lent ≡ 1 = ap (λ k. idle_times k ledger.lent) (sym eq) ∙ ap none_there h in let z = alone.0 in absurd (omega arith)) ∙ sh.idle u h;
      passes = λ j g h. ⊎_elim
          (λ (x : (j ≡ id) × (Pass f ≡ Pass g)). let same_g : f ≡ g = ap holder_of x.1 in
          subst (λ (k : Holder). slice_get (set c.states t s) k.ticket ≡ Some (shown k.stage)) same_g (ap (slice_get (set c.states t s)) same_t ∙ (record_here c.states t s low ∙ ap Some is)))
          (λ (x : (j ≢ id) × (get_elem? views j ≡ some (Pass g))). record_else c.states t g.ticket s (passes_apart ledger listed views r.once id j e g at x.1 x.0) ∙ sh.passes j g x.1)
          (at_set views id j (Pass f) (Pass g) h);
      on_list = λ u p. record_else c.states t u s (λ eq. let z : times u listed ≡ 0 = ap (λ k. times k listed) eq ∙ alone.3 in absurd (omega arith)) ∙ sh.on_list u p;
      on_walk = λ u p. record_else c.states t u s (λ eq. let z : times u c.walk ≡ times t c.walk = ap (λ k. times k c.walk) eq in let w = on_walk_times t in let h = alone.1 in let k = alone.2 in absurd (omega arith)) ∙ sh.on_walk u p;
    }

    -- the head of the core is the ticket that the head names
    head_is : head_of c ≡ ticket_of (word_at words 0)
    head_is = ap (λ l. slice_get l 0) sh.listed_are ∙ head_ticket words (word_at words 0) listed r.on_list

    state_is : (stage : Stage) → e.stage ≡ stage → state_of c t ≡ Some (shown stage)
    state_is stage is = sh.passes id e at ∙ ap (λ k. Some (shown k)) is

    -- the pass goes on by an event, to another stage
    goes_on : (event : Event) → (lend_in event ≡ 0) × (take_whole_in event ≡ 0) × (back_in event ≡ 0) → (f : Holder) → f.ticket ≡ t
        → (s : TicketState) → s ≡ shown f.stage → step c event ≡ Some (becomes c t s) → NextHistory c event ledger listed (set views id (Pass f))
    goes_on event none f same_t s is goes =
        let a = sum_set spent_in views id (Pass e) (Pass f) at in let x = none.0 in let y = none.1 in let z = none.2 in
        next ledger ledger listed listed views (set views id (Pass f)) hist event (becomes c t s) goes (moved f same_t s is)
        record { lends = omega arith; take_wholes = omega arith; spent = omega arith }

    pub looked : e.stage ≡ Carry → NextHistory c (event.Look t) ledger listed (set views id (Pass (at_stage e (Looked (word_at words 0)))))
    looked is = goes_on (event.Look t) (refl, refl, refl) (at_stage e (Looked (word_at words 0))) refl (core.Looked (head_of c)) (ap core.Looked head_is) (ap (look c t) (state_is Carry is))

    pub linked : (word : ℕ) → e.stage ≡ Looked word → NextHistory c (event.Link t) ledger listed (set views id (Pass (at_stage e (Linked word))))
    linked word is = goes_on (event.Link t) (refl, refl, refl) (at_stage e (Linked word)) refl (core.Linked (ticket_of word)) refl (ap (link c t) (state_is (Looked word) is))

    -- what a swing makes of the core, by whether it finds the head that it expects
    swings : (word : ℕ) (b : Bool) → e.stage ≡ Linked word → option_eq nat_eq (head_of c) (ticket_of word) ≡ b
        → step c (event.Swing t) ≡ Some (cond b (listed_first c t) (becomes c t core.Carried))
    swings word b is test = ap (swing c t) (state_is (Linked word) is) ∙ ap (λ b. Some (cond b (listed_first c t) (becomes c t core.Carried))) test

    pub lost : (word : ℕ) → e.stage ≡ Linked word → word_at words 0 ≢ word
        → NextHistory c (event.Swing t) ledger listed (set views id (Pass (sent_back e (word_at words 0))))
    lost word is miss = goes_on (event.Swing t) (refl, refl, refl) (sent_back e (word_at words 0)) refl core.Carried refl
        (swings word false is (ap (λ h. option_eq nat_eq h (ticket_of word)) head_is ∙ ticket_ne (word_at words 0) word miss))

    pub won : (word : ℕ) → e.stage ≡ Linked word → word_at words 0 ≡ word → NextHistory c (event.Swing t) ledger (t ∷ listed) (set views id Spent)
    won word is hit = let alone = pass_alone ledger listed views r.once id e at in let a = sum_set spent_in views id (Pass e) Spent at in
        next ledger ledger listed (t ∷ listed) views (set views id Spent) hist (event.Swing t) (listed_first c t)
        (swings word true is (ap (λ h. option_eq nat_eq h (ticket_of word)) head_is ∙ ticket_eq (word_at words 0) word hit)) (record {
          number = length-set c.states t core.Listed ∙ sh.number;
          listed_are = ap (λ l. t ∷ l) sh.listed_are;
          walk_is = sh.walk_is;
          idle = λ u h. record_else c.states t u core.Listed (λ eq. let one : idle_times t ledger.lent ≡ 1 = ap (λ k. idle_times k ledger.lent) (sym eq) ∙ ap none_there h in let z = alone.0 in absurd (omega arith)) ∙ sh.idle u h;
          passes = λ j g h. ⊎_elim
              (λ (x : (j ≡ id) × (Spent ≡ Pass g)). cc x.1)
              (λ (x : (j ≢ id) × (get_elem? views j ≡ some (Pass g))). record_else c.states t g.ticket core.Listed (passes_apart ledger listed views r.once id j e g at x.1 x.0) ∙ sh.passes j g x.1)
              (at_set views id j Spent (Pass g) h);
          on_list = λ u p. dite (ℕ_discrete u t) (λ eq. ap (slice_get (set c.states t core.Listed)) eq ∙ record_here c.states t core.Listed low)
              (λ n. record_else c.states t u core.Listed n ∙ sh.on_list u (let z = same_not u t n in omega arith));
          on_walk = λ u p. record_else c.states t u core.Listed (λ eq. let z : times u c.walk ≡ times t c.walk = ap (λ k. times k c.walk) eq in let w = on_walk_times t in let h = alone.1 in let k = alone.2 in absurd (omega arith)) ∙ sh.on_walk u p;
        }) record { lends = omega arith; take_wholes = omega arith; spent = omega arith }

  -- the owner lends an idle ticket
  pub lent : (t : ℕ) (piece_id : PieceId) → slice_get ledger.lent t ≡ Some None → NextHistory c (event.Lend t) (lent_out t piece_id ledger) listed (set views 0 (Owner (lent_out t piece_id ledger)) ++ Pass (carry t piece_id) ∷ [])
  lent t piece_id is =
      let w : View = Owner (lent_out t piece_id ledger) in let x : View = Pass (carry t piece_id) in let vs : List View = set views 0 w in
      let within : t < length ledger.lent = slice_get_within ledger.lent t None is in let idle_one : idle_times t ledger.lent ≡ 1 = ap none_there is in
      let m = most ledger listed views r.once t in let n = sh.number in let q = r.lent_count in let low : t < length c.states = omega arith in
      let state : state_of c t ≡ Some core.Idle = sh.idle t is in
      let other : (u : ℕ) → u ≢ t → slice_get (set c.states t core.Carried) u ≡ slice_get c.states u = λ u d. record_else c.states t u core.Carried d in
      let a = sum_set spent_in views 0 (Owner ledger) w r.is_ledger in let b = sum_snoc spent_in vs x in
      next ledger (lent_out t piece_id ledger) listed listed views (vs ++ x ∷ []) hist (event.Lend t) (becomes c t core.Carried) (ap (lend c t) state) (record {
        number = length-set c.states t core.Carried ∙ sh.number;
        listed_are = sh.listed_are;
        walk_is = sh.walk_is;
        idle = λ u h. dite (ℕ_discrete u t)
            (λ eq. let some_there : Some None ≡ Some (Some piece_id) = sym h ∙ ap (slice_get (set ledger.lent t (Some piece_id))) eq ∙ record_here ledger.lent t (Some piece_id) within in cc some_there)
            (λ d. other u d ∙ sh.idle u (sym (record_else ledger.lent t u (Some piece_id) d) ∙ h));
        passes = λ j g h. ⊎_elim
            (λ (y : get_elem? vs j ≡ some (Pass g)). ⊎_elim (λ (z : (j ≡ 0) × (w ≡ Pass g)). absurd (not_owner (lent_out t piece_id ledger) g z.1))
            (λ (z : (j ≢ 0) × (get_elem? views j ≡ some (Pass g))). other g.ticket (no_pass ledger listed views r.once t (omega arith) j g z.1) ∙ sh.passes j g z.1) (at_set views 0 j w (Pass g) y))
            (λ (y : x ≡ Pass g). let same_g : carry t piece_id ≡ g = ap holder_of y in
            subst (λ (k : Holder). slice_get (set c.states t core.Carried) k.ticket ≡ Some (shown k.stage)) same_g (record_here c.states t core.Carried low))
            (at_snoc vs x (Pass g) j h);
        on_list = λ u p. other u (λ eq. let z : times u listed ≡ times t listed = ap (λ k. times k listed) eq in absurd (omega arith)) ∙ sh.on_list u p;
        on_walk = λ u p. other u (λ eq. let z : times u c.walk ≡ times t c.walk = ap (λ k. times k c.walk) eq in let b = on_walk_times t in absurd (omega arith)) ∙ sh.on_walk u p;
      }) record { lends = omega arith; take_wholes = omega arith; spent = omega arith }

  -- the passes that are there are those that were
  same_passes : (d : Ledger) (j : ℕ) (g : Holder) → get_elem? (set views 0 (Owner d)) j ≡ some (Pass g) → get_elem? views j ≡ some (Pass g)
  same_passes d j g h = ⊎_elim (λ (z : (j ≡ 0) × (Owner d ≡ Pass g)). absurd (not_owner d g z.1)) (λ (z : (j ≢ 0) × (get_elem? views j ≡ some (Pass g))). z.1) (at_set views 0 j (Owner d) (Pass g) h)

  -- the owner's view is never spent
  owner_spent : (d : Ledger) → sum_by spent_in (set views 0 (Owner d)) ≡ sum_by spent_in views
  owner_spent d = let a = sum_set spent_in views 0 (Owner ledger) (Owner d) r.is_ledger in omega arith

  -- the list becomes the walk
  pub took : ledger.walk ≡ [] → ledger.hand ≡ None
      → NextHistory c event.TakeWhole (took_whole listed ledger) [] (set views 0 (Owner (took_whole listed ledger)))
  took empty free =
      let d : Ledger = took_whole listed ledger in let after : Tickets = record { states = map taken c.states; listed = []; walk = c.listed } in
      let no_walk : c.walk ≡ [] = sh.walk_is ∙ ap (λ h. in_hand h ++ ledger.walk) free ∙ empty in
      let at_map : (u : ℕ) (s : TicketState) → state_of c u ≡ Some s → slice_get (map taken c.states) u ≡ Some (taken s) =
      λ u s h. slice_get-map taken c.states u ∙ ap (option_map taken) h in
      let s = owner_spent d in let z : length c.walk ≡ 0 = ap length no_walk in
      next ledger d listed [] views (set views 0 (Owner d)) hist event.TakeWhole after (ap (take_whole c) no_walk) (record {
        number = length-map c.states taken ∙ sh.number;
        listed_are = refl;
        walk_is = sh.listed_are ∙ ap (λ h. in_hand h ++ listed) (sym free);
        idle = λ u h. at_map u core.Idle (sh.idle u h);
        passes = λ j g h. at_map g.ticket (shown g.stage) (sh.passes j g (same_passes d j g h)) ∙ ap (λ k. Some k) (taken_shown g.stage);
        on_list = λ u p. absurd (omega arith);
        on_walk = λ u p. at_map u core.Listed (sh.on_list u (let z : times u c.listed ≡ times u listed = ap (times u) sh.listed_are in omega arith));
      }) record { lends = omega arith; take_wholes = omega arith; spent = omega arith }

  -- the first of the walk comes in hand, which is no event
  pub walked_on : (t : ℕ) (left : List ℕ) → ledger.hand ≡ None → ledger.walk ≡ t ∷ left
      → SameHistory c (walked t left ledger) listed (set views 0 (Owner (walked t left ledger)))
  walked_on t left free is = record {
    history = record {
      tickets = c;
      shows = record {
        number = sh.number;
        listed_are = sh.listed_are;
        walk_is = sh.walk_is ∙ ap (λ h. in_hand h ++ ledger.walk) free ∙ is;
        idle = sh.idle;
        passes = λ j g h. sh.passes j g (same_passes (walked t left ledger) j g h);
        on_list = sh.on_list;
        on_walk = sh.on_walk;
      };
      events = hist.events;
      ran = hist.ran;
      counted = record {
        lends = hist.counted.lends;
        take_wholes = hist.counted.take_wholes;
        spent = let a = owner_spent (walked t left ledger) in let n = hist.counted.spent in omega arith;
      };
    };
    step_is = refl;
  }

  -- the ticket in hand comes back
  pub came_home : (t : ℕ) → ledger.hand ≡ Some t → NextHistory c event.Back (put_home t ledger) listed (set views 0 (Owner (put_home t ledger)))
  came_home t has =
      let after : Tickets = record { states = set c.states t core.Idle; listed = c.listed; walk = ledger.walk } in
      let walk_is : c.walk ≡ t ∷ ledger.walk = sh.walk_is ∙ ap (λ h. in_hand h ++ ledger.walk) has in
      let handed : hand_times t ledger.hand ≡ same t t = ap (hand_times t) has in let here = same_here t in let m = most ledger listed views r.once t in
      let low32 : t < sizes.tickets = below ledger listed views r.once t (omega arith) in let n = sh.number in let low : t < length c.states = omega arith in
      let other : (u : ℕ) → u ≢ t → slice_get (set c.states t core.Idle) u ≡ slice_get c.states u = λ u d. record_else c.states t u core.Idle d in
      let s = owner_spent (put_home t ledger) in let z : length c.walk ≡ suc (length ledger.walk) = ap length walk_is in
      next ledger (put_home t ledger) listed listed views (set views 0 (Owner (put_home t ledger))) hist event.Back after (ap (back c) walk_is) (record {
        number = length-set c.states t core.Idle ∙ sh.number;
        listed_are = sh.listed_are;
        walk_is = refl;
        idle = λ u h. dite (ℕ_discrete u t) (λ eq. ap (slice_get (set c.states t core.Idle)) eq ∙ record_here c.states t core.Idle low)
            (λ d. other u d ∙ sh.idle u (sym (record_else ledger.lent t u None d) ∙ h));
        passes = λ j g h. let old = same_passes (put_home t ledger) j g h in
            other g.ticket (no_pass ledger listed views r.once t (omega arith) j g old) ∙ sh.passes j g old;
        on_list = λ u p. other u (λ eq. let z : times u listed ≡ times t listed = ap (λ k. times k listed) eq in absurd (omega arith)) ∙ sh.on_list u p;
        on_walk = λ u p. other u (λ eq. let z : times u ledger.walk ≡ times t ledger.walk = ap (λ k. times k ledger.walk) eq in absurd (omega arith))
            ∙ sh.on_walk u (let z : times u c.walk ≡ same u t + times u ledger.walk = ap (times u) walk_is in omega arith);
      }) record { lends = omega arith; take_wholes = omega arith; spent = omega arith }

fresh_idle : (n t : ℕ) → slice_get {X = Option PieceId} (replicate n None) t ≡ Some None → slice_get (replicate n core.Idle) t ≡ Some core.Idle
fresh_idle zero t e = absurd (let h = slice_get_within {A = Option PieceId} [] t None e in omega arith)
fresh_idle (suc n) zero e = refl
fresh_idle (suc n) (suc t) e = fresh_idle n t e

pub begins : History idle_ledger [] (Owner idle_ledger ∷ [])
begins = record {
  tickets = tickets.start sizes.tickets;
  shows = record {
    number = refl;
    listed_are = refl;
    walk_is = refl;
    idle = λ t e. fresh_idle sizes.tickets t e;
    passes = λ j e h. absurd (none_there' j e h);
    on_list = λ t p. absurd (omega arith);
    on_walk = λ t p. absurd (omega arith);
  };
  events = [];
  ran = refl;
  counted = record { lends = refl; take_wholes = refl; spent = refl };
}
  where
    none_there' : (j : ℕ) (e : Holder) → get_elem? (Owner idle_ledger ∷ []) j ≡ some (Pass e) → ⊥
    none_there' zero e h = not_owner idle_ledger e (some-injective (Owner idle_ledger) (Pass e) h)
    none_there' (suc j) e h = some-ne-none (Pass e) (sym h)
