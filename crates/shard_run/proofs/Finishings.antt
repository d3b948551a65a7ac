-- Nodes finish, one behind the other.
use Rattle.std.proofs.Common.{◌≡◌, ℕ, ◌+◌, ◌<◌, inl, inr, List, [], ◌∷◌, ◌++◌, length, Some, slice_get, sym, ap, subst, ◌∙◌, arith, length-append, append_assoc, append-nil}
use Rattle.std.specs.Prelude.{map}
use Rattle.std.proofs.lemmas.List.{map-append}
use Rattle.std.proofs.lemmas.Option.{slice_get_within, same_Some}
use Rattle.trace_text.specs.Trace.{Trace}
use Rattle.foreign_list.specs.OwnerSeats.{OwnerState, IsAtRest}
use Rattle.shard_rings.specs.Links.{LinkState, traffic_of}
use Rattle.shard_node.specs.Nodes.{NodeState}
use Rattle.run_log.specs.Runs.{IsOfRun}
use Rattle.shard_node.specs.Lines.{line_of}
use Rattle.shard_node.specs.Turns.{IsDone}
use Rattle.shard_run.specs.Opening.{links_of}
use Rattle.shard_run.specs.Remaining.{AllCanFinish, AllHaveFacts, AreLeftBy, CanFinish, HasFacts, IsRoomFor}
use Rattle.shard_run.specs.inside.Finishing.{HasFinished, Leaves}
use Rattle.shard_run.specs.declared.remains.Remains.{Remains}
use Rattle.shard_run.proofs.Getting.{get_front, get_between, before_or_last, get_last}

module _ {G : Type 0} (trace : Trace) (pages : ℕ) where
  -- the nodes before these have finished
  pub record AreFinished (nodes rest : List (NodeState LinkState G)) (now : Remains) : Type 0 where
    pub gone : List (NodeState LinkState G)
    pub split : nodes ≡ gone ++ rest
    pub facts : AllHaveFacts gone
    pub left : AreLeftBy gone now
    pub so_far : HasFinished trace (length nodes) pages (length gone) now

  pub none_finished : (nodes rest : List (NodeState LinkState G)) (now : Remains) → rest ≡ nodes → IsRoomFor trace (length nodes) pages now → AreFinished nodes rest now
  none_finished nodes rest now e room = record {
    gone = [];
    split = sym e;
    facts = λ s node at. absurd (let w = slice_get_within [] s node at in omega (arith, w));
    left = record {
      journals = room.journals;
      logs = room.logs;
      lines = room.lines;
      links = ap (map (λ row. row.items)) room.links;
      one_seat_each = ap length room.seats;
      seats = λ s node seat at there. absurd (let w = slice_get_within [] s node at in omega (arith, w));
    };
    so_far = record {
      run = room.run;
      journals = ap length room.journals;
      links = ap length room.links;
      seats = ap length room.seats;
      link_room = room.link_room;
      seat_room = room.seat_room;
    };
  }

  -- the node that comes next
  module _ (holds : G → ℕ) (nodes rest others : List (NodeState LinkState G)) (old : Remains) (node : NodeState LinkState G) (h : AreFinished nodes rest old) (e : rest ≡ node ∷ others)
      (all : AllCanFinish holds trace pages nodes) where
    can_finish : CanFinish holds trace (length nodes) pages (length h.gone) node
    can_finish = all (length h.gone) node (subst (λ l. slice_get l (length h.gone) ≡ Some node) (sym (h.split ∙ ap (λ l. h.gone ++ l) e)) (get_between h.gone node others))

    pub next_is_done : IsDone traffic_of holds node
    next_is_done = can_finish.done

    pub next_within : node.shard < node.shards
    next_within =
        let total = ap length (h.split ∙ ap (λ l. h.gone ++ l) e) ∙ length-append h.gone (node ∷ others) in
        let number = can_finish.number in
        let shards = can_finish.shards in
        omega (arith, total, number, shards)

    pub next_so_far : HasFinished node.trace node.shards node.pages node.shard old
    next_so_far =
        subst (λ t. HasFinished t node.shards node.pages node.shard old) (sym can_finish.work)
        (subst (λ p. HasFinished trace node.shards p node.shard old) (sym can_finish.room)
        (subst (λ n. HasFinished trace n pages node.shard old) (sym can_finish.shards)
        (subst (λ s. HasFinished trace (length nodes) pages s old) (sym can_finish.number) h.so_far)))

    pub one_finished : (new : Remains) → HasFacts node → Leaves node old new → HasFinished node.trace node.shards node.pages (node.shard + 1) new → AreFinished nodes others new
    one_finished new facts l room = record {
      gone = h.gone ++ node ∷ [];
      split = h.split ∙ ap (λ l. h.gone ++ l) e ∙ sym (append_assoc h.gone (node ∷ []) others);
      facts = λ s one at. elim (before_or_last h.gone node one s at) [
        | inl was ↦ h.facts s one was
        | inr last ↦ subst (λ (d : NodeState LinkState G). HasFacts d) last.1 facts
      ];
      left = record {
        journals = l.journals ∙ ap (λ xs. xs ++ node.journal ∷ []) h.left.journals ∙ sym (map-append (λ d. d.journal) h.gone (node ∷ []));
        logs = l.logs ∙ ap (λ xs. xs ++ node.log ∷ []) h.left.logs ∙ sym (map-append (λ d. d.log) h.gone (node ∷ []));
        lines = l.lines ∙ ap (λ xs. xs ++ line_of node.store ∷ []) h.left.lines ∙ sym (map-append (λ d. line_of d.store) h.gone (node ∷ []));
        links = ap (map (λ row. row.items)) l.links ∙ map-append (λ row. row.items) old.links.items (l.row ∷ [])
            ∙ (ap (λ xs. xs ++ l.row.items ∷ []) h.left.links ∙ (ap (λ r. map links_of h.gone ++ r ∷ []) l.row_is ∙ sym (map-append links_of h.gone (node ∷ []))));
        one_seat_each = more_seats ∙ sym (length-append h.gone (node ∷ []));
        seats = seat_at;
      };
      so_far =
          subst (λ k. HasFinished trace (length nodes) pages k new) place
          (subst (λ n. HasFinished trace n pages (node.shard + 1) new) can_finish.shards
          (subst (λ p. HasFinished trace node.shards p (node.shard + 1) new) can_finish.room
          (subst (λ t. HasFinished t node.shards node.pages (node.shard + 1) new) can_finish.work room)));
    }
      where
        place : node.shard + 1 ≡ length (h.gone ++ node ∷ [])
        place = let number = can_finish.number in let more = length-append h.gone (node ∷ []) in omega (arith, number, more)

        more_seats : length new.seats.items ≡ length h.gone + 1
        more_seats = ap length l.seats ∙ length-append old.seats.items (l.seat ∷ []) ∙ ap (λ k. k + 1) h.left.one_seat_each

        seat_at : (s : ℕ) (one : NodeState LinkState G) (seat : OwnerState) → slice_get (h.gone ++ node ∷ []) s ≡ Some one → slice_get new.seats.items s ≡ Some seat
            → IsAtRest one.store.list seat
        seat_at s one seat at there =
            let here : slice_get (old.seats.items ++ l.seat ∷ []) s ≡ Some seat = subst (λ xs. slice_get xs s ≡ Some seat) l.seats there in
            let count = h.left.one_seat_each in
            elim (before_or_last h.gone node one s at) [
              | inl was ↦ (
                  let w = slice_get_within h.gone s one was in
                  h.left.seats s one seat was (sym (get_front old.seats.items (l.seat ∷ []) s (omega (arith, w, count))) ∙ here))
              | inr last ↦ (
                  let q = last.0 in
                  let end : s ≡ length old.seats.items = omega (arith, q, count) in
                  let same : l.seat ≡ seat =
                  same_Some l.seat seat (sym (get_last old.seats.items l.seat) ∙ subst (λ j. slice_get (old.seats.items ++ l.seat ∷ []) j ≡ Some seat) end here) in
                  subst (λ o. IsAtRest one.store.list o) same (subst (λ (d : NodeState LinkState G). IsAtRest d.store.list l.seat) last.1 l.at_rest))
            ]

  pub all_finished : (nodes rest : List (NodeState LinkState G)) (now : Remains) → AreFinished nodes rest now → rest ≡ [] → AreLeftBy nodes now
  all_finished nodes rest now h e = subst (λ l. AreLeftBy l now) (sym (h.split ∙ ap (λ l. h.gone ++ l) e ∙ append-nil h.gone)) h.left

  pub all_have_facts : (nodes rest : List (NodeState LinkState G)) (now : Remains) → AreFinished nodes rest now → rest ≡ [] → AllHaveFacts nodes
  all_have_facts nodes rest now h e = subst (λ l. AllHaveFacts l) (sym (h.split ∙ ap (λ l. h.gone ++ l) e ∙ append-nil h.gone)) h.facts

  pub still_of_run : (nodes rest : List (NodeState LinkState G)) (now : Remains) → AreFinished nodes rest now → IsOfRun trace (length nodes) pages now.ran
  still_of_run nodes rest now h = h.so_far.run
