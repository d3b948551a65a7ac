-- A gate was asked, and nothing else of the shard has changed.
use Rattle.std.proofs.Common.{◌↔◌, arith, ◌≡◌, ℕ, ◌<◌, true, false, is_some, get_or, slice_get, Some, None, refl, sym, ap, subst, ◌∙◌}
use Rattle.std.specs.List.{Contains}
use Rattle.trace_text.specs.declared.command.Command.{Command}
use Rattle.trace_text.specs.Parsed.{Parsed}
use Rattle.shard_rings.specs.Lanes.{LinkEnd, Traffic}
use Rattle.shard_rings.specs.declared.link.Lane.{Lane}
use Rattle.shard_node.specs.declared.shard.Shard.{Shard}
use Rattle.shard_node.specs.Nodes.{NodeState}
use Rattle.shard_node.specs.Standing.{InStanding}
use Rattle.shard_node.specs.inside.Moves.{done_in, Goes, ReceivesNone, Rises}
use Rattle.shard_parts.specs.Own.{own_log}
use Rattle.shard_node.specs.inside.Shards.{issued_by, node_state, IsConsistent}
use Rattle.shard_node.specs.inside.Steps.{IsStep}
use Rattle.shard_node.proofs.Standing.Byes.{same_own_log}
use Rattle.shard_node.proofs.Turning.PeerGoes.{goes_same}
use Rattle.shard_node.proofs.Standing.PeerPairs.{pairs_same}
use Rattle.shard_node.proofs.Turning.StepGoes.{no_more, no_rise, still_so}
use Rattle.std.proofs.lemmas.Option.{slice_get_past}
use Rattle.shard_memory.specs.Tickets.{HasIdle}
use Rattle.shard_memory.specs.declared.share.Share.TheVariants.{Reply as ReplyShare}
use Rattle.shard_store.specs.Stores.{StoreState}
use Rattle.layout.specs.Counts.{Rose}
use Rattle.shard_node.specs.declared.waiting.Waiting.{Waiting}
use Rattle.shard_parts.specs.Own.{IsFirstPart}
use Rattle.shard_node.specs.inside.Moves.{HeldUp, HoldsBack, Pairs}
use Rattle.shard_node.proofs.OwnParts.OwnLog.{own-log-is}
use Rattle.shard_node.proofs.Standing.PeerPairs.{pairs_so}
use Rattle.std.proofs.Common.{inl, inr, Option}
use Rattle.shard_node.proofs.Standing.Peerwise.{all_stand, each_stands, stays}

module _ {L G : Type 0} where
  still_consistent : (shard : Shard L G) (gate : G) → IsConsistent shard → IsConsistent (record shard { gate = gate })
  still_consistent shard gate x = record {
    read = x.read;
    formed = x.formed;
    parsed_for = x.parsed_for;
    within = x.within;
    of_shard = x.of_shard;
    pages = x.pages;
    of_regions = x.of_regions;
    unguarded = x.unguarded;
    counted = x.counted;
    longest = x.longest;
    peers = x.peers;
    cursors = λ k d below. let c = x.cursors k d below in record {
      asks_trace = c.asks_trace;
      asks_origin = c.asks_origin;
      asks_shard = c.asks_shard;
      answers_trace = c.answers_trace;
      answers_origin = c.answers_origin;
      answers_shard = c.answers_shard;
    };
    own = record {
      own_trace = x.own.own_trace;
      own_shard = x.own.own_shard;
      here_trace = x.own.here_trace;
      here_origin = x.own.here_origin;
      here_shard = x.own.here_shard;
      here = x.own.here;
    };
    begun = x.begun;
    waits = x.waits;
    asked = x.asked;
    room = record { rows = x.room.rows; spare = x.room.spare; bodies = x.room.bodies; keys = x.room.keys };
    short = x.short;
    one_each = x.one_each;
    own_unanswered = x.own_unanswered;
    unanswered = x.unanswered;
  }

module _ {L G : Type 0} (traffic : L → Traffic) where
  still_standing : (node : NodeState L G) (gate : G) → InStanding traffic node → InStanding traffic (record node { gate = gate })
  still_standing node gate stands =
      let now : NodeState L G = record node { gate = gate } in
      all_stand traffic now (record {
        journal = record { legal = stands.journal.legal; pressure = stands.journal.pressure };
        own = stands.own;
        one_each = stands.logged.one_each;
        logged = stands.logged.own;
        lent = record { lends = stands.lent.lends; out = stands.lent.out };
        received = record { released = stands.kept.received.released; all = stands.kept.received.all; counted = stands.kept.received.counted };
      }) (λ k d below.
      stays traffic node node.store node.journal node.log node.peers node.begun node.request gate node.tally (get_or node.peers k d) (λ i reply e. e)
      (record { done = refl; logged = refl; begun = refl; waiting = refl }) (each_stands traffic node stands k d below))

  gate_asked : (end : L → LinkEnd) (shard : Shard L G) (gate : G) → IsConsistent shard → IsStep traffic end shard (record shard { gate = gate })
  gate_asked end shard gate x = record {
    consistent = still_consistent shard gate x;
    standing = still_standing (node_state shard) gate;
    same = record { shard = refl; shards = refl; pages = refl; trace = refl; home = refl; ends = refl };
    turns = refl;
  }

module _ {L G : Type 0} (shard now : Shard L G) (same : now ≡ record shard { gate = now.gate }) (x : IsConsistent shard) where
  pub now_consistent : IsConsistent now
  now_consistent = subst (λ (s : Shard L G). IsConsistent s) (sym same) (still_consistent shard now.gate x)

  pub now_stepped : (traffic : L → Traffic) (end : L → LinkEnd) → IsStep traffic end shard now
  now_stepped traffic end = subst (λ (s : Shard L G). IsStep traffic end shard s) (sym same) (gate_asked traffic end shard now.gate x)

  pub now_received : (traffic : L → Traffic) (lane : Lane) → ReceivesNone traffic lane (node_state shard) (node_state now)
  now_received traffic lane = subst (λ (s : Shard L G). ReceivesNone traffic lane (node_state shard) (node_state s)) (sym same) (pairs_same _ _ (λ k a. (refl, refl)))

  pub now_goes : (traffic : L → Traffic) → Goes traffic (node_state shard) (node_state now)
  now_goes traffic = subst (λ (s : Shard L G). Goes traffic (node_state shard) (node_state s)) (sym same)
      (record { peers = pairs_same _ _ (λ k a. goes_same traffic a); done = omega arith; backs = omega arith; looks = omega arith; tally = no_more shard.tally })

  pub now_still : (traffic : L → Traffic) → Rises traffic (node_state shard) (node_state now) → ⊥
  now_still traffic = subst (λ (s : Shard L G). Rises traffic (node_state shard) (node_state s) → ⊥) (sym same) (no_rise traffic (node_state shard))

  pub now_so : (traffic : L → Traffic) (P : Type 0) (after : NodeState L G) → (P ↔ Rises traffic (node_state now) after) → (P ↔ Rises traffic (node_state shard) after)
  now_so traffic P after =
      still_so traffic P (node_state shard) (node_state now) after (ap (λ (s : Shard L G). (node_state s).peers) same) (ap (λ (s : Shard L G). done_in traffic (node_state s)) same)

  -- the next own part
  pub now_next : (part : ℕ × ℕ) → slice_get (own_log shard.own) shard.own.begun ≡ Some part → slice_get (issued_by now) now.own.begun ≡ Some part
  now_next part next =
      subst (λ (s : Shard L G). slice_get (issued_by s) s.own.begun ≡ Some part) (sym same) (ap (λ log. slice_get log shard.own.begun) (sym (same_own_log shard x)) ∙ next)

  pub now_idle : shard.request ≡ None → now.request ≡ None
  now_idle idle = ap (λ (s : Shard L G). s.request) same ∙ idle

  -- a command of its trace, and a shard of those that it was parsed for
  pub now_there : (command : Command) → Contains shard.own.trace.commands command → Contains now.trace.now.commands command
  now_there command there =
      subst (λ (s : Shard L G). Contains s.trace.now.commands command) (sym same) (subst (λ (t : Parsed). Contains t.commands command) x.own.own_trace there)

  pub now_below : (q : ℕ) → q < shard.own.trace.shards → q < now.shards
  now_below q below =
      subst (λ (s : Shard L G). q < s.shards) (sym same) (subst (λ n. q < n) (ap (λ (t : Parsed). t.shards) x.own.own_trace ∙ sym x.parsed_for) below)

none_some : {X : Type 0} (option : Option X) (y : X) → option ≡ None → option ≡ Some y → ⊥
none_some {X} option y none some = let clash : None ≡ Some y = sym none ∙ some in cc

module _ {L G : Type 0} (traffic : L → Traffic) (holds : G → ℕ) (shard : Shard L G) (x : IsConsistent shard) (idle : shard.request ≡ None) where
  -- the gate held
  pub gate_back : (now : Shard L G) → now ≡ record shard { gate = now.gate } → holds shard.gate < holds now.gate
      → ((part : ℕ × ℕ) → slice_get (own_log shard.own) shard.own.begun ≡ Some part → IsFirstPart (own_log shard.own) shard.own.begun part)
      → HoldsBack traffic holds (node_state shard) (node_state now)
  gate_back now same less first = subst (λ (s : Shard L G). HoldsBack traffic holds (node_state shard) (node_state s)) (sym same) (record {
    held = pairs_same _ _ (λ k a. refl);
    request = λ waiting so. elim so [
      | inl is ↦ absurd (none_some shard.request waiting idle is)
      | inr is ↦ absurd (none_some shard.request waiting idle is)
    ];
    own = λ none part at. inl (
      subst (λ log. IsFirstPart log shard.own.begun part) (own-log-is shard x) (first part (ap (λ log. slice_get log shard.own.begun) (own-log-is shard x) ∙ at)),
      less,
    );
    all = λ all. all;
    idle = λ stands back has. has;
    store = λ same. refl;
  })

  -- a request was made, and met a full lane
  pub asked_back : (now asked sent : Shard L G) (waiting : Waiting) (part : ℕ × ℕ) → now ≡ record shard { gate = now.gate } → slice_get (own_log shard.own) shard.own.begun ≡ Some part
      → (node_state asked).peers ≡ (node_state now).peers → asked.request ≡ Some waiting
      → (InStanding traffic (node_state now) → asked.store.backs ≡ now.store.backs → HasIdle asked.store.lent ReplyShare → HasIdle now.store.lent ReplyShare)
      → (InStanding traffic (node_state shard) → InStanding traffic (node_state now))
      → HeldUp traffic (λ k a b. (w : Waiting) → asked.request ≡ Some w → a.shard ≡ w.peer → Rose (traffic a.link).full.requests (traffic b.link).full.requests) (node_state asked) (node_state sent)
      → HoldsBack traffic holds (node_state shard) (node_state sent)
  asked_back now asked sent waiting part same next peers waits tickets standing held =
      let before : (node_state asked).peers ≡ (node_state shard).peers = peers ∙ ap (λ (s : Shard L G). (node_state s).peers) same in
      let store : now.store ≡ shard.store = ap (λ (s : Shard L G). s.store) same in
      record {
        held = subst (λ ps. Pairs (λ k a b. b.held ≡ a.held) ps (node_state sent).peers) before (pairs_so _ _ _ _ (λ k a b h. h.0) held.peers);
        request = λ w so. elim so [
          | inl is ↦ absurd (none_some shard.request w idle is)
          | inr is ↦ subst (λ ps. Pairs (λ k a b. a.shard ≡ w.peer → Rose (traffic a.link).full.requests (traffic b.link).full.requests) ps (node_state sent).peers) before
              (pairs_so _ _ _ _ (λ k a b h. h.1 w (sym held.request ∙ is)) held.peers)
        ];
        own = λ none. absurd (none_some asked.request waiting (sym held.request ∙ none) waits);
        all = λ all.
            absurd (none_some (slice_get (issued_by shard) shard.own.begun) part (slice_get_past (issued_by shard) shard.own.begun (let e = all.0 in omega (arith, e)))
            (ap (λ log. slice_get log shard.own.begun) (sym (own-log-is shard x)) ∙ next));
        idle = λ stands back has.
            subst (λ (s : StoreState). HasIdle s.lent ReplyShare) store
            (tickets (standing stands) (ap (λ (s : StoreState). s.backs) (sym held.store) ∙ (back ∙ ap (λ (s : StoreState). s.backs) (sym store)))
            (subst (λ (s : StoreState). HasIdle s.lent ReplyShare) held.store has));
        store = λ same. absurd (none_some asked.request waiting (sym held.request ∙ (same ∙ idle)) waits);
      }

module _ {L G : Type 0} (traffic : L → Traffic) (holds : G → ℕ) where
  -- a request waits, and met a full lane
  pub waiting_back : (shard sent : Shard L G) → true ≡ is_some shard.request
      → HeldUp traffic (λ k a b. (w : Waiting) → shard.request ≡ Some w → a.shard ≡ w.peer → Rose (traffic a.link).full.requests (traffic b.link).full.requests) (node_state shard) (node_state sent)
      → HoldsBack traffic holds (node_state shard) (node_state sent)
  waiting_back shard sent some held =
      let waits : shard.request ≡ None → ⊥ = λ none. let clash : true ≡ false = some ∙ ap is_some none in cc in
      record {
        held = pairs_so _ _ _ _ (λ k a b h. h.0) held.peers;
        request = λ w so. elim so [
          | inl is ↦ pairs_so _ _ _ _ (λ k a b h. h.1 w is) held.peers
          | inr is ↦ pairs_so _ _ _ _ (λ k a b h. h.1 w (sym held.request ∙ is)) held.peers
        ];
        own = λ none. absurd (waits (sym held.request ∙ none));
        all = λ all. absurd (waits all.1);
        idle = λ stands back has. subst (λ (s : StoreState). HasIdle s.lent ReplyShare) held.store has;
        store = λ same. held.store;
      }
