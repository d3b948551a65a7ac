-- Packets that were set aside: what is told of them as steps come before and behind.
use Rattle.std.proofs.Common.{◌≡◌, ◌≢◌, ℕ, suc, ◌+◌, ◌<◌, ◌≤◌, List, [], ◌∷◌, ◌++◌, length, drop, get_or, slice_get, Option, Some, None, inl, inr, arith, refl, sym, ap, subst, ◌∙◌, false}
use Rattle.std.proofs.lemmas.Bool.{cases_order}
use Rattle.std.proofs.lemmas.List.{append-nil, length-append, nil_from_length}
use Rattle.std.proofs.lemmas.Option.{get_or_from_slice_get, slice_get-get_or, same_Some}
use Rattle.rows.specs.Operation.{Operation}
use Rattle.trace_text.specs.Trace.{Trace}
use Rattle.rows.specs.Apply.{Reply}
use Rattle.shard_rings.specs.Lanes.{on, Traffic}
use Rattle.shard_rings.specs.declared.link.Lane.{Lane}
use Rattle.shard_rings.specs.declared.link.Lane.TheVariants.{Requests, Replies}
use Rattle.shard_rings.specs.declared.link.Packet.{Packet}
use Rattle.shard_parts.specs.declared.stray_packet.StrayPacket.{StrayPacket}
use Rattle.shard_parts.specs.declared.stray_packet.Tried.{Tried}
use Rattle.shard_parts.specs.declared.stray_packet.Tried.TheVariants.{Nothing, Expected, Other}
use Rattle.shard_node.specs.Nodes.{NodeState, PeerState}
use Rattle.shard_node.specs.Due.{AnswersNot, Takes, due, is_next, number_in, operations_for, requests_taken}
use Rattle.shard_node.specs.Turns.{HasStray, IsStray, IsFirstOf, IsSameNode, NoneStray, NoneOf, expected_number, expected_said}
use Rattle.shard_node.specs.inside.Moves.{ReceivesNone, ReceivesOne, ReceivesOneStray, Tells, TellsFirst, TriedSays}
use Rattle.shard_node.specs.inside.Seen.{first_stray}
use Rattle.shard_node.proofs.Standing.PeerPairs.{pair_at, pair_there, pairs_back, pairs_join, pairs_same}

-- as many replies are taken of some packets, whichever they are
pub takes_as_many : (trace : Trace) (operations : List Operation) (packets : List Packet) (rs ss : List Reply)
    → Takes trace operations packets rs → Takes trace operations packets ss → length rs ≡ length ss
takes_as_many trace operations [] rs ss a b = ap length a ∙ sym (ap length b)
takes_as_many trace operations (packet ∷ packets) rs ss (inl a) (inl b) =
    ap length a.2 ∙ (ap suc (takes_as_many trace (drop 1 operations) packets a.1 b.1 a.4 b.4) ∙ sym (ap length b.2))
takes_as_many trace operations (packet ∷ packets) rs ss (inl a) (inr b) = absurd (b.0 a.0 a.3)
takes_as_many trace operations (packet ∷ packets) rs ss (inr a) (inl b) = absurd (a.0 b.0 b.3)
takes_as_many trace operations (packet ∷ packets) rs ss (inr a) (inr b) = takes_as_many trace operations packets rs ss a.1 b.1

pub one-more : {X : Type 0} (xs : List X) (x : X) → xs ≡ xs ++ x ∷ [] → ⊥
one-more xs x same = let all = length-append xs (x ∷ []) in let e = ap length same in absurd (omega (arith, all, e))

-- One try more.

pub tried_so : (A B : StrayPacket → Type 0) (tried : Tried) → ((x : StrayPacket) → A x → B x) → ((x : StrayPacket) → B x → A x) → TriedSays A tried → TriedSays B tried
tried_so A B (Other stray) on back says = on stray says
tried_so A B Nothing on back says = λ x b. says x (back x b)
tried_so A B Expected on back says = λ x b. says x (back x b)

pub tells_so : (A B : ℕ → StrayPacket → Type 0) (before now : Option StrayPacket) → ((k : ℕ) (x : StrayPacket) → A k x → B k x) → ((k : ℕ) (x : StrayPacket) → B k x → A k x)
    → Tells A before now → Tells B before now
tells_so A B (Some y) now on back told = told
tells_so A B None None on back told = λ k x b. told k x (back k x b)
tells_so A B None (Some y) on back told = (told.0, on told.0 y told.1, λ j less x b. told.2 j less x (back j x b))

none_more : (A B : ℕ → StrayPacket → Type 0) (at : ℕ) → ((j : ℕ) (x : StrayPacket) → j ≢ at → B j x → A j x) → ((x : StrayPacket) → B at x → ⊥)
    → ((k : ℕ) (x : StrayPacket) → A k x → ⊥) → (k : ℕ) (x : StrayPacket) → B k x → ⊥
none_more A B at back none told k x b = elim (cases_order k at) [
  | inl is ↦ none x (subst (λ j. B j x) is b)
  | inr (inl less) ↦ told k x (back k x (λ e. omega (arith, e, less)) b)
  | inr (inr more) ↦ told k x (back k x (λ e. omega (arith, e, more)) b)
]

pub tells_next : (A B : ℕ → StrayPacket → Type 0) (at : ℕ) (tried : Tried) (before now : Option StrayPacket)
    → ((j : ℕ) (x : StrayPacket) → j ≢ at → A j x → B j x) → ((j : ℕ) (x : StrayPacket) → j ≢ at → B j x → A j x) → ((j : ℕ) (x : StrayPacket) → at ≤ j → A j x → ⊥)
    → TriedSays (B at) tried → Tells A before now → Tells B before (first_stray now tried)
tells_next A B at tried (Some y) now on back late says told = ap (λ a. first_stray a tried) told
tells_next A B at Nothing None None on back late says told = none_more A B at back says told
tells_next A B at Expected None None on back late says told = none_more A B at back says told
tells_next A B at (Other y) None None on back late says told = (at, says, λ j less x b. told j x (back j x (λ e. omega (arith, e, less)) b))
tells_next A B at tried None (Some y) on back late says told =
    let k = told.0 in
    let before : k < at = (elim (cases_order k at) [
      | inl is ↦ absurd (late k y (omega (arith, is)) told.1)
      | inr (inl less) ↦ less
      | inr (inr more) ↦ absurd (late k y (omega (arith, more)) told.1)
    ]) in (
      k,
      on k y (λ e. omega (arith, e, before)) told.1,
      λ j less x b. told.2 j less x (back j x (λ e. omega (arith, e, less, before)) b),
    )

-- Where a packet is not the expected one, as the lists tell.
abbrev StrayOf : Lane → Trace → ℕ → ℕ → ℕ → List Packet → Packet → StrayPacket → Type 0
StrayOf Replies trace n s q before packet stray = (replies : List Reply)
    × Takes trace (operations_for trace n s q) before replies
    × AnswersNot trace (slice_get (operations_for trace n s q) (length replies)) packet
    × (stray ≡ record { peer = q; expected = expected_number (slice_get (operations_for trace n s q) (length replies)); found = number_in packet })
StrayOf Requests trace n s q before packet stray =
    (is_next (due trace n q s) (requests_taken (due trace n q s) before) packet ≡ false)
    × (stray ≡ record { peer = q; expected = expected_said (slice_get (due trace n q s) (requests_taken (due trace n q s) before)); found = number_in packet })

carried : (P : Trace → ℕ → ℕ → ℕ → List Packet → Type 0) (t t' : Trace) (n n' s s' q q' : ℕ) (x x' : List Packet)
    → t' ≡ t → n' ≡ n → s' ≡ s → q' ≡ q → x' ≡ x → P t n s q x → P t' n' s' q' x'
carried P t t' n n' s s' q q' x x' a b c d e p =
    subst (λ z. P z n' s' q' x') (sym a)
    (subst (λ z. P t z s' q' x') (sym b)
    (subst (λ z. P t n z q' x') (sym c)
    (subst (λ z. P t n s z x') (sym d)
    (subst (λ (z : List Packet). P t n s q z) (sym e) p))))

module _ {L G : Type 0} (traffic : L → Traffic) (holds : G → ℕ) where
  -- the trace, the number of shards and the shard of a node are those of another
  pub record SameTask (node other : NodeState L G) : Type 0 where
    pub trace : other.trace ≡ node.trace
    pub shards : other.shards ≡ node.shards
    pub shard : other.shard ≡ node.shard

  pub task_of : {E : Type 0} (end : L → E) (old new : NodeState L G) → IsSameNode end old new → SameTask old new
  task_of end old new same = record { trace = same.trace; shards = same.shards; shard = same.shard }

  pub task_back : (old new : NodeState L G) → SameTask old new → SameTask new old
  task_back old new same = record { trace = sym same.trace; shards = sym same.shards; shard = sym same.shard }

  stray_so : (lane : Lane) (node other : NodeState L G) (q q' : ℕ) (before before' : List Packet) (packet : Packet) (stray : StrayPacket) → SameTask node other
      → q' ≡ q → before' ≡ before → IsStray traffic holds lane node q before packet stray → IsStray traffic holds lane other q' before' packet stray
  stray_so Replies node other q q' before before' packet stray same number came is =
      carried (λ t n s q x. StrayOf Replies t n s q x packet stray) node.trace other.trace node.shards other.shards node.shard other.shard q q' before before'
      same.trace same.shards same.shard number came is
  stray_so Requests node other q q' before before' packet stray same number came is =
      carried (λ t n s q x. StrayOf Requests t n s q x packet stray) node.trace other.trace node.shards other.shards node.shard other.shard q q' before before'
      same.trace same.shards same.shard number came is

  -- what came on the lane of a peer
  abbrev came_of : Lane → PeerState L → List Packet
  came_of lane p = on lane (traffic p.link).received

  pub none_here : (lane : Lane) (node : NodeState L G) → ReceivesNone traffic lane node node
  none_here lane node = pairs_same _ node.peers (λ k a. (refl, refl))

  pub none_join : (lane : Lane) (a b c : NodeState L G) → ReceivesNone traffic lane a b → ReceivesNone traffic lane b c → ReceivesNone traffic lane a c
  none_join lane a b c first second = pairs_join _ _ _ a.peers b.peers c.peers (λ k x y z one two. (two.0 ∙ one.0, two.1 ∙ one.1)) first second

  pub came_back : (lane : Lane) (old new : NodeState L G) → ReceivesNone traffic lane old new → ReceivesNone traffic lane new old
  came_back lane old new none = pairs_back _ _ old.peers new.peers (λ k a b same. (sym same.0, sym same.1)) none

  pub none_then_one : (lane : Lane) (a b c : NodeState L G) → ReceivesNone traffic lane a b → ReceivesOne traffic lane b c → ReceivesOne traffic lane a c
  none_then_one lane a b c first second =
      pairs_join _ _ _ a.peers b.peers c.peers (λ k x y z none one. let e = ap length none.1 in omega (arith, one, e)) first second

  pub one_then_none : (lane : Lane) (a b c : NodeState L G) → ReceivesOne traffic lane a b → ReceivesNone traffic lane b c → ReceivesOne traffic lane a c
  one_then_none lane a b c first second =
      pairs_join _ _ _ a.peers b.peers c.peers (λ k x y z one none. let e = ap length none.1 in omega (arith, one, e)) first second

  -- what was set aside between two nodes was set aside between two others, where between these nothing came
  pub stray_between : (lane : Lane) (old new before after : NodeState L G) (k : ℕ) (stray : StrayPacket) → SameTask old before
      → ReceivesNone traffic lane old before → ReceivesNone traffic lane new after
      → ReceivesOneStray traffic holds lane old new k stray → ReceivesOneStray traffic holds lane before after k stray
  stray_between lane old new before after k stray task first last has =
      let a = has.0 in
      let b = has.1 in
      let c = get_or before.peers k a in
      let d = get_or after.peers k b in
      let here = pair_there _ old.peers before.peers k a first has.3 in
      let there = pair_there _ new.peers after.peers k b last has.4 in
      let one = pair_at _ old.peers before.peers k a c first has.3 here in
      let two = pair_at _ new.peers after.peers k b d last has.4 there in (
        c,
        d,
        has.2,
        here,
        there,
        two.1 ∙ (has.5 ∙ ap (λ (xs : List Packet). xs ++ has.2 ∷ []) (sym one.1)),
        stray_so lane old before a.shard c.shard (came_of lane a) (came_of lane c) has.2 stray task one.0 one.1 has.6,
      )

  pub told_between : (lane : Lane) (old new before after : NodeState L G) (was now : Option StrayPacket) → SameTask old before
      → ReceivesNone traffic lane old before → ReceivesNone traffic lane new after
      → Tells (ReceivesOneStray traffic holds lane old new) was now → Tells (ReceivesOneStray traffic holds lane before after) was now
  told_between lane old new before after was now task first last told =
      tells_so (ReceivesOneStray traffic holds lane old new) (ReceivesOneStray traffic holds lane before after) was now
      (λ k x. stray_between lane old new before after k x task first last)
      (λ k x. stray_between lane before after old new k x (task_back old before task) (came_back lane old before first) (came_back lane new after last)) told

  -- On a lane on which at most one packet came of each peer in a turn.
  module _ (lane : Lane) (old new : NodeState L G) (most : ReceivesOne traffic lane old new) where
    -- a packet that is told is the one that came
    only_one : (k m : ℕ) (stray : StrayPacket) → HasStray traffic holds lane old new k m stray → (m ≡ 0) × ReceivesOneStray traffic holds lane old new k stray
    only_one k m stray has =
        let a = has.0 in
        let b = has.1 in
        let before = has.2 in
        let behind = has.3 in
        let packet = has.4 in
        let few : length (came_of lane b) ≤ 1 + length (came_of lane a) = pair_at _ old.peers new.peers k a b most has.5 has.6 in
        let many : length before ≡ m = has.7 in
        let all : length (came_of lane b) ≡ length (came_of lane a ++ before ++ packet ∷ behind) = ap length has.8 in
        let each = length-append (came_of lane a ++ before) (packet ∷ behind) in
        let fresh = length-append (came_of lane a) before in
        let no-before : before ≡ [] = nil_from_length before (omega (arith, few, all, each, fresh)) in
        let no-behind : behind ≡ [] = nil_from_length behind (omega (arith, few, all, each, fresh)) in
        let was : came_of lane a ++ before ≡ came_of lane a = ap (λ (xs : List Packet). came_of lane a ++ xs) no-before ∙ append-nil (came_of lane a) in (
          omega (arith, many, few, all, each, fresh),
          (
            a,
            b,
            packet,
            has.5,
            has.6,
            has.8 ∙ (ap (λ (xs : List Packet). xs ++ packet ∷ behind) was ∙ ap (λ (xs : List Packet). came_of lane a ++ packet ∷ xs) no-behind),
            subst (λ (xs : List Packet). IsStray traffic holds lane old a.shard xs packet stray) was has.9,
          ),
        )

    the_one : (k : ℕ) (stray : StrayPacket) → ReceivesOneStray traffic holds lane old new k stray → HasStray traffic holds lane old new k 0 stray
    the_one k stray has = (
      has.0,
      has.1,
      [],
      [],
      has.2,
      has.3,
      has.4,
      refl,
      has.5 ∙ ap (λ (xs : List Packet). xs ++ has.2 ∷ []) (sym (append-nil (came_of lane has.0))),
      subst (λ (xs : List Packet). IsStray traffic holds lane old has.0.shard xs has.2 stray) (sym (append-nil (came_of lane has.0))) has.6,
    )

    pub none_of : ((k : ℕ) (stray : StrayPacket) → ReceivesOneStray traffic holds lane old new k stray → ⊥) → NoneOf traffic holds lane old new
    none_of none k m stray has = none k stray (only_one k m stray has).1

    pub first_of : (k : ℕ) (stray : StrayPacket) → ReceivesOneStray traffic holds lane old new k stray
        → ((j : ℕ) → j < k → (other : StrayPacket) → ReceivesOneStray traffic holds lane old new j other → ⊥) → IsFirstOf traffic holds lane old new stray
    first_of k stray has none = (
      k,
      0,
      the_one k stray has,
      λ j i before other told. let only = only_one j i other told in elim before [
        | inl less ↦ none j less other only.1
        | inr same ↦ absurd (omega (arith, same))
      ],
    )

  on_both : (old new : NodeState L G) → NoneOf traffic holds Replies old new → NoneOf traffic holds Requests old new → NoneStray traffic holds old new
  on_both old new replies requests Replies = replies
  on_both old new replies requests Requests = requests

  -- the lanes of replies, and then the lanes of requests
  pub told_first : (old new : NodeState L G) (then last : Option StrayPacket) → ReceivesOne traffic Replies old new → ReceivesOne traffic Requests old new
      → Tells (ReceivesOneStray traffic holds Replies old new) None then → Tells (ReceivesOneStray traffic holds Requests old new) then last → TellsFirst traffic holds last old new
  told_first old new (Some y) last one two replies requests =
      subst (λ s. TellsFirst traffic holds s old new) (sym requests) (inl (first_of Replies old new one replies.0 y replies.1 replies.2))
  told_first old new None None one two replies requests = on_both old new (none_of Replies old new one replies) (none_of Requests old new two requests)
  told_first old new None (Some y) one two replies requests =
      inr (first_of Requests old new two requests.0 y requests.1 requests.2, none_of Replies old new one replies)

  -- A pass over the peers: at its start, and one place more.
  pub told_start : (lane : Lane) (node : NodeState L G) (told : Option StrayPacket) → Tells (ReceivesOneStray traffic holds lane node node) told told
  told_start lane node (Some stray) = refl
  told_start lane node None = λ k x has.
      let same : Some has.1 ≡ Some has.0 = sym has.4 ∙ has.3 in
      one-more (came_of lane has.0) has.2 (sym (ap (λ (p : PeerState L). came_of lane p) (same_Some has.1 has.0 same)) ∙ has.5)

  pub told_next : (lane : Lane) (first old new : NodeState L G) (at : ℕ) (tried : Tried) (was now : Option StrayPacket) → SameTask first old
      → ((k : ℕ) → k ≢ at → slice_get new.peers k ≡ slice_get old.peers k) → ((k : ℕ) → at ≤ k → slice_get old.peers k ≡ slice_get first.peers k)
      → TriedSays (ReceivesOneStray traffic holds lane old new at) tried → Tells (ReceivesOneStray traffic holds lane first old) was now
      → Tells (ReceivesOneStray traffic holds lane first new) was (first_stray now tried)
  told_next lane first old new at tried was now task others later says told =
      tells_next (ReceivesOneStray traffic holds lane first old) (ReceivesOneStray traffic holds lane first new) at tried was now
      (λ j x apart has. (has.0, has.1, has.2, has.3, others j apart ∙ has.4, has.5, has.6))
      (λ j x apart has. (has.0, has.1, has.2, has.3, sym (others j apart) ∙ has.4, has.5, has.6))
      (λ j x behind has.
      let same : Some has.1 ≡ Some has.0 = sym has.4 ∙ (later j behind ∙ has.3) in
      one-more (came_of lane has.0) has.2 (sym (ap (λ (p : PeerState L). came_of lane p) (same_Some has.1 has.0 same)) ∙ has.5))
      (tried_so (ReceivesOneStray traffic holds lane old new at) (ReceivesOneStray traffic holds lane first new at) tried
      (λ x has. (
        has.0,
        has.1,
        has.2,
        sym (later at (omega arith)) ∙ has.3,
        has.4,
        has.5,
        stray_so lane old first has.0.shard has.0.shard (came_of lane has.0) (came_of lane has.0) has.2 x (task_back first old task) refl refl has.6,
      ))
      (λ x has. (
        has.0,
        has.1,
        has.2,
        later at (omega arith) ∙ has.3,
        has.4,
        has.5,
        stray_so lane first old has.0.shard has.0.shard (came_of lane has.0) (came_of lane has.0) has.2 x task refl refl has.6,
      )) says)
      told

  pub one_here : (lane : Lane) (node : NodeState L G) → ReceivesOne traffic lane node node
  one_here lane node = pairs_same _ node.peers (λ k a. omega arith)

  pub one_next : (lane : Lane) (first old new : NodeState L G) (at : ℕ)
      → ((k : ℕ) → k ≢ at → slice_get new.peers k ≡ slice_get old.peers k) → ((k : ℕ) → at ≤ k → slice_get old.peers k ≡ slice_get first.peers k)
      → ReceivesOne traffic lane first old → ReceivesOne traffic lane old new → ReceivesOne traffic lane first new
  one_next lane first old new at others later before step = record {
    long = step.long ∙ before.long;
    each = λ k d below.
        let long = before.long in
        let inside : k < length old.peers = omega (arith, below, long) in
        let x = get_or first.peers k d in
        let y = get_or old.peers k d in
        let z = get_or new.peers k d in
        let apart : k ≢ at → length (came_of lane z) ≤ 1 + length (came_of lane x) = (λ other.
        let same : z ≡ y = get_or_from_slice_get new.peers k y d (others k other ∙ slice_get-get_or old.peers k d inside) in
        let few = before.each k d below in
        subst (λ (p : PeerState L). length (came_of lane p) ≤ 1 + length (came_of lane x)) (sym same) few) in
        elim (cases_order k at) [
          | inl is ↦
              let same : y ≡ x = get_or_from_slice_get old.peers k x d (later k (omega (arith, is)) ∙ slice_get-get_or first.peers k d below) in
              let few = step.each k d inside in
              subst (λ (p : PeerState L). length (came_of lane z) ≤ 1 + length (came_of lane p)) same few
          | inr (inl less) ↦ apart (λ e. omega (arith, e, less))
          | inr (inr more) ↦ apart (λ e. omega (arith, e, more))
        ];
  }
