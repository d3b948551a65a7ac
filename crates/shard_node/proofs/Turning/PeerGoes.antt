-- What each step does to a peer: nothing falls, and where no packet went over its link it is as it was.
use Rattle.std.proofs.Common.{◌≡◌, ℕ, ◌+◌, ◌<◌, ◌↔◌, Bool, true, false, true≢false, Option, Some, None, IsSome, IsTrue, inl, inr, arith, refl, sym, ap, subst, ◌∙◌}
use Rattle.foreign_list.specs.Blocks.{Block}
use Rattle.run_log.specs.JournalState.{JournalState}
use Rattle.run_log.specs.Replies.{Replies as ReplyLog}
use Rattle.shard_store.specs.Stores.{StoreState}
use Rattle.shard_rings.specs.Lanes.{LinkEnd, Lanes, NoneFell, on, Traffic}
use Rattle.shard_rings.specs.declared.link.Lane.{Lane}
use Rattle.shard_rings.specs.declared.link.Lane.TheVariants.{Requests, Replies}
use Rattle.shard_rings.specs.declared.link.Packet.{Packet}
use Rattle.shard_parts.specs.declared.stray_packet.Tried.{Tried}
use Rattle.shard_parts.specs.declared.stray_packet.Tried.TheVariants.{Nothing, Expected, Other}
use Rattle.shard_parts.specs.declared.peer.Peer.{Peer}
use Rattle.shard_node.specs.Nodes.{PeerState}
use Rattle.shard_node.specs.Turns.{IsEmpty}
use Rattle.shard_node.specs.inside.Moves.{GoesOn, SameWith, packets, packets_with}
use Rattle.shard_parts.specs.Peers.{HoldsOther, SaysBye, SendsReply, held, peer_state}
use Rattle.shard_parts.specs.Receives.{TriesReply}
use Rattle.part_lemmas.specs.Releases.{Tries, TriesBoth}
use Rattle.shard_node.specs.inside.Seen.{has_come}
use Rattle.part_lemmas.specs.Sends.{IsRefused, IsSent, SendsHeld, TriesBye}
use Rattle.shard_node.specs.inside.Serves.{TriesRequest}
use Rattle.part_lemmas.proofs.Packets.Passed.{packets_came, packets_same, packets_sent}

none-fell : (a : Lanes ℕ) → NoneFell a a
none-fell a = (omega arith, omega arith)

empty-some : {A : Type 0} (option : Option A) → option ≡ None → IsSome option → ⊥
empty-some None is some = true≢false (sym some)
empty-some (Some x) is some = cc

module _ {L : Type 0} (traffic : L → Traffic) where
  -- no packet went over the link
  pub goes_quiet : (a b : PeerState L) → b.shard ≡ a.shard → SameWith traffic a b → NoneFell (traffic a.link).full (traffic b.link).full → NoneFell (traffic a.link).empty (traffic b.link).empty
      → ((lane : Lane) → IsEmpty (on lane a.held) → IsEmpty (on lane b.held)) → GoesOn traffic a b
  goes_quiet a b number same full empty held =
      let e = packets_same (traffic a.link) (traffic b.link) same.sent same.received in
      record { shard = number; more = omega (arith, e); full = full; empty = empty; same = λ less. same; held = λ lane none. inl (held lane none) }

  -- one did
  pub goes_moved : (a b : PeerState L) → b.shard ≡ a.shard → packets_with traffic b ≡ packets_with traffic a + 1
      → NoneFell (traffic a.link).full (traffic b.link).full → NoneFell (traffic a.link).empty (traffic b.link).empty → GoesOn traffic a b
  goes_moved a b number more full empty = record {
    shard = number;
    more = omega (arith, more);
    full = full;
    empty = empty;
    same = λ less. absurd (omega (arith, less, more));
    held = λ lane none. inr (omega (arith, more));
  }

  pub goes_same : (a : PeerState L) → GoesOn traffic a a
  goes_same a = goes_quiet a a refl (record { sent = refl; received = refl; reply = refl; keeps = refl }) (none-fell _) (none-fell _) (λ lane none. none)

  pub goes_join : (a b c : PeerState L) → GoesOn traffic a b → GoesOn traffic b c → GoesOn traffic a c
  goes_join a b c first second =
      let x = first.more in
      let y = second.more in
      record {
        shard = second.shard ∙ first.shard;
        more = omega (arith, x, y);
        full = let f = first.full in let g = second.full in (omega (arith, f, g), omega (arith, f, g));
        empty = let f = first.empty in let g = second.empty in (omega (arith, f, g), omega (arith, f, g));
        same = λ less. let p = first.same (omega (arith, less, y)) in let q = second.same (omega (arith, less, x)) in record {
          sent = q.sent ∙ p.sent;
          received = q.received ∙ p.received;
          reply = q.reply ∙ p.reply;
          keeps = q.keeps ∙ p.keeps;
        };
        held = λ lane none. elim (first.held lane none) [
          | inl empty ↦ elim (second.held lane empty) [
            | inl still ↦ inl still
            | inr more ↦ inr (omega (arith, more, x))
          ]
          | inr more ↦ inr (omega (arith, more, y))
        ];
      }

  -- the blocks that wait were tried
  none_later : (a b : Option Block) (count count' : ℕ) → Tries a b count count' → IsEmpty a → IsEmpty b
  none_later None b count count' tries none = tries.0
  none_later (Some block) b count count' tries none = absurd (empty-some (Some block) none refl)

  pub released_same : (a b : Peer L) → HoldsOther a b → SameWith traffic (peer_state a) (peer_state b)
  released_same a b is = record {
    sent = ap (λ (p : Peer L). (traffic p.link).sent) is;
    received = ap (λ (p : Peer L). (traffic p.link).received) is;
    reply = ap (λ (p : Peer L). p.reply) is;
    keeps = ap (λ (p : Peer L). (peer_state p).keeps) is;
  }

  pub releases_goes : (a b : Peer L) (count count' : ℕ) → HoldsOther a b → TriesBoth (held a) (held b) count count' → GoesOn traffic (peer_state a) (peer_state b)
  releases_goes a b count count' is tries =
      let link = ap (λ (p : Peer L). p.link) is in
      goes_quiet (peer_state a) (peer_state b) (ap (λ (p : Peer L). p.shard) is)
      (record {
        sent = ap (λ l. (traffic l).sent) link;
        received = ap (λ l. (traffic l).received) link;
        reply = ap (λ (p : Peer L). p.reply) is;
        keeps = ap (λ (p : Peer L). (peer_state p).keeps) is;
      })
      (subst (λ l. NoneFell (traffic a.link).full (traffic l).full) (sym link) (none-fell _))
      (subst (λ l. NoneFell (traffic a.link).empty (traffic l).empty) (sym link) (none-fell _))
      (both tries)
    where
      both : TriesBoth (held a) (held b) count count' → (lane : Lane) → IsEmpty (on lane (held a)) → IsEmpty (on lane (held b))
      both tries Requests none = none_later _ _ _ _ tries.requests none
      both tries Replies none = none_later _ _ _ _ tries.replies none

  module _ (end : L → LinkEnd) where
    -- a reply that waits was tried
    sent_goes : (a b : Peer L) (x y : Option Block) → a.reply ≡ x → b.reply ≡ y → SendsHeld Replies x y (traffic a.link) (traffic b.link)
        → b ≡ record a { link = b.link; reply = b.reply } → GoesOn traffic (peer_state a) (peer_state b)
    sent_goes a b None y was now sends is =
        let t = sends.1 in
        goes_quiet (peer_state a) (peer_state b) (ap (λ (p : Peer L). p.shard) is)
        (record {
          sent = ap (λ (u : Traffic). u.sent) t;
          received = ap (λ (u : Traffic). u.received) t;
          reply = now ∙ (sends.0 ∙ sym was);
          keeps = ap (λ (p : Peer L). (peer_state p).keeps) is;
        })
        (subst (λ (u : Traffic). NoneFell (traffic a.link).full u.full) (sym t) (none-fell _))
        (subst (λ (u : Traffic). NoneFell (traffic a.link).empty u.empty) (sym t) (none-fell _))
        (λ lane none. ap (λ (p : Peer L). on lane (held p)) is ∙ none)
    sent_goes a b (Some block) None was now sends is =
        goes_moved (peer_state a) (peer_state b) (ap (λ (p : Peer L). p.shard) is) (packets_sent Replies _ (traffic a.link) (traffic b.link) sends.sent sends.received) sends.full sends.empty
    sent_goes a b (Some block) (Some later) was now sends is =
        goes_quiet (peer_state a) (peer_state b) (ap (λ (p : Peer L). p.shard) is)
        (record {
          sent = sends.1.sent;
          received = sends.1.received;
          reply = now ∙ (ap (λ x. Some x) sends.0 ∙ sym was);
          keeps = ap (λ (p : Peer L). (peer_state p).keeps) is;
        })
        sends.1.full sends.1.empty (λ lane none. ap (λ (p : Peer L). on lane (held p)) is ∙ none)

    pub reply_goes : (a b : Peer L) → SendsReply traffic end a b → GoesOn traffic (peer_state a) (peer_state b)
    reply_goes a b sends = sent_goes a b a.reply b.reply refl refl sends.sends sends.same

    -- Bye was tried
    told_goes : (a b : Peer L) (x y : Bool) → a.has_sent_bye ≡ x → b.has_sent_bye ≡ y → TriesBye x y (traffic a.link) (traffic b.link)
        → b ≡ record a { link = b.link; has_sent_bye = b.has_sent_bye } → GoesOn traffic (peer_state a) (peer_state b)
    told_goes a b false true was now tries is =
        goes_moved (peer_state a) (peer_state b) (ap (λ (p : Peer L). p.shard) is) (packets_sent Requests _ (traffic a.link) (traffic b.link) tries.sent tries.received) tries.full tries.empty
    told_goes a b true y was now tries is =
        let t = tries.1 in
        goes_quiet (peer_state a) (peer_state b) (ap (λ (p : Peer L). p.shard) is)
        (record {
          sent = ap (λ (u : Traffic). u.sent) t;
          received = ap (λ (u : Traffic). u.received) t;
          reply = ap (λ (p : Peer L). p.reply) is;
          keeps = ap (λ (p : Peer L). (peer_state p).keeps) is ∙ ap (λ h. (peer_state (record a { has_sent_bye = h })).keeps) (now ∙ (tries.0 ∙ sym was));
        })
        (subst (λ (u : Traffic). NoneFell (traffic a.link).full u.full) (sym t) (none-fell _))
        (subst (λ (u : Traffic). NoneFell (traffic a.link).empty u.empty) (sym t) (none-fell _))
        (λ lane none. ap (λ (p : Peer L). on lane (held p)) is ∙ none)
    told_goes a b false false was now tries is =
        goes_quiet (peer_state a) (peer_state b) (ap (λ (p : Peer L). p.shard) is)
        (record {
          sent = tries.sent;
          received = tries.received;
          reply = ap (λ (p : Peer L). p.reply) is;
          keeps = ap (λ (p : Peer L). (peer_state p).keeps) is ∙ ap (λ h. (peer_state (record a { has_sent_bye = h })).keeps) (now ∙ sym was);
        })
        tries.full tries.empty (λ lane none. ap (λ (p : Peer L). on lane (held p)) is ∙ none)

    pub bye_goes : (a b : Peer L) → SaysBye traffic end a b → GoesOn traffic (peer_state a) (peer_state b)
    bye_goes a b says = told_goes a b a.has_sent_bye b.has_sent_bye refl refl says.tries says.same

    -- a lane was received on
    pub took_goes : (a b : Peer L) (log logged : ReplyLog) (tally tally' : ℕ) (tried : Tried) → TriesReply traffic end a b log logged tally tally' tried → GoesOn traffic (peer_state a) (peer_state b)
    took_goes a b log logged tally tally' tried (inl none) =
        let is = none.0.same in
        goes_quiet (peer_state a) (peer_state b) (ap (λ (p : Peer L). p.shard) is)
        (record { sent = none.0.came.sent; received = none.0.came.received; reply = ap (λ (p : Peer L). p.reply) is; keeps = ap (λ (p : Peer L). (peer_state p).keeps) is })
        none.0.came.full none.0.came.empty (λ lane empty. ap (λ (p : Peer L). on lane (held p)) is ∙ empty)
    took_goes a b log logged tally tally' tried (inr takes) =
        goes_moved (peer_state a) (peer_state b) (ap (λ (p : Peer L). p.shard) takes.same)
        (packets_came Replies takes.packet (traffic a.link) (traffic b.link) takes.came.received takes.came.sent) takes.came.full takes.came.empty

    pub served_goes : (a b : Peer L) (store store' : StoreState) (journal journal' : JournalState) (tally tally' : ℕ) (tried : Tried)
        → TriesRequest traffic end a b store store' journal journal' tally tally' tried → GoesOn traffic (peer_state a) (peer_state b)
    served_goes a b store store' journal journal' tally tally' tried (inl none) =
        let is = none.0.same in
        goes_quiet (peer_state a) (peer_state b) (ap (λ (p : Peer L). p.shard) is)
        (record { sent = none.0.came.sent; received = none.0.came.received; reply = ap (λ (p : Peer L). p.reply) is; keeps = ap (λ (p : Peer L). (peer_state p).keeps) is })
        none.0.came.full none.0.came.empty (λ lane empty. ap (λ (p : Peer L). on lane (held p)) is ∙ empty)
    served_goes a b store store' journal journal' tally tally' tried (inr serves) =
        goes_moved (peer_state a) (peer_state b) (ap (λ (p : Peer L). p.shard) serves.same)
        (packets_came Requests serves.packet (traffic a.link) (traffic b.link) serves.came.received serves.came.sent) serves.came.full serves.came.empty

    false-true : IsTrue false → ⊥
    false-true e = cc

    -- a packet came exactly where one more went over the link
    pub took_more : (a b : Peer L) (log logged : ReplyLog) (tally tally' : ℕ) (tried : Tried) → TriesReply traffic end a b log logged tally tally' tried
        → IsTrue (has_come tried) ↔ (packets (traffic a.link) < packets (traffic b.link))
    took_more a b log logged tally tally' tried (inl none) =
        subst (λ t. IsTrue (has_come t) ↔ (packets (traffic a.link) < packets (traffic b.link))) (sym none.3)
        (λ is. absurd (false-true is), λ less. let e = packets_same (traffic a.link) (traffic b.link) none.0.came.sent none.0.came.received in absurd (omega (arith, e, less)))
    took_more a b log logged tally tally' Nothing (inr takes) = absurd takes.ends
    took_more a b log logged tally tally' Expected (inr takes) =
        (λ is. let e = packets_came Replies takes.packet (traffic a.link) (traffic b.link) takes.came.received takes.came.sent in omega (arith, e), λ less. refl)
    took_more a b log logged tally tally' (Other stray) (inr takes) =
        (λ is. let e = packets_came Replies takes.packet (traffic a.link) (traffic b.link) takes.came.received takes.came.sent in omega (arith, e), λ less. refl)

    pub served_more : (a b : Peer L) (store store' : StoreState) (journal journal' : JournalState) (tally tally' : ℕ) (tried : Tried)
        → TriesRequest traffic end a b store store' journal journal' tally tally' tried → IsTrue (has_come tried) ↔ (packets (traffic a.link) < packets (traffic b.link))
    served_more a b store store' journal journal' tally tally' tried (inl none) =
        subst (λ t. IsTrue (has_come t) ↔ (packets (traffic a.link) < packets (traffic b.link))) (sym none.4)
        (λ is. absurd (false-true is), λ less. let e = packets_same (traffic a.link) (traffic b.link) none.0.came.sent none.0.came.received in absurd (omega (arith, e, less)))
    served_more a b store store' journal journal' tally tally' Nothing (inr serves) = absurd serves.ends
    served_more a b store store' journal journal' tally tally' Expected (inr serves) =
        (λ is. let e = packets_came Requests serves.packet (traffic a.link) (traffic b.link) serves.came.received serves.came.sent in omega (arith, e), λ less. refl)
    served_more a b store store' journal journal' tally tally' (Other stray) (inr serves) =
        (λ is. let e = packets_came Requests serves.packet (traffic a.link) (traffic b.link) serves.came.received serves.came.sent in omega (arith, e), λ less. refl)

    -- the request that waits was sent, or the lane was full
    pub asked_goes : (a : Peer L) (link : L) (owed : ℕ) (packet : Packet) → IsSent Requests packet (traffic a.link) (traffic link)
        → GoesOn traffic (peer_state a) (peer_state (record a { link = link; owed = owed }))
    asked_goes a link owed packet sent =
        goes_moved (peer_state a) (peer_state (record a { link = link; owed = owed })) refl (packets_sent Requests _ (traffic a.link) (traffic link) sent.sent sent.received) sent.full sent.empty

    pub refused_goes : (a : Peer L) (link : L) → IsRefused Requests (traffic a.link) (traffic link) → GoesOn traffic (peer_state a) (peer_state (record a { link = link }))
    refused_goes a link refused =
        goes_quiet (peer_state a) (peer_state (record a { link = link })) refl (record { sent = refused.sent; received = refused.received; reply = refl; keeps = refl }) refused.full refused.empty
        (λ lane empty. empty)
