-- What the nodes of a run say together, once all of them are done.
use Rattle.std.proofs.Common.{◌≡◌, ◌≢◌, ℕ, ◌+◌, ◌≤◌, ◌<◌, ◌==◌, not, cond, List, length, map, take, get_or, slice_get, inl, inr, arith, sym, ap, ap₂, subst, ◌∙◌}
use Rattle.std.proofs.Common.{Option, Some, IsSome, option_and_then}
use Rattle.std.specs.List.{All, Contains, count_by, range_with_len, sum_by}
use Rattle.std.specs.Option.{option_map}
use Rattle.std.proofs.Math.Nat.{mod-lt}
use Rattle.std.proofs.lemmas.Bool.{cases_eq}
use Rattle.std.proofs.lemmas.List.{length-map}
use Rattle.std.proofs.lemmas.List.Elements.{All-take}
use Rattle.std.proofs.lemmas.List.Sums.{length-filter}
use Rattle.std.proofs.lemmas.Option.{get_or_from_slice_get, same_Some, slice_get-map, slice_get_within}
use Rattle.rows.specs.Operation.{Operation}
use Rattle.trace_text.specs.Parts.{origin, parts}
use Rattle.trace_text.specs.Trace.{Trace}
use Rattle.cache_model.specs.declared.entry.Entry.{Entry}
use Rattle.rows.specs.declared.reply_kind.ReplyKind.{ReplyKind}
use Rattle.cache_model.specs.Legal.{IsComplete, IsLegal, cache_after, done, reply_at}
use Rattle.cache_model.specs.OwnParts.{HoldsReplies, issued_parts, part_reply, parts_of}
use Rattle.cache_model.specs.Report.{lent}
use Rattle.rows.specs.Spelled.{spelled}
use Rattle.layout.specs.Counts.{raised}
use Rattle.shard_memory.specs.Tickets.{tickets_out}
use Rattle.shard_rings.specs.Lanes.{Lanes, Traffic}
use Rattle.shard_node.specs.Nodes.{NodeState, PeerState}
use Rattle.shard_node.specs.Due.{Takes, due, operations_for}
use Rattle.shard_node.specs.Together.{Agree, AreTogether, IsCompleteNode, IsPeer, journals_of, logs_of}
use Rattle.part_lemmas.proofs.OwnParts.IssuedParts.{AreOfPeers}
use Rattle.part_lemmas.proofs.OwnParts.LogPlaces.{at_shard}
use Rattle.part_lemmas.proofs.OwnParts.NextPart.{TellsNumbers}
use Rattle.part_lemmas.proofs.Cursors.Places.{IsNumbered}
use Rattle.part_lemmas.proofs.Together.Lent.{all-back, but-one, counted-each, sum-agree}
use Rattle.part_lemmas.proofs.Together.Lists.{is-there}
use Rattle.part_lemmas.proofs.Together.Logs.{holds-replies, issued-below, of-all-parts}
use Rattle.part_lemmas.proofs.Together.Replies.{IsOneReply, replies-received, replies-told}
use Rattle.part_lemmas.proofs.Together.Requests.{requests-received}
use Rattle.shard_node.proofs.Together.OneDone.{Itself, Toward, complete-node, itself as of-itself, leads as leads-to, peer-of as peer-toward, replied-at, toward as of-peer}

lanes-same : {A : Type 0} (x y : Lanes A) → x.requests ≡ y.requests → x.replies ≡ y.replies → x ≡ y
lanes-same {A} x y requests replies = ap₂ (λ (a b : A). let lanes : Lanes A = record { requests = a; replies = b } in lanes) requests replies

module _ {L G : Type 0} (traffic : L → Traffic) (holds : G → ℕ) (peers : AreOfPeers) (tells : TellsNumbers) (one : IsOneReply) (trace : Trace) (n pages : ℕ) (nodes : List (NodeState L G))
    (are : IsNumbered trace.operations) (some : 1 ≤ n) (x : AreTogether traffic holds trace n pages nodes) where
  node-at : (s : ℕ) → s < n → (node : NodeState L G) × (slice_get nodes s ≡ Some node)
  node-at s below = let many = x.count in is-there nodes s (omega (arith, many, below))

  within : (s : ℕ) (node : NodeState L G) → slice_get nodes s ≡ Some node → s < n
  within s node here = let many = x.count in let inside = slice_get_within nodes s node here in omega (arith, many, inside)

  itself : (s : ℕ) (node : NodeState L G) → slice_get nodes s ≡ Some node
      → Itself trace n pages s node.journal.entries node.log.replies node.begun node.store.lends
  itself s node here = of-itself traffic holds peers tells trace n pages are s node (x.each s node here)

  toward : (a b : ℕ) (node : NodeState L G) (peer : PeerState L) → slice_get nodes a ≡ Some node → Contains node.peers peer → peer.shard ≡ b
      → Toward trace n pages a b node.journal.entries node.log.replies node.begun (traffic peer.link).sent (traffic peer.link).received
  toward a b node peer here = of-peer traffic holds peers tells trace n pages are a node (x.each a node here) b peer

  -- each node keeps something of each other one
  peer-of : (a b : ℕ) (node : NodeState L G) → slice_get nodes a ≡ Some node → b < n → b ≢ a → (peer : PeerState L) × Contains node.peers peer × (peer.shard ≡ b)
  peer-of a b node here = peer-toward traffic holds peers tells trace n pages are a node (x.each a node here) b

  -- each is complete by itself
  alone : (s : ℕ) (node : NodeState L G) → slice_get nodes s ≡ Some node → IsCompleteNode traffic trace n pages s node
  alone s node here = complete-node traffic holds peers tells trace n pages are s node (x.each s node here)

  -- The journals.

  journal-at : (s : ℕ) (node : NodeState L G) → slice_get nodes s ≡ Some node → slice_get (journals_of nodes) s ≡ Some node.journal.entries
  journal-at s node here = slice_get-map (λ (m : NodeState L G). m.journal.entries) nodes s ∙ ap (option_map (λ (m : NodeState L G). m.journal.entries)) here

  leads : (s : ℕ) (node : NodeState L G) → slice_get nodes s ≡ Some node → cache_after trace pages node.journal.entries ≡ Some node.store.rows
  leads s node here = leads-to traffic holds peers tells trace n pages are s node (x.each s node here)

  legal : All (IsLegal trace pages) (journals_of nodes)
  legal k d below =
      let many = length-map nodes (λ (m : NodeState L G). m.journal.entries) in
      let all = x.count in
      let node = node-at k (omega (arith, many, all, below)) in
      let is : get_or (journals_of nodes) k d ≡ node.0.journal.entries = get_or_from_slice_get (journals_of nodes) k node.0.journal.entries d (journal-at k node.0 node.1) in
      subst (IsLegal trace pages) (sym is) (alone k node.0 node.1).legal

  complete : (s : ℕ) (d : List Entry) → s < n → IsComplete trace n s (get_or (journals_of nodes) s d)
  complete s d below =
      let node = node-at s below in
      let is : get_or (journals_of nodes) s d ≡ node.0.journal.entries = get_or_from_slice_get (journals_of nodes) s node.0.journal.entries d (journal-at s node.0 node.1) in
      subst (IsComplete trace n s) (sym is) (alone s node.0 node.1).complete

  -- The replies.

  replied : All (λ operation. All (λ part. IsSome (part_reply trace pages (journals_of nodes) part)) (parts_of n operation)) trace.operations
  replied = of-all-parts (λ part. IsSome (part_reply trace pages (journals_of nodes) part)) trace n some
      (λ o s low below.
      let node = node-at s below in
      subst (λ j. All (λ i. IsSome (option_and_then (λ journal. reply_at trace pages journal i) j)) (parts trace n o s)) (sym (journal-at s node.0 node.1))
      (replied-at traffic holds peers tells trace n pages are s node.0 (x.each s node.0 node.1) o low))

  -- The links: p and q are those of nodes a and b, toward each other.

  requests-met : (a b : ℕ) (p q : PeerState L) → IsPeer nodes a b p → IsPeer nodes b a q → (traffic p.link).received.requests ≡ (traffic q.link).sent.requests
  requests-met a b p q left right =
      let here = toward a b left.node p left.of_node left.among left.toward in
      let there = toward b a right.node q right.of_node right.among right.toward in
      requests-received (due trace n b a) (traffic q.link).sent.requests (traffic p.link).received.requests (x.met a b p q left right).0 there.told here.heard

  replies-met : (a b : ℕ) (p q : PeerState L) → IsPeer nodes a b p → IsPeer nodes b a q → (traffic p.link).received.replies ≡ (traffic q.link).sent.replies
  replies-met a b p q left right =
      let here = toward a b left.node p left.of_node left.among left.toward in
      let there = toward b a right.node q right.of_node right.among right.toward in
      replies-received trace (operations_for trace n a b) (traffic q.link).sent.replies (traffic p.link).received.replies here.replies (x.met a b p q left right).1 here.taken
      (there.count ∙ sym here.many)

  exchanged : (a b : ℕ) (p q : PeerState L) → IsPeer nodes a b p → IsPeer nodes b a q → (traffic p.link).received ≡ (traffic q.link).sent
  exchanged a b p q left right = lanes-same (traffic p.link).received (traffic q.link).sent (requests-met a b p q left right) (replies-met a b p q left right)

  -- The logs.

  -- what node o has of the parts that shard q does
  logged-at-shard : (o q : ℕ) (node other : NodeState L G) → slice_get nodes o ≡ Some node → slice_get nodes q ≡ Some other
      → at_shard q (issued_parts trace n o) node.log.replies ≡ map (λ i. option_map spelled (reply_at trace pages other.journal.entries i)) (parts trace n o q)
  logged-at-shard o q node other here there = elim (cases_eq q o) [
    | inl same ↦
        let again : node ≡ other = same-node (ap (slice_get nodes) (sym same)) in
        subst (λ s. at_shard s (issued_parts trace n o) node.log.replies ≡ map (λ i. option_map spelled (reply_at trace pages other.journal.entries i)) (parts trace n o s)) (sym same)
        (subst (λ (m : NodeState L G). at_shard o (issued_parts trace n o) node.log.replies ≡ map (λ i. option_map spelled (reply_at trace pages m.journal.entries i)) (parts trace n o o)) again
        (itself o node here).logged)
    | inr away ↦
        let p = peer-of o q node here (within q other there) away in
        let r = peer-of q o other there (within o node here) (λ e. away (sym e)) in
        let ours = toward o q node p.0 here p.1 p.2 in
        let theirs = toward q o other r.0 there r.1 r.2 in
        let sent = (traffic r.0.link).sent.replies in
        let met : (traffic p.0.link).received.replies ≡ sent =
        replies-met o q p.0 r.0 (record { node = node; of_node = here; among = p.1; toward = p.2 }) (record { node = other; of_node = there; among = r.1; toward = r.2 }) in
        let numbers = length-map (operations_for trace n o q) (λ (y : Operation). y.number) in
        let count = theirs.count in
        ours.logged
        ∙ replies-told one (reply_at trace pages other.journal.entries) trace (operations_for trace n o q) sent ours.replies
        (subst (λ packets. Takes trace (operations_for trace n o q) packets ours.replies) met ours.taken) (ours.many ∙ sym count) (omega (arith, numbers, count)) theirs.replied
  ]
    where
      same-node : slice_get nodes o ≡ slice_get nodes q → node ≡ other
      same-node e = same_Some node other (sym here ∙ e ∙ there)

  logged : (o : ℕ) (d : List (Option (ReplyKind × List ℕ))) → o < n → HoldsReplies trace n o (part_reply trace pages (journals_of nodes)) (get_or (logs_of nodes) o d)
  logged o d below =
      let node = node-at o below in
      let log = node.0.log.replies in
      let there : slice_get (logs_of nodes) o ≡ Some log = slice_get-map (λ (m : NodeState L G). m.log.replies) nodes o ∙ ap (option_map (λ (m : NodeState L G). m.log.replies)) node.1 in
      subst (HoldsReplies trace n o (part_reply trace pages (journals_of nodes))) (sym (get_or_from_slice_get (logs_of nodes) o log d there))
      (holds-replies peers trace n o (part_reply trace pages (journals_of nodes)) log some (itself o node.0 node.1).one_each
      (λ q low.
      let other = node-at q low in
      logged-at-shard o q node.0 other.0 node.1 other.1
      ∙ ap (λ j. map (λ i. option_map spelled (option_and_then (λ journal. reply_at trace pages journal i) j)) (parts trace n o q)) (sym (journal-at q other.0 other.1))))

  -- The blocks.

  asked-all : (s : ℕ) (node : NodeState L G) → slice_get nodes s ≡ Some node
      → count_by (λ part. not (part.1 == s)) (take node.begun (issued_parts trace n s)) ≡ sum_by (λ q. cond (q == s) 0 (length (parts trace n s q))) (range_with_len 0 n)
  asked-all s node here =
      let begun = take node.begun (issued_parts trace n s) in
      counted-each (λ (part : ℕ × ℕ). part.1) n s begun (All-take (λ (part : ℕ × ℕ). part.1 < n) node.begun (issued_parts trace n s) (issued-below trace n s some))
      ∙ sum-agree (λ q. cond (q == s) 0 (count_by (λ (part : ℕ × ℕ). part.1 == q) begun)) (λ q. cond (q == s) 0 (length (parts trace n s q))) n
      (λ q below. but-one q s _ _ (λ other.
      let peer = peer-of s q node here below other in
      sym (length-filter (λ (part : ℕ × ℕ). part.1 == q) begun) ∙ (toward s q node peer.0 here peer.1 peer.2).asked))

  done-all : (s : ℕ) (node : NodeState L G) → slice_get nodes s ≡ Some node
      → count_by (λ i. not (origin i n == s)) (done node.journal.entries) ≡ sum_by (λ o. cond (o == s) 0 (length (parts trace n o s))) (range_with_len 0 n)
  done-all s node here =
      let numbers = done node.journal.entries in
      counted-each (λ i. origin i n) n s numbers (λ k d below. mod-lt _ some)
      ∙ sum-agree (λ o. cond (o == s) 0 (count_by (λ i. origin i n == o) numbers)) (λ o. cond (o == s) 0 (length (parts trace n o s))) n
      (λ o below. but-one o s _ _ (λ other. sym (length-filter (λ i. origin i n == o) numbers) ∙ ap length ((alone s node here).complete o below)))

  occupied : (s : ℕ) (node : NodeState L G) → slice_get nodes s ≡ Some node → (node.store.lends ≡ raised 0 (lent trace n s)) × (node.store.backs ≡ raised 0 (lent trace n s))
  occupied s node here =
      let d = x.each s node here in
      let lends : node.store.lends ≡ raised 0 (lent trace n s) = (itself s node here).lent_each ∙ ap₂ (λ j k. raised 0 (j + k)) (asked-all s node here) (done-all s node here) in
      (lends, all-back node.store.lends node.store.backs (tickets_out node.store.lent) d.standing.lent.out d.done.idle d.counted ∙ lends)

  pub agree : Agree traffic trace n pages nodes
  agree = record {
    shards = length-map nodes (λ (m : NodeState L G). m.journal.entries) ∙ x.count;
    legal = legal;
    complete = complete;
    replied = replied;
    logged = logged;
    occupied = occupied;
    exchanged = exchanged;
    cache = leads;
  }
