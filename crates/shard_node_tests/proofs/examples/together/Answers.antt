-- The definitions compute on the example.
use Rattle.std.proofs.Common.{◌≡◌, ℕ, zero, suc, inl, List, [], ◌∷◌, length, get_or, slice_get, Option, Some, None, IsSome, refl, sym, ap, subst, arith}
use Rattle.std.specs.List.{All, Contains}
use Rattle.std.proofs.lemmas.List.Elements.{All-cons, All-contains, All-nil}
use Rattle.std.proofs.lemmas.Option.{same_Some}
use Rattle.cache_model.specs.declared.entry.Entry.TheVariants.{Done}
use Rattle.rows.specs.declared.reply_kind.ReplyKind.{ReplyKind}
use Rattle.rows.specs.Apply.{Stored}
use Rattle.cache_model.specs.Examples.{put_b}
use Rattle.foreign_list.specs.Blocks.{Block}
use Rattle.shard_store.specs.Stores.{StoreState}
use Rattle.shard_rings.specs.Lanes.{ArePrefixes, Traffic}
use Rattle.shard_rings.specs.Reply.{HoldsReply}
use Rattle.shard_rings.specs.declared.link.Packet.{Packet}
use Rattle.shard_rings.specs.declared.link.Packet.TheVariants.{Bye}
use Rattle.shard_node.specs.Nodes.{NodeState, PeerState}
use Rattle.shard_node_tests.specs.Examples.{at_owner, packet, put_reply, put_request}
use Rattle.shard_node.specs.Standing.{InStanding, AsksInOrder, ServesInOrder, RepliesInOrder, LogsWhatCame, SendsEachRequest, SendsEachReply, KnowsItsPlace}
use Rattle.shard_node.specs.Together.{IsDoneNode, IsPeer}
use Rattle.shard_node_tests.specs.TogetherExamples.{at_origin, both, peer_owner}
use Rattle.shard_node.specs.Turns.{HasParted, IsDone}
use Rattle.shard_node_tests.proofs.examples.together.Goals as goal

one : {X : Type 0} (P : X → Type 0) (x : X) → P x → All P (x ∷ [])
one P x p = All-cons P x [] p (All-nil P)

holds : HoldsReply put_reply 1 Stored
holds = record { numbered = omega arith; sendable = tt; begins = refl }

abbrev replied : Block → List Packet
replied block = packet block put_reply ∷ []

abbrev origin_done : Block → StoreState → NodeState Traffic (Unit {0})
origin_done block store = at_origin block store (replied block)

abbrev owner_done : Block → StoreState → NodeState Traffic (Unit {0})
owner_done block store = at_owner block store (packet block put_request ∷ Bye ∷ []) (Done 1 ∷ [])

origin-stands : (block : Block) (store : StoreState) → InStanding (λ link. link) (origin_done block store)
origin-stands block store = record {
  journal = record { legal = refl; pressure = λ one. cc };
  asked = one (AsksInOrder (λ link. link) (origin_done block store)) _ ([], refl);
  served = one (ServesInOrder (λ link. link) (origin_done block store)) _ refl;
  own = refl;
  replied = one (RepliesInOrder (λ link. link) (origin_done block store)) _ tt;
  logged = record {
    one_each = refl;
    own = refl;
    others = one (LogsWhatCame (λ link. link) (origin_done block store)) _ (record { replies = Stored ∷ []; taken = inl (Stored, [], refl, (holds, tt), refl); logged = refl; answers = refl; owed = refl });
  };
  lent = record { lends = refl; out = refl };
  kept = record {
    received = record { released = 1; all = refl; counted = refl };
    requests = one (SendsEachRequest (λ link. link) (origin_done block store)) _ (record { count = refl; next = ([], refl) });
    replies = one (SendsEachReply (λ link. link) (origin_done block store)) _ (record { count = refl; next = tt });
  };
  placed = one (KnowsItsPlace (λ link. link) (origin_done block store)) _ (record { asks = refl; heard = (λ e. refl, λ e. refl); told = (λ e. refl, λ e. refl) });
}

owner-stands : (block : Block) (store : StoreState) → InStanding (λ link. link) (owner_done block store)
owner-stands block store = record {
  journal = record { legal = refl; pressure = λ one. cc };
  asked = one (AsksInOrder (λ link. link) (owner_done block store)) _ ([], refl);
  served = one (ServesInOrder (λ link. link) (owner_done block store)) _ refl;
  own = refl;
  replied = one (RepliesInOrder (λ link. link) (owner_done block store)) _ ((Stored, refl, holds), tt);
  logged = record { one_each = refl; own = refl; others = one (LogsWhatCame (λ link. link) (owner_done block store)) _ (record { replies = []; taken = refl; logged = refl; answers = refl; owed = refl }) };
  lent = record { lends = refl; out = refl };
  kept = record {
    received = record { released = 1; all = refl; counted = refl };
    requests = one (SendsEachRequest (λ link. link) (owner_done block store)) _ (record { count = refl; next = ([], refl) });
    replies = one (SendsEachReply (λ link. link) (owner_done block store)) _ (record { count = refl; next = ((Stored, refl, holds), tt) });
  };
  placed = one (KnowsItsPlace (λ link. link) (owner_done block store)) _ (record { asks = refl; heard = (λ e. refl, λ e. refl); told = (λ e. refl, λ e. refl) });
}

origin-ended : (block : Block) (store : StoreState) → IsDone (λ link. link) (λ gate. 0) (origin_done block store)
origin-ended block store = record {
  answered = one (λ (reply : Option (ReplyKind × List ℕ)). IsSome reply) _ refl;
  parted = one (HasParted (λ link. link) (λ gate. 0) (origin_done block store)) _ (record { heard = refl; told = refl; released_requests = refl; released_replies = refl; replied = refl });
  asked = refl;
  idle = refl;
}

owner-ended : (block : Block) (store : StoreState) → IsDone (λ link. link) (λ gate. 0) (owner_done block store)
owner-ended block store = record {
  answered = All-nil (λ (reply : Option (ReplyKind × List ℕ)). IsSome reply);
  parted = one (HasParted (λ link. link) (λ gate. 0) (owner_done block store)) _ (record { heard = refl; told = refl; released_requests = refl; released_replies = refl; replied = refl });
  asked = refl;
  idle = refl;
}

each-done : (block : Block) (store : StoreState) (s : ℕ) (node : NodeState Traffic (Unit {0})) → slice_get (both block store (replied block) (Done 1 ∷ [])) s ≡ Some node
    → IsDoneNode (λ link. link) (λ gate. 0) put_b 2 8192 s node
each-done block store zero node here = subst (IsDoneNode (λ link. link) (λ gate. 0) put_b 2 8192 0) (same_Some _ _ here)
    (record { number = refl; of_shards = refl; of_pages = refl; of_trace = refl; peers = refl; standing = origin-stands block store; done = origin-ended block store; counted = omega arith })
each-done block store (suc zero) node here = subst (IsDoneNode (λ link. link) (λ gate. 0) put_b 2 8192 1) (same_Some _ _ here)
    (record { number = refl; of_shards = refl; of_pages = refl; of_trace = refl; peers = refl; standing = owner-stands block store; done = owner-ended block store; counted = omega arith })
each-done block store (suc (suc s)) node here = absurd (let clash : None ≡ Some node = here in cc)

origin-among : (block : Block) (store : StoreState) (node : NodeState Traffic (Unit {0})) (p : PeerState Traffic) → Some (origin_done block store) ≡ Some node → Contains node.peers p
    → Contains (origin_done block store).peers p
origin-among block store node p here among = subst (λ (m : NodeState Traffic (Unit {0})). Contains m.peers p) (sym (same_Some _ _ here)) among

owner-among : (block : Block) (store : StoreState) (node : NodeState Traffic (Unit {0})) (p : PeerState Traffic) → Some (owner_done block store) ≡ Some node → Contains node.peers p
    → Contains (owner_done block store).peers p
owner-among block store node p here among = subst (λ (m : NodeState Traffic (Unit {0})). Contains m.peers p) (sym (same_Some _ _ here)) among

-- what shard 1 keeps of shard 0
abbrev peer_origin : Block → StoreState → PeerState Traffic
peer_origin block store = get_or (owner_done block store).peers 0 (peer_owner block [])

-- each received what the other sent
origin-owner : (block : Block) (store : StoreState) (p q : PeerState Traffic) → Contains (origin_done block store).peers p → Contains (owner_done block store).peers q
    → ArePrefixes p.link.received q.link.sent × ArePrefixes q.link.received p.link.sent
origin-owner block store p q left right =
    let Met : PeerState Traffic → PeerState Traffic → Type 0 = λ a b. ArePrefixes a.link.received b.link.sent × ArePrefixes b.link.received a.link.sent in
    let owner = peer_owner block (replied block) in
    let origin = peer_origin block store in
    All-contains (λ a. Met a q) (owner ∷ []) p
    (one (λ a. Met a q) owner (All-contains (Met owner) (origin ∷ []) q (one (Met owner) origin ((([], refl), ([], refl)), (([], refl), ([], refl)))) right)) left

both-met : (block : Block) (store : StoreState) (a b : ℕ) (p q : PeerState Traffic) → IsPeer (both block store (replied block) (Done 1 ∷ [])) a b p
    → IsPeer (both block store (replied block) (Done 1 ∷ [])) b a q → ArePrefixes p.link.received q.link.sent
both-met block store zero zero p q left right =
    let number : p.shard ≡ 1 = All-contains (λ (r : PeerState Traffic). r.shard ≡ 1) (origin_done block store).peers p (one (λ (r : PeerState Traffic). r.shard ≡ 1) _ refl) (origin-among block store left.node p left.of_node left.among) in
    let other = left.toward in
    absurd (omega (arith, number, other))
both-met block store zero (suc zero) p q left right =
    (origin-owner block store p q (origin-among block store left.node p left.of_node left.among) (owner-among block store right.node q right.of_node right.among)).0
both-met block store zero (suc (suc b)) p q left right = absurd (let clash : None ≡ Some right.node = right.of_node in cc)
both-met block store (suc zero) zero p q left right =
    (origin-owner block store q p (origin-among block store right.node q right.of_node right.among) (owner-among block store left.node p left.of_node left.among)).1
both-met block store (suc zero) (suc zero) p q left right =
    let number : p.shard ≡ 0 = All-contains (λ (r : PeerState Traffic). r.shard ≡ 0) (owner_done block store).peers p (one (λ (r : PeerState Traffic). r.shard ≡ 0) _ refl) (owner-among block store left.node p left.of_node left.among) in
    let other = left.toward in
    absurd (omega (arith, number, other))
both-met block store (suc zero) (suc (suc b)) p q left right = absurd (let clash : None ≡ Some right.node = right.of_node in cc)
both-met block store (suc (suc a)) b p q left right = absurd (let clash : None ≡ Some left.node = left.of_node in cc)

pub returns : goal.returns
returns c block store =
    let twice : List Packet = packet block put_reply ∷ packet block put_reply ∷ [] in
    record {
      together = record { count = refl; each = each-done block store; met = both-met block store };
      not_sent = λ x.
          let met = x.met 0 1 (peer_owner block twice) (peer_origin block store) (record { node = at_origin block store twice; of_node = refl; among = (0, omega arith, refl); toward = refl })
          (record { node = owner_done block store; of_node = refl; among = (0, omega arith, refl); toward = refl }) in
          let longer : suc (suc (length met.1.0)) ≡ 1 = ap length met.1.1 in
          omega (arith, longer);
      not_done = λ x. let e : ◌≡◌ {A = List ℕ} [] (1 ∷ []) = x.complete 1 [] (omega arith) 0 (omega arith) in cc;
    }
