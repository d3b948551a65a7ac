-- A node stays in standing as it does what a peer asks.
use mathlib.Core.List.{IsPrefix}
use Rattle.std.proofs.Common.{◌≡◌, ◌↔◌, ℕ, zero, suc, ◌+◌, ◌<◌, List, [], ◌∷◌, ◌++◌, length, map, take, drop, slice_get, arith, true, false, sym, ap, subst, ◌∙◌, append-nil, true≢false, Option, Some, None, if◌then◌else◌}
use Rattle.std.proofs.lemmas.List.{length-append, length-map}
use Rattle.std.proofs.lemmas.Option.{slice_get_within}
use Rattle.rows.specs.Operation.{Operation}
use Rattle.trace_text.specs.Parts.{parts}
use Rattle.rows.specs.Apply.{Reply}
use Rattle.cache_model.specs.Legal.{reply_at}
use Rattle.foreign_list.specs.Blocks.{Block}
use Rattle.run_log.specs.JournalState.{JournalState}
use Rattle.shard_store.specs.Stores.{StoreState}
use Rattle.shard_rings.specs.Lanes.{Lanes, adds, Traffic}
use Rattle.shard_rings.specs.Reply.{HoldsReply}
use Rattle.shard_rings.specs.Request.{request}
use Rattle.shard_rings.specs.declared.link.Lane.TheVariants as lanes
use Rattle.shard_rings.specs.declared.link.Packet.{Packet}
use Rattle.shard_rings.specs.declared.link.Packet.TheVariants.{Block as InBlock, Bye}
use Rattle.shard_node.specs.Nodes.{NodeState, PeerState}
use Rattle.shard_node.specs.Due.{Takes, due, is_next, operations_for, requests_taken, said}
use Rattle.shard_node.specs.Standing.{AreReplies, blocks, done_for, one_if, waiting_reply, waiting_request}
use Rattle.shard_node.proofs.Standing.Peerwise.{StandsWith, Replies_on, are_kept, later}
use Rattle.shard_node.proofs.Replies.Logged.{drop_one_more, get_first}
use Rattle.part_lemmas.proofs.Packets.Taken.{requests_more}

-- what an element at a place says of the first ones
take_one_more : {X : Type 0} (xs : List X) (n : ℕ) (x : X) → slice_get xs n ≡ Some x → take (n + 1) xs ≡ take n xs ++ x ∷ []
take_one_more [] zero x is = absurd (let e : None ≡ Some x = is in cc)
take_one_more [] (suc n) x is = absurd (let e : None ≡ Some x = is in cc)
take_one_more (y ∷ ys) zero x is = let e : Some y ≡ Some x = is in let f : y ≡ x = cc in ap (λ z. z ∷ []) f
take_one_more (y ∷ ys) (suc n) x is =
    let e : suc n + 1 ≡ suc (n + 1) = omega arith in ap (λ m. take m (y ∷ ys)) e ∙ ap (λ zs. y ∷ zs) (take_one_more ys n x is)

pub get_map : {X Y : Type 0} (f : X → Y) (xs : List X) (n : ℕ) (x : X) → slice_get xs n ≡ Some x → slice_get (map f xs) n ≡ Some (f x)
get_map f [] zero x is = absurd (let e : None ≡ Some x = is in cc)
get_map f [] (suc n) x is = absurd (let e : None ≡ Some x = is in cc)
get_map f (y ∷ ys) zero x is = let e : Some y ≡ Some x = is in let g : y ≡ x = cc in ap (λ z. Some (f z)) g
get_map f (y ∷ ys) (suc n) x is = get_map f ys n x is

-- replies to the first of some commands are replies to the first of more
pub more_numbers : (reply : ℕ → Option Reply) (packets : List Packet) (numbers more : List ℕ) → AreReplies reply packets numbers → AreReplies reply packets (numbers ++ more)
more_numbers reply [] numbers more are = tt
more_numbers reply (InBlock block ∷ packets) (i ∷ numbers) more are = (are.0, more_numbers reply packets numbers more are.1)
more_numbers reply (InBlock block ∷ packets) [] more are = absurd are
more_numbers reply (Bye ∷ packets) numbers more are = absurd are

-- one reply more, to one command more
pub one_more_reply : (reply : ℕ → Option Reply) (packets : List Packet) (numbers : List ℕ) (block : Block) (i : ℕ) (answer : Reply) → length packets ≡ length numbers
    → reply i ≡ Some answer → HoldsReply block.piece.bytes i answer → AreReplies reply packets numbers → AreReplies reply (packets ++ InBlock block ∷ []) (numbers ++ i ∷ [])
one_more_reply reply [] [] block i answer same is holds are = ((answer, is, holds), tt)
one_more_reply reply [] (j ∷ numbers) block i answer same is holds are = absurd (omega (arith, same))
one_more_reply reply (InBlock first ∷ packets) (j ∷ numbers) block i answer same is holds are =
    (are.0, one_more_reply reply packets numbers block i answer (omega (arith, same)) is holds are.1)
one_more_reply reply (InBlock first ∷ packets) [] block i answer same is holds are = absurd are
one_more_reply reply (Bye ∷ packets) numbers block i answer same is holds are = absurd are

module _ {L G : Type 0} (traffic : L → Traffic) where
  -- A peer's next request came over its link, and was done: the journal has it behind what was done for the peer, and its reply is in a
  -- block.
  pub record DidRequest (node : NodeState L G) (a : PeerState L) (link : L) (journal : JournalState) (packet : Packet)
      (operation : Operation) (block : Block) (answer : Reply) : Type 0 where
    pub sent : (traffic link).sent ≡ (traffic a.link).sent
    pub received : (traffic link).received ≡ adds lanes.Requests packet (traffic a.link).received
    pub next : is_next (due node.trace node.shards a.shard node.shard)
        (requests_taken (due node.trace node.shards a.shard node.shard) (traffic a.link).received.requests) packet ≡ true
    pub first : slice_get a.keeps.asks 0 ≡ Some operation
    pub unheard : a.keeps.has_heard_bye ≡ false
    pub idle : a.reply ≡ None
    pub done : done_for node.shards a.shard journal.entries ≡ done_for node.shards a.shard node.journal.entries ++ operation.number ∷ []
    pub on : Replies_on traffic node journal
    pub replied : reply_at node.trace node.pages journal.entries operation.number ≡ Some answer
    pub holds : HoldsReply block.piece.bytes operation.number answer

  -- what the peer's standing is where its next request was done, and the reply waits
  pub served_with : (node : NodeState L G) (a : PeerState L) (peers : List (PeerState L)) (link : L) (held : Lanes (Option Block)) (store : StoreState) (journal : JournalState) (tally : ℕ)
      (asks : List Operation) (packet : Packet) (operation : Operation) (block : Block) (answer : Reply)
      → DidRequest node a link journal packet operation block answer → asks ≡ drop 1 a.keeps.asks
      → StandsWith traffic node a
      → StandsWith traffic (later traffic node store journal node.log peers node.begun node.request node.gate tally)
      (record a { link = link; held = held; reply = Some block; keeps = record a.keeps { asks = asks } })
  served_with node a peers link held store journal tally asks packet operation block answer did left x =
      let reply = reply_at node.trace node.pages journal.entries in
      let requests = ap (λ (ps : Lanes (List Packet)). ps.requests) did.sent in
      let replies = ap (λ (ps : Lanes (List Packet)). ps.replies) did.sent in
      let came : (traffic link).received.requests ≡ (traffic a.link).received.requests ++ packet ∷ [] = ap (λ (ps : Lanes (List Packet)). ps.requests) did.received in
      let came_other : (traffic link).received.replies ≡ (traffic a.link).received.replies = ap (λ (ps : Lanes (List Packet)). ps.replies) did.received in
      let dues = due node.trace node.shards a.shard node.shard in
      let operations = operations_for node.trace node.shards a.shard node.shard in
      let t = requests_taken dues (traffic a.link).received.requests in
      let taken : requests_taken dues (traffic link).received.requests ≡ t + 1 =
      ap (requests_taken dues) came ∙ (requests_more dues (traffic a.link).received.requests packet ∙ ap (λ b. if b then t + 1 else t) did.next) in
      let here : slice_get operations t ≡ Some operation = sym (get_first operations t) ∙ (ap (λ os. slice_get os 0) (sym x.placed.asks) ∙ did.first) in
      let within : t < length operations = slice_get_within operations t operation here in
      let number : slice_get (parts node.trace node.shards a.shard node.shard) t ≡ Some operation.number = get_map (λ (o : Operation). o.number) operations t operation here in
      let longer : length dues ≡ length operations + 1 = length-append (map (λ (o : Operation). Some (request o)) operations) (None ∷ []) ∙ ap (λ n. n + 1) (length-map operations (λ (o : Operation). Some (request o))) in
      let served : done_for node.shards a.shard journal.entries ≡ take (t + 1) (parts node.trace node.shards a.shard node.shard) =
      did.done ∙ (ap (λ ns. ns ++ operation.number ∷ []) x.served ∙ sym (take_one_more (parts node.trace node.shards a.shard node.shard) t operation.number number)) in
      let none = ap one_if did.idle in
      let count = x.replies.count in
      let more = length-append (done_for node.shards a.shard node.journal.entries) (operation.number ∷ []) in
      let done_count = ap length did.done in
      let same_count = ap length replies in
      let waits : (traffic a.link).sent.replies ++ waiting_reply a.reply ≡ (traffic a.link).sent.replies = ap (λ r. (traffic a.link).sent.replies ++ waiting_reply r) did.idle ∙ append-nil (traffic a.link).sent.replies in
      let before : AreReplies reply (traffic a.link).sent.replies (done_for node.shards a.shard node.journal.entries) =
      are_kept _ reply _ _ did.on (subst (λ ps. AreReplies (reply_at node.trace node.pages node.journal.entries) ps (done_for node.shards a.shard node.journal.entries)) waits x.replies.next) in
      record {
        asked = subst (λ ps. IsPrefix (map said ps) (due node.trace node.shards node.shard a.shard)) (sym requests) x.asked;
        served = served ∙ ap (λ n. take n (parts node.trace node.shards a.shard node.shard)) (sym taken);
        replied = subst (AreReplies reply (traffic link).sent.replies) (sym did.done)
            (more_numbers reply _ _ (operation.number ∷ []) (subst (λ ps. AreReplies reply ps (done_for node.shards a.shard node.journal.entries)) (sym replies) before));
        logged = record {
          replies = x.logged.replies;
          taken = subst (λ ps. Takes node.trace (operations_for node.trace node.shards node.shard a.shard) ps x.logged.replies) (sym came_other) x.logged.taken;
          logged = x.logged.logged;
          answers = x.logged.answers;
          owed = x.logged.owed ∙ ap blocks (sym requests);
        };
        requests = record {
          count = x.requests.count ∙ ap (λ ps. blocks ps + length (waiting_request node.request a.shard)) (sym requests);
          next = subst (λ ps. IsPrefix (map said ps ++ waiting_request node.request a.shard) (due node.trace node.shards node.shard a.shard)) (sym requests) x.requests.next;
        };
        replies = record {
          count = omega (arith, none, count, more, done_count, same_count);
          next = subst (AreReplies reply ((traffic link).sent.replies ++ InBlock block ∷ [])) (sym did.done)
              (one_more_reply reply (traffic link).sent.replies (done_for node.shards a.shard node.journal.entries) block operation.number answer (omega (arith, none, count, same_count)) did.replied did.holds
              (subst (λ ps. AreReplies reply ps (done_for node.shards a.shard node.journal.entries)) (sym replies) before));
        };
        placed = record {
          asks = left ∙ (ap (drop 1) x.placed.asks ∙ (drop_one_more operations t ∙ ap (λ n. drop n operations) (sym taken)));
          heard = (
            λ is. absurd (let e = did.unheard in let f : a.keeps.has_heard_bye ≡ true = is in true≢false (sym f ∙ e)),
            λ is. absurd (omega (arith, is, taken, longer, within)),
          );
          told = subst (λ ps. (a.keeps.has_sent_bye ≡ true) ↔ (map said ps ≡ due node.trace node.shards node.shard a.shard)) (sym requests) x.placed.told;
        };
      }
