-- Nodes that were driven, their links, and what they are together.
use Rattle.std.proofs.Common.{◌≡◌, ℕ, ◌+◌, ◌<◌, ◌⊎◌, inl, inr, List, length, map, Some, slice_get, sym, ap, subst, ◌∙◌, arith}
use Rattle.std.specs.Prelude.{Vec}
use Rattle.std.specs.declared.alloc.Global.{Global}
use Rattle.std.proofs.lemmas.List.{length-map}
use Rattle.std.proofs.lemmas.Option.{slice_get-get_or, slice_get_within, same_Some}
use Rattle.trace_text.specs.Trace.{Trace}
use Rattle.foreign_list.specs.Lists.{OwnedList}
use Rattle.foreign_list.specs.OwnerSeats.{IsAtRest}
use Rattle.shard_rings.specs.Lanes.{ArePair, ArePrefixes}
use Rattle.shard_rings.specs.Links.{LinkState, end_of, traffic_of}
use Rattle.shard_rings.specs.Mesh.{Ends, IsEnd}
use Rattle.shard_node.specs.Nodes.{NodeState, PeerState, others}
use Rattle.shard_node.specs.Standing.{InStanding}
use Rattle.shard_node.specs.Together.{AreTogether, IsDoneNode, IsPeer}
use Rattle.shard_node.specs.Turns.{IsDone, IsSameNode}
use Rattle.shard_run.specs.Closing.{ArePaired, WereExchanged}
use Rattle.shard_run.specs.Opening.{AreAtRest, IsLinkOf, IsOpened, links_of}
use Rattle.shard_run.specs.Remaining.{AllCanFinish, AllHaveFacts, AreLeftBy}
use Rattle.shard_run.specs.Running.{WereDriven}
use Rattle.shard_run.specs.declared.remains.Remains.{Remains}
use Rattle.shard_run.proofs.Getting.{something_at, unmapped, mapped, across, all_at}
use Rattle.shard_run.proofs.Others.{so_many_others, place_of_other}

module _ {G : Type 0} (holds : G → ℕ) (trace : Trace) (n pages : ℕ) (homes : List OwnedList) (nodes : List (NodeState LinkState G)) (d : WereDriven holds trace n pages homes nodes) where
  pub as_many : length nodes ≡ n
  as_many = d.count ∙ d.are_opened.count

  -- the node as it was opened
  pub record WasOpened (s : ℕ) (node : NodeState LinkState G) : Type 0 where
    pub old : NodeState LinkState G
    pub old_at : slice_get d.opened s ≡ Some old
    pub home : OwnedList
    pub home_at : slice_get homes s ≡ Some home
    pub as_opened : IsOpened trace n pages s home old
    pub kept : IsSameNode end_of old node

  pub was_opened : (s : ℕ) (node : NodeState LinkState G) → slice_get nodes s ≡ Some node → WasOpened s node
  was_opened s node at =
      let w = slice_get_within nodes s node at in
      let many = as_many in
      let count = d.count in
      let lists = d.are_opened.lists.count in
      let old = something_at d.opened s (omega (arith, w, count)) in
      let home = something_at homes s (omega (arith, w, many, lists)) in
      record {
        old = old.0;
        old_at = old.1;
        home = home.0;
        home_at = home.1;
        as_opened = d.are_opened.each s home.0 old.0 home.1 old.1;
        kept = d.same s old.0 node old.1 at;
      }

  pub can_finish : AllCanFinish holds trace pages nodes
  can_finish s node at =
      let was = was_opened s node at in
      record {
        number = was.kept.shard ∙ was.as_opened.number;
        shards = was.kept.shards ∙ was.as_opened.shards ∙ sym as_many;
        room = was.kept.pages ∙ was.as_opened.room;
        work = was.kept.trace ∙ was.as_opened.work;
        done = all_at (IsDone traffic_of holds) nodes s node d.done at;
      }

  -- a link is the end that it was
  was_end : (s k : ℕ) (node : NodeState LinkState G) (x : LinkState) → slice_get nodes s ≡ Some node → slice_get (links_of node) k ≡ Some x
      → (y : LinkState) × IsLinkOf d.opened s k y × (end_of y ≡ end_of x)
  was_end s k node x at here =
      let was = was_opened s node at in
      let peer = unmapped (λ (peer : PeerState LinkState). peer.link) node.peers k x here in
      let old = across (λ (peer : PeerState LinkState). end_of peer.link) (λ (peer : PeerState LinkState). end_of peer.link) node.peers was.old.peers k peer.0 was.kept.ends peer.1 in (
        old.0.link,
        record { node = was.old; node_at = was.old_at; link_at = mapped (λ (peer : PeerState LinkState). peer.link) was.old.peers k old.0 old.1 },
        old.2 ∙ ap end_of peer.2,
      )

  one_each : (s : ℕ) (node : NodeState LinkState G) → slice_get nodes s ≡ Some node → length (links_of node) + 1 ≡ n
  one_each s node at =
      let was = was_opened s node at in
      let w = slice_get_within nodes s node at in
      let many = as_many in
      let those = so_many_others n s (omega (arith, w, many)) in
      let numbers = sym (length-map was.old.peers (λ peer. peer.shard)) ∙ ap length was.as_opened.peers in
      let ends = sym (length-map node.peers (λ peer. end_of peer.link)) ∙ (ap length was.kept.ends ∙ length-map was.old.peers (λ peer. end_of peer.link)) in
      let links = length-map node.peers (λ peer. peer.link) in
      omega (arith, those, numbers, ends, links)

  -- the links of the nodes, as they are handed back
  module _ (links : Ends) (rows : map (λ row. row.items) links ≡ map links_of nodes) where
    pub as_many_rows : length links ≡ n
    as_many_rows =
        let far = length-map links (λ row. row.items) in
        let near = length-map nodes links_of in
        let same = ap length rows in
        let many = as_many in
        omega (arith, far, near, same, many)

    row_of : (a : ℕ) (row : Vec LinkState Global) → slice_get links a ≡ Some row → (node : NodeState LinkState G) × (slice_get nodes a ≡ Some node) × (links_of node ≡ row.items)
    row_of a row at = across (λ row. row.items) links_of links nodes a row rows at

    was_end_of : (a k : ℕ) (x : LinkState) → IsEnd links a k x → (y : LinkState) × IsLinkOf d.opened a k y × (end_of y ≡ end_of x)
    was_end_of a k x e =
        let node = row_of a e.own e.own_at in
        was_end a k node.0 x node.1 (subst (λ l. slice_get l k ≡ Some x) (sym node.2) e.end_at)

    pub paired : ArePaired links
    paired = record {
      lengths = λ a own at.
          let node = row_of a own at in
          let one = one_each a node.0 node.1 in
          let row = ap length node.2 in
          let many = as_many_rows in
          omega (arith, one, row, many);
      pairs = λ a c x y le here there.
          let near = was_end_of a c x here in
          let far = was_end_of (c + 1) a y there in
          subst (λ e. ArePair e (end_of y)) near.2 (subst (λ e. ArePair (end_of near.0) e) far.2 (d.are_opened.joined a c near.0 far.0 le near.1 far.1));
    }

    -- what a node keeps of another stands at its place
    record IsPlaced (a b : ℕ) (peer : PeerState LinkState) : Type 0 where
      at : ℕ
      place : ((b < a) × (b ≡ at)) ⊎ ((a < b) × (b ≡ at + 1))
      is_end : IsEnd links a at peer.link

    placed : AllHaveFacts nodes → (a b : ℕ) (peer : PeerState LinkState) → IsPeer nodes a b peer → IsPlaced a b peer
    placed facts a b peer p =
        let was = was_opened a p.node p.of_node in
        let k = p.among.0 in
        let peer_at : slice_get p.node.peers k ≡ Some peer = slice_get-get_or p.node.peers k peer p.among.1 ∙ ap Some p.among.2 in
        let numbers : map (λ peer. peer.shard) p.node.peers ≡ others n a = (facts a p.node p.of_node).peers
        ∙ (ap (λ m. others m p.node.shard) (was.kept.shards ∙ was.as_opened.shards) ∙ ap (others n) (was.kept.shard ∙ was.as_opened.number)) in
        let number : slice_get (others n a) k ≡ Some b = subst (λ l. slice_get l k ≡ Some b) numbers (mapped (λ (peer : PeerState LinkState). peer.shard) p.node.peers k peer peer_at ∙ ap Some p.toward) in
        let row = across links_of (λ row. row.items) nodes links a p.node (sym rows) p.of_node in
        record {
          at = k;
          place = place_of_other n a k b number;
          is_end = record {
            own = row.0;
            own_at = row.1;
            end_at = subst (λ l. slice_get l k ≡ Some peer.link) (sym row.2) (mapped (λ (peer : PeerState LinkState). peer.link) p.node.peers k peer peer_at);
          };
        }

    met : AllHaveFacts nodes → WereExchanged links → (a b : ℕ) (p q : PeerState LinkState) → IsPeer nodes a b p → IsPeer nodes b a q
        → ArePrefixes (traffic_of p.link).received (traffic_of q.link).sent
    met facts exchanged a b p q here there =
        let near = placed facts a b p here in
        let far = placed facts b a q there in
        elim near.place [
          | inl low ↦ elim far.place [
            | inl lower ↦ absurd (let x = low.0 in let y = lower.0 in omega (arith, x, y))
            | inr high ↦
                let x = low.1 in
                let y = high.1 in
                let less = low.0 in
                (exchanged b far.at q.link p.link (omega (arith, y, less)) far.is_end
                (subst (λ k. IsEnd links k b p.link) y (subst (λ k. IsEnd links a k p.link) (sym x) near.is_end))).1
          ]
          | inr high ↦ elim far.place [
            | inl low ↦
                let x = high.1 in
                let y = low.1 in
                let less = high.0 in
                (exchanged a near.at p.link q.link (omega (arith, x, less)) near.is_end
                (subst (λ k. IsEnd links k a q.link) x (subst (λ k. IsEnd links b k q.link) (sym y) far.is_end))).0
            | inr higher ↦ absurd (let x = high.0 in let y = higher.0 in omega (arith, x, y))
          ]
        ]

    done_node : AllHaveFacts nodes → (s : ℕ) (node : NodeState LinkState G) → slice_get nodes s ≡ Some node → IsDoneNode traffic_of holds trace n pages s node
    done_node facts s node at =
        let was = was_opened s node at in
        record {
          number = was.kept.shard ∙ was.as_opened.number;
          of_shards = was.kept.shards ∙ was.as_opened.shards;
          of_pages = was.kept.pages ∙ was.as_opened.room;
          of_trace = was.kept.trace ∙ was.as_opened.work;
          peers = (facts s node at).peers ∙ (ap (λ m. others m node.shard) (was.kept.shards ∙ was.as_opened.shards) ∙ ap (others n) (was.kept.shard ∙ was.as_opened.number));
          standing = all_at (InStanding traffic_of) nodes s node d.standing at;
          done = all_at (IsDone traffic_of holds) nodes s node d.done at;
          counted = (facts s node at).counted;
        }

    pub together : AllHaveFacts nodes → WereExchanged links → AreTogether traffic_of holds trace n pages nodes
    together facts exchanged = record { count = as_many; each = done_node facts; met = met facts exchanged }

  -- the seats are those of the lists of the run
  pub seats_back : (remains : Remains) → AreLeftBy nodes remains → AreAtRest n homes remains.seats.items
  seats_back remains left = record {
    lists = d.are_opened.lists;
    one_each = left.one_seat_each ∙ as_many;
    at_rest = λ s home seat at there.
        let w = slice_get_within homes s home at in
        let lists = d.are_opened.lists.count in
        let many = as_many in
        let node = something_at nodes s (omega (arith, w, lists, many)) in
        let was = was_opened s node.0 node.1 in
        let same : was.home ≡ home = same_Some was.home home (sym was.home_at ∙ at) in
        subst (λ l. IsAtRest l seat) (was.kept.home ∙ (was.as_opened.list ∙ same)) (left.seats s node.0 seat node.1 there);
  }
