use Rattle.std.proofs.Common.{◌≤◌, ◌≡◌, ◌<◌, arith, refl, length, true≢false, subst, sym, ◌∙◌, ap}
use Rattle.shard_rings.specs.Lanes.{on}
use Rattle.std.specs.Vec.{with_items}
use Rattle.std.proofs.lemmas.List.{with_items_is}
use Rattle.shard_parts.specs.Peers.{Each, HoldsOther, held_by_all}
use Rattle.part_lemmas.specs.Releases.{Releases}
use Rattle.shard_parts.specs.Peers.{peer_state}
use Rattle.shard_node.proofs.Standing.PeerPairs.{pairs_same, seen_pairs}
use Rattle.shard_node.proofs.Turning.Calms.{none_to_release}
use Rattle.shard_node.proofs.Turning.Joins.{no_step}
use Rattle.shard_node.proofs.Turning.Steps.{releases}
use Rattle.shard_parts.specs.Peers.{TriesHeld}
use Rattle.shard_node.specs.inside.Shards.{node_state}
use Rattle.shard_node.proofs.Turning.Frees.{frees, not_less, races}
use Rattle.shard_node.proofs.Turning.PeerGoes.{goes_same, released_same, releases_goes}
use Rattle.shard_node.proofs.Turning.StepGoes.{no_more}
use Rattle.shard_node.proofs.shard.Shard.release_held.Goals as goal

pub returns-then-calm : goal.returns-then-calm
returns-then-calm g c =
    let traffic = g.L.Link.traffic in
    let self = c.args.self.now in
    record {
      step = no_step traffic g.L.Link.end self c.requires.consistent;
      received = λ lane. pairs_same _ _ (λ k a. (refl, refl));
      goes = record {
        peers = pairs_same _ _ (λ k a. goes_same traffic a);
        done = omega arith;
        backs = omega arith;
        looks = omega arith;
        tally = no_more self.tally;
      };
      own = (refl, refl);
      released = λ so. absurd (true≢false (sym so));
      raced = λ unmet. record {
        request = refl;
        begun = refl;
        gate = refl;
        store = refl;
        done = refl;
        peers = none_to_release traffic g.G.Gate.holds (node_state self) (c.requires.calm c.if-calm.true);
      };
      calm = c.requires.calm;
    }

pub returns : goal.returns
returns g c =
    let traffic = g.L.Link.traffic in
    let peers = c.release_all.new.peers in
    let items = (with_items c.args.self.now.peers peers).items in
    let is : items ≡ peers = with_items_is c.args.self.now.peers peers (c.release_all.auto.peers ∙ c.as_mut_slice.ensures.len) in
    let old = c.as_mut_slice.ensures.value in
    let tried : Each TriesHeld c.args.self.now.peers.items items =
    subst (Each TriesHeld c.args.self.now.peers.items) (sym is) (subst (λ ps. Each TriesHeld ps peers) old c.release_all.ensures.each) in
    let freed : Releases (held_by_all c.args.self.now.peers.items) (held_by_all items) c.args.self.now.tally c.release_all.new.tally =
    subst (λ ps. Releases (held_by_all c.args.self.now.peers.items) (held_by_all ps) c.args.self.now.tally c.release_all.new.tally) (sym is)
    (subst (λ ps. Releases (held_by_all ps) (held_by_all peers) c.args.self.now.tally c.release_all.new.tally) old c.release_all.ensures.releases) in
    record {
      step = releases g.L.Link.traffic g.L.Link.end c.args.self.now (with_items c.args.self.now.peers peers) c.release_all.new.tally
          (ap length is ∙ (c.release_all.auto.peers ∙ ap length old))
          (subst (Each HoldsOther c.args.self.now.peers.items) (sym is) (subst (λ ps. Each HoldsOther ps peers) old (λ k d below. (c.release_all.ensures.each k d below).same)))
          (subst (λ ps. Releases (held_by_all c.args.self.now.peers.items) (held_by_all ps) c.args.self.now.tally c.release_all.new.tally) (sym is)
          (subst (λ ps. Releases (held_by_all ps) (held_by_all peers) c.args.self.now.tally c.release_all.new.tally) old c.release_all.ensures.releases))
          c.requires.consistent;
      received = λ lane. seen_pairs peer_state _ c.args.self.now.peers.items items (ap length is ∙ (c.release_all.auto.peers ∙ ap length old))
          (λ k d below.
          let e = subst (Each HoldsOther c.args.self.now.peers.items) (sym is) (subst (λ ps. Each HoldsOther ps peers) old (λ k d below. (c.release_all.ensures.each k d below).same)) k d below in
          (ap (λ p. p.shard) e, ap (λ p. on lane (traffic p.link).received) e));
      goes = record {
        peers = seen_pairs peer_state _ c.args.self.now.peers.items items (ap length is ∙ (c.release_all.auto.peers ∙ ap length old))
            (λ k d below.
            let e = tried k d below in
            releases_goes traffic _ _ e.before e.after e.same e.tries);
        done = omega arith;
        backs = omega arith;
        looks = omega arith;
        tally = (freed.released, freed.counts);
      };
      own = (refl, refl);
      released = λ so. frees traffic g.G.Gate.holds (node_state c.args.self.now) _ c.args.self.now.peers.items items refl refl (ap length is ∙ (c.release_all.auto.peers ∙ ap length old)) freed
          (subst (λ ps. held_by_all ps < held_by_all c.args.self.now.peers.items) (sym is)
          (subst (λ ps. held_by_all peers < held_by_all ps) old (c.release_all.ensures.released.0 so)));
      raced = λ unmet. record {
        request = refl;
        begun = refl;
        gate = refl;
        store = refl;
        done = refl;
        peers = seen_pairs peer_state _ c.args.self.now.peers.items items (ap length is ∙ (c.release_all.auto.peers ∙ ap length old))
            (λ k d below.
            let many = subst (λ ps. held_by_all c.args.self.now.peers.items ≤ held_by_all ps) (sym is)
            (subst (λ ps. held_by_all ps ≤ held_by_all peers) old (not_less c.release_all.result _ _ c.release_all.ensures.released unmet)) in
            let raced = races traffic g.G.Gate.holds c.args.self.now.peers.items items (ap length is ∙ (c.release_all.auto.peers ∙ ap length old)) tried many k d below in
            (released_same traffic _ _ (tried k d below).same, raced.0, raced.1));
      };
      calm = λ is. absurd (true≢false (sym is ∙ c.if-calm.false));
    }
