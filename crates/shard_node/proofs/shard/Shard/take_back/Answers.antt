use Rattle.std.proofs.Common.{arith, refl}
use Rattle.shard_node.proofs.Turning.PeerGoes.{goes_same}
use Rattle.shard_node.proofs.Standing.PeerPairs.{pairs_same}
use Rattle.shard_node.proofs.Turning.StepGoes.{home_more, no_more}
use Rattle.shard_node.proofs.Turning.Steps.{takes_back}
use Rattle.shard_node.proofs.shard.Shard.take_back.Goals as goal

pub returns : goal.returns
returns g c =
    let traffic = g.L.Link.traffic in
    let self = c.args.self.now in
    let store = c.take_back.new.self in
    record {
      step = takes_back traffic g.L.Link.end self store c.take_back.ensures.same c.take_back.ensures.taken c.requires;
      received = λ lane. pairs_same _ _ (λ k a. (refl, refl));
      goes = record {
        peers = pairs_same _ _ (λ k a. goes_same traffic a);
        done = omega arith;
        backs = home_more self.store.lent store.lent self.store.backs store.backs c.requires.counted.backs c.take_back.ensures.taken.home;
        looks = c.take_back.ensures.taken.looks;
        tally = no_more self.tally;
      };
      same = refl;
      looked = c.take_back.ensures.looked;
    }
