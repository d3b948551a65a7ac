use Rattle.std.proofs.Common.{◌≡◌, ◌++◌, ◌∷◌, [], length, length-append, All, arith, ap, sym, subst}
use Rattle.std.specs.Option.{option_to_list}
use Rattle.std.proofs.lemmas.List.Elements.{All-cons, All-pop}
use Rattle.shard_rings.specs.Links.{traffic_of}
use Rattle.shard_node.specs.Standing.{InStanding}
use Rattle.shard_drive.specs.Trials.{AreReady, AreUnused}
use Rattle.shard_drive.proofs.Trials.{one-less, ready-less}
use Rattle.shard_drive.proofs.tests.opening.open_all.Goals as goal

pub loop-seat-preserved : goal.loop-seat-preserved
loop-seat-preserved g c =
    let so_far = c.loop-seat.invariant in
    let seats = c.pop.new.self.items in
    let links = c.pop-in-Some.new.self.items in
    let nodes = c.loop-seat.nodes.items in
    let fewer : c.loop-seat.seats.items ≡ seats ++ c.in-Some.seat ∷ [] = c.in-Some.ensures.items in
    let fewer_links : c.loop-seat.links.items ≡ links ++ option_to_list c.pop-in-Some.result = c.pop-in-Some.ensures.items in
    let more : c.insert.new.self.items ≡ c.in_ok-node.node ∷ nodes = c.in_ok-insert.ensures.items in
    let less = one-less c.loop-seat.links.items links c.pop-in-Some.result c.unwrap-own.result fewer_links c.unwrap-own.ensures in
    record {
      places = omega (arith, ap length fewer, length-append seats (c.in-Some.seat ∷ []), ap length more, so_far.places);
      links = omega (arith, ap length fewer, length-append seats (c.in-Some.seat ∷ []), less, so_far.links);
      unused = (All-pop (AreUnused c.args.shards) c.loop-seat.links.items links c.pop-in-Some.result fewer_links so_far.unused).0;
      ready = ready-less c.args.homes.now seats c.in-Some.seat (subst (λ ss. AreReady c.args.homes.now ss) fewer so_far.ready);
      standing = subst (λ ns. All (InStanding traffic_of) ns) (sym more) (All-cons (InStanding traffic_of) c.in_ok-node.node nodes c.in_ok-node.ensures so_far.standing);
    }
