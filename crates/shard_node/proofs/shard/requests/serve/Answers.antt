-- Bye came on the lane of requests.
use Rattle.std.proofs.Common.{◌≡◌, inr, refl, ap, subst, sym, ◌∙◌}
use Rattle.shard_rings.specs.Lanes.{NoneFell, adds}
use Rattle.shard_rings.specs.declared.link.Lane.TheVariants.{Requests}
use Rattle.shard_rings.specs.declared.link.Packet.TheVariants.{Bye}
use Rattle.shard_parts.specs.declared.peer.Peer.{Peer}
use Rattle.shard_node.proofs.Requests.NextAsk.{relinked}
use Rattle.shard_node.proofs.shard.requests.serve.Goals as goal

pub returns-in-Some-Bye : goal.returns-in-Some-Bye
returns-in-Some-Bye g c =
    let old : Peer g.row.L.Denot = c.args.peer.now in
    let new : Peer g.row.L.Denot = c.hear_bye.new.peer in
    let same = c.hear_bye.ensures.same in
    let link : c.receive.new.self ≡ new.link = ap (λ (p : Peer g.row.L.Denot). p.link) (sym same) in
    let held : new.held_request ≡ old.held_request = ap (λ (p : Peer g.row.L.Denot). p.held_request) same in
    inr (record {
      packet = Bye;
      came = record {
        received = ap (λ l. (g.L.Link.traffic l).received) (sym link) ∙ (c.in-Some-Bye.ensures.received ∙ ap (λ packet. adds Requests packet (g.L.Link.traffic old.link).received) c.in-Some-Bye.field-0-is);
        sent = ap (λ l. (g.L.Link.traffic l).sent) (sym link) ∙ c.in-Some-Bye.ensures.sent;
        full = subst (λ l. NoneFell (g.L.Link.traffic old.link).full (g.L.Link.traffic l).full) link c.in-Some-Bye.ensures.never_falls.0;
        empty = subst (λ l. NoneFell (g.L.Link.traffic old.link).empty (g.L.Link.traffic l).empty) link c.in-Some-Bye.ensures.never_falls.1;
        same_end = ap g.L.Link.end (sym link) ∙ c.in-Some-Bye.ensures.same_end;
      };
      tries = (held ∙ c.requires.may.released, refl);
      ends = relinked Bye old new c.receive.new.self c.args.store.now c.args.store.now c.args.journal.now c.args.journal.now c.hear_bye.result (c.hear_bye.ensures.ends c.args.store.now c.args.journal.now);
      same = same ∙ ap (λ (p : Peer g.row.L.Denot). let q : Peer g.row.L.Denot = record old { link = p.link; held_request = p.held_request; reply = p.reply; asks = p.asks; has_heard_bye = new.has_heard_bye } in q) (sym same);
    })
