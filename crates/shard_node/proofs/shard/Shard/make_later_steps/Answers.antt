use Rattle.std.specs.Prelude.{◌⊎◌}
use Rattle.std.proofs.Common.{inl, inr, true≢false, ◌≡◌, ◌<◌, ◌↔◌, ◌||◌, IsTrue, false, ap, arith, sym, subst, ◌∙◌, None}
use Rattle.shard_rings.specs.declared.link.Lane.{Lane}
use Rattle.shard_rings.specs.declared.link.Lane.TheVariants.{Replies, Requests}
use Rattle.shard_node.specs.Nodes.{NodeState}
use Rattle.shard_node.specs.inside.Moves.{BeginsNone, Goes, NonePassed, ReceivesNone, ReceivesOneStray, Tells, packets_of}
use Rattle.shard_node.specs.inside.Shards.{node_state}
use Rattle.shard_node.proofs.Turning.Joins.{steps_join}
use Rattle.shard_node.proofs.Turning.TellsStrays.{none_join, none_then_one, one_then_none, task_of, task_back, told_between, told_first, came_back}
use Rattle.shard_node.proofs.Turning.StepGoes.{all_go}
use Rattle.shard_node.proofs.Turning.ThroughGate.{none_then_none, through_between}
use Rattle.shard_node.proofs.Turning.TurnMoves.{caused}
use Rattle.shard_node.proofs.Turning.Frees.{not_less}
use Rattle.shard_node.proofs.Turning.IdleTurn.{idle, not_rose, not_true, or_none, releases_none}
use Rattle.shard_node.proofs.shard.Shard.make_later_steps.Goals as goal

pub returns : goal.returns
returns g c began home =
    let traffic = g.L.Link.traffic in
    let end = g.L.Link.end in
    let holds = g.G.Gate.holds in
    let a = began in
    let b = c.args.self.now in
    let d = c.send_replies.new.self in
    let e = c.take_replies.new.self in
    let f = c.serve.new.self in
    let h = c.say_byes.new.self in
    let join = steps_join traffic end a in
    let to_d =
    join c.release_held.new.self d
    (join b c.release_held.new.self home.step c.release_held.ensures.step)
    c.send_replies.ensures.step in
    let to_e = join d e to_d c.take_replies.ensures.step in
    let to_f = join e f to_e c.serve.ensures.step in
    let none = none_join traffic holds in
    let x = node_state b in
    let y = node_state c.release_held.new.self in
    let z = node_state c.go_on.new.self in
    let before : (lane : Lane) → ReceivesNone traffic lane (node_state a) (node_state d) =
    λ lane. none lane (node_state a) y (node_state d) (none lane (node_state a) x y (home.received lane) (c.release_held.ensures.received lane)) (c.send_replies.ensures.received lane) in
    let behind : (lane : Lane) → ReceivesNone traffic lane (node_state f) (node_state h) =
    λ lane. none lane (node_state f) z (node_state h) (c.go_on.ensures.received lane) (c.say_byes.ensures.received lane) in
    let seen-2 : c.note-2.new.self.moved ≡ ((false || c.release_held.result) || c.send_replies.result) =
    c.note-2.ensures.moved ∙ ap (λ m. m || c.send_replies.result) (c.note.ensures.moved ∙ ap (λ m. m || c.release_held.result) c.nothing-seen.ensures.moved) in
    let last : c.note-4.new.self.moved ≡ ((c.serve.new.seen.moved || c.go_on.result) || c.say_byes.result) =
    c.note-4.ensures.moved ∙ ap (λ m. m || c.say_byes.result) c.note-3.ensures.moved in
    let all : Goes traffic (node_state a) (node_state h) =
    all_go traffic (node_state a) z (node_state h)
    (all_go traffic (node_state a) (node_state f) z
    (all_go traffic (node_state a) (node_state e) (node_state f)
    (all_go traffic (node_state a) (node_state d) (node_state e)
    (all_go traffic (node_state a) y (node_state d) (all_go traffic (node_state a) x y home.goes c.release_held.ensures.goes) c.send_replies.ensures.goes)
    c.take_replies.ensures.goes) c.serve.ensures.goes) c.go_on.ensures.goes) c.say_byes.ensures.goes in
    let chain : (m n : NodeState g.row.L.Denot g.row.G.Denot) → BeginsNone (node_state a) m → BeginsNone m n → BeginsNone (node_state a) n =
    λ m n. none_then_none (node_state a) m n in
    let home_none : BeginsNone (node_state a) x =
    (ap (λ (n : NodeState g.row.L.Denot g.row.G.Denot). n.begun) home.same, ap (λ (n : NodeState g.row.L.Denot g.row.G.Denot). n.gate) home.same) in
    let none_begun : BeginsNone (node_state a) (node_state f) =
    chain (node_state e) (node_state f)
    (chain (node_state d) (node_state e) (chain y (node_state d) (chain x y home_none c.release_held.ensures.own) c.send_replies.ensures.own) c.take_replies.ensures.own)
    c.serve.ensures.own in
    let quiet : c.note-4.new.self.moved ≡ false → NonePassed traffic (node_state a) (node_state h) = λ unmet.
    let two = or_none (c.serve.new.seen.moved || c.go_on.result) c.say_byes.result (sym last ∙ unmet) in
    let three = or_none c.serve.new.seen.moved c.go_on.result two.0 in
    let four = or_none (false || c.release_held.result) c.send_replies.result (sym seen-2 ∙ not_true c.note-2.new.self.moved (λ is. true≢false (sym (c.serve.ensures.moved.1 (inl (c.take_replies.ensures.moved.1 (inl is)))) ∙ three.0))) in
    let same_packets : packets_of traffic x ≡ packets_of traffic (node_state a) = ap (λ (n : NodeState g.row.L.Denot g.row.G.Denot). packets_of traffic n) home.same in
    let released = releases_none traffic x y c.release_held.ensures.goes (λ k d below. ((c.release_held.ensures.raced four.0).peers.each k d below).0) in
    let q2 = not_less c.send_replies.result _ _ c.send_replies.ensures.sent four.1 in
    let q3 = not_rose c.take_replies.new.seen.moved _ _ (λ so. c.take_replies.ensures.moved.1 (inr so))
    (not_true c.take_replies.new.seen.moved (λ is. true≢false (sym (c.serve.ensures.moved.1 (inl is)) ∙ three.0))) in
    let q4 = not_rose c.serve.new.seen.moved _ _ (λ so. c.serve.ensures.moved.1 (inr so)) three.0 in
    let q5 = not_rose c.go_on.result _ _ (λ so. c.go_on.ensures.moved.1 (inl so)) three.1 in
    let q6 = not_less c.say_byes.result _ _ c.say_byes.ensures.sent two.1 in
    omega (arith, same_packets, released, q2, q3, q4, q5, q6) in
    record {
      step = join c.go_on.new.self h (join f c.go_on.new.self to_f c.go_on.ensures.step) c.say_byes.ensures.step;
      gate = through_between g.G.Gate.lets end (node_state a) (node_state f) z (node_state h) to_f.same none_begun c.go_on.ensures.gate c.say_byes.ensures.own;
      goes = all;
      told = λ stands.
          let replies : Tells (ReceivesOneStray traffic holds Replies (node_state a) (node_state h)) None c.take_replies.new.seen.stray =
          told_between traffic holds Replies (node_state d) (node_state e) (node_state a) (node_state h) None c.take_replies.new.seen.stray
          (task_back traffic holds (node_state a) (node_state d) (task_of traffic holds end (node_state a) (node_state d) to_d.same))
          (came_back traffic holds Replies (node_state a) (node_state d) (before Replies))
          (none Replies (node_state e) (node_state f) (node_state h) c.serve.ensures.replies (behind Replies))
          (subst (λ was. Tells (ReceivesOneStray traffic holds Replies (node_state d) (node_state e)) was c.take_replies.new.seen.stray)
          (c.note-2.ensures.stray ∙ (c.note.ensures.stray ∙ c.nothing-seen.ensures.stray))
          (c.take_replies.ensures.tells (to_d.standing stands))) in
          let requests : Tells (ReceivesOneStray traffic holds Requests (node_state a) (node_state h)) c.take_replies.new.seen.stray c.serve.new.seen.stray =
          told_between traffic holds Requests (node_state e) (node_state f) (node_state a) (node_state h) c.take_replies.new.seen.stray c.serve.new.seen.stray
          (task_back traffic holds (node_state a) (node_state e) (task_of traffic holds end (node_state a) (node_state e) to_e.same))
          (came_back traffic holds Requests (node_state a) (node_state e) (none Requests (node_state a) (node_state d) (node_state e) (before Requests) c.take_replies.ensures.requests))
          (behind Requests)
          (c.serve.ensures.tells (to_e.standing stands)) in
          told_first traffic holds (node_state a) (node_state h) c.take_replies.new.seen.stray _
          (one_then_none traffic holds Replies (node_state a) (node_state e) (node_state h)
          (none_then_one traffic holds Replies (node_state a) (node_state d) (node_state e) (before Replies) c.take_replies.ensures.one)
          (none Replies (node_state e) (node_state f) (node_state h) c.serve.ensures.replies (behind Replies)))
          (one_then_none traffic holds Requests (node_state a) (node_state f) (node_state h)
          (none_then_one traffic holds Requests (node_state a) (node_state e) (node_state f)
          (none Requests (node_state a) (node_state d) (node_state e) (before Requests) c.take_replies.ensures.requests) c.serve.ensures.one)
          (behind Requests)) replies
          (subst (Tells (ReceivesOneStray traffic holds Requests (node_state a) (node_state h)) c.take_replies.new.seen.stray)
          (sym (c.note-4.ensures.stray ∙ c.note-3.ensures.stray)) requests);
      caused = λ stands is.
          caused traffic holds (node_state a) x y (node_state d) (node_state e) (node_state f) z (node_state h)
          c.release_held.result c.send_replies.result c.take_replies.new.seen.moved c.serve.new.seen.moved c.go_on.result c.say_byes.result
          (record {
            home = home.goes;
            same = ap (λ (n : NodeState g.row.L.Denot g.row.G.Denot). n.peers) home.same;
            released = c.release_held.ensures.goes;
            frees = c.release_held.ensures.released;
            replied = c.send_replies.ensures.goes;
            sends = c.send_replies.ensures.sent;
            taken = c.take_replies.ensures.goes;
            takes = subst (λ m. IsTrue c.take_replies.new.seen.moved ↔ (IsTrue m ⊎ (packets_of traffic (node_state d) < packets_of traffic (node_state e)))) seen-2 c.take_replies.ensures.moved;
            served = c.serve.ensures.goes;
            serves = c.serve.ensures.moved;
            gone = c.go_on.ensures.goes;
            goes = c.go_on.ensures.moved;
            byes = c.say_byes.ensures.goes;
            tells = c.say_byes.ensures.sent;
          }) (let counted = stands.kept.received.counted in omega (arith, counted)) (sym last ∙ is);
      held_up = λ stands unmet same_back.
          let two = or_none (c.serve.new.seen.moved || c.go_on.result) c.say_byes.result (sym last ∙ unmet) in
          let three = or_none c.serve.new.seen.moved c.go_on.result two.0 in
          let four = or_none (false || c.release_held.result) c.send_replies.result (sym seen-2 ∙ not_true c.note-2.new.self.moved (λ is. true≢false (sym (c.serve.ensures.moved.1 (inl (c.take_replies.ensures.moved.1 (inl is)))) ∙ three.0))) in
          let d5 = not_rose c.go_on.result _ _ (λ so. c.go_on.ensures.moved.1 (inr so)) three.1 in
          idle traffic holds (node_state a) x y (node_state d) (node_state e) (node_state f) z (node_state h)
          (record {
            home = home.goes;
            same = home.same;
            looked = home.looked;
            released = c.release_held.ensures.goes;
            raced = c.release_held.ensures.raced four.0;
            replied = c.send_replies.ensures.goes;
            replies = c.send_replies.ensures.held_up;
            taken = c.take_replies.ensures.goes;
            takes = c.take_replies.ensures.held_up;
            served = c.serve.ensures.goes;
            serves = c.serve.ensures.held_up;
            gone = c.go_on.ensures.goes;
            goes = c.go_on.ensures.held_back three.1;
            done = d5;
            byes = c.say_byes.ensures.goes;
            tells = c.say_byes.ensures.held_up;
            packets = quiet unmet;
            backs = same_back;
            task = task_of traffic holds end (node_state a) (node_state f) to_f.same;
            stands = stands;
            stands_later = to_f.standing stands;
          });
      quiet = quiet;
    }
