use Rattle.std.proofs.Common.{subst, IsTrue, sym, true≢false, Some, refl, ap, ◌∙◌}
use Rattle.shard_node.proofs.Turning.AsksGate.{asked_back, gate_back, now_below, now_consistent, now_goes, now_idle, now_next, now_received, now_so, now_stepped, now_still, now_there}
use Rattle.shard_node.specs.inside.Shards.{node_state}
use Rattle.shard_node.proofs.Turning.Joins.{steps_join}
use Rattle.shard_node.proofs.Turning.ThroughGate.{held_through, one_then_none, passed_through}
use Rattle.shard_node.proofs.Turning.TellsStrays.{none_join}
use Rattle.shard_node.proofs.Turning.StepGoes.{all_go, still_so}
use Rattle.shard_memory.specs.Tickets.{HasIdle}
use Rattle.shard_memory.specs.declared.share.Share.TheVariants.{Request}
use Rattle.shard_node.proofs.shard.Shard.begin.Goals.{else-doer-self-via-then-doer-self+else-not-is_idle, else-doer-self-via-else-doer-self}
use Rattle.shard_node.proofs.shard.Shard.begin.Goals as goal

pub returns-then-not-passes_gate : goal.returns-then-not-passes_gate
returns-then-not-passes_gate g c =
    let traffic = g.L.Link.traffic in
    record {
      step = now_stepped c.args.self.now c.passes_gate.new.self c.passes_gate.ensures.same c.requires.consistent traffic g.L.Link.end;
      received = now_received c.args.self.now c.passes_gate.new.self c.passes_gate.ensures.same c.requires.consistent traffic;
      goes = now_goes c.args.self.now c.passes_gate.new.self c.passes_gate.ensures.same c.requires.consistent traffic;
      gate = held_through g.G.Gate.lets c.args.self.now c.passes_gate.new.self c.requires.consistent c.passes_gate.ensures.same
          c.in-Some.command.now.number c.in-Some.doer c.in-Some.ensures.some c.passes_gate.ensures.left_alone;
      moved = (λ is. absurd (true≢false (sym is)), λ so. absurd (now_still c.args.self.now c.passes_gate.new.self c.passes_gate.ensures.same c.requires.consistent traffic so));
      held_back = λ unmet. gate_back traffic g.G.Gate.holds c.args.self.now c.requires.consistent c.requires.idle c.passes_gate.new.self c.passes_gate.ensures.same
          (c.passes_gate.ensures.held c.if-not-passes_gate.true) (c.passes_gate.ensures.first c.if-not-passes_gate.true);
    }

pub do_here-requires : goal.do_here-requires
do_here-requires g c κs =
    let self = c.args.self.now in
    let now = c.passes_gate.new.self in
    let x = c.requires.consistent in
    let same = c.passes_gate.ensures.same in
    let number = c.in-Some.command.now.number in (
      (refl, tt),
      (
        now_consistent self now same x,
        (
          (number, now_next self now same x (number, c.in-Some.doer) c.in-Some.ensures.some ∙ ap (λ q. Some (number, q)) c.if-doer-self-2.true),
          c.facts.ensures.tickets,
        ),
      ),
    )

pub ask-requires : goal.ask-requires
ask-requires g c κs =
    let self = c.args.self.now in
    let now = c.passes_gate.new.self in
    let x = c.requires.consistent in
    let same = c.passes_gate.ensures.same in
    let command = c.in-Some.command.now in
    let doer = c.in-Some.doer in (
      (refl, tt),
      (
        now_consistent self now same x,
        (
          now_idle self now same x c.requires.idle,
          (
            now_there self now same x command c.in-Some.ensures.of_trace,
            (
              now_next self now same x (command.number, doer) c.in-Some.ensures.some,
              (
                c.if-doer-self-2.false,
                (
                  now_below self now same x doer c.in-Some.ensures.below,
                  (
                    elim c.else-doer-self.branch [
                      | else-doer-self-via-then-doer-self+else-not-is_idle w ↦ subst (λ s. HasIdle s.store.lent Request) (sym same) (w.is_idle.ensures.idle.0 w.if-not-is_idle.false)
                      | else-doer-self-via-else-doer-self w ↦ absurd (c.if-doer-self-2.false (w.if-doer-self.false ∙ sym (ap (λ s. s.shard) same)))
                    ],
                    c.facts.ensures.tickets,
                  ),
                ),
              ),
            ),
          ),
        ),
      ),
    )

pub returns-then-doer-self-2 : goal.returns-then-doer-self-2
returns-then-doer-self-2 g c =
    let self = c.args.self.now in
    let now = c.passes_gate.new.self in
    let traffic = g.L.Link.traffic in
    let end = g.L.Link.end in
    let first = now_stepped self now c.passes_gate.ensures.same c.requires.consistent traffic end in
    record {
      step = steps_join traffic end self now c.do_here.new.self first c.do_here.ensures.step;
      received = λ lane. none_join traffic g.G.Gate.holds lane (node_state self) (node_state now) (node_state c.do_here.new.self)
          (now_received self now c.passes_gate.ensures.same c.requires.consistent traffic lane) (c.do_here.ensures.received lane);
      goes = all_go traffic (node_state self) (node_state now) (node_state c.do_here.new.self) (now_goes self now c.passes_gate.ensures.same c.requires.consistent traffic) c.do_here.ensures.goes;
      gate = passed_through g.G.Gate.lets self now c.requires.consistent c.passes_gate.ensures.same c.in-Some.command.now.number c.in-Some.doer c.in-Some.ensures.some
          c.passes_gate.ensures.left_alone c.do_here.new.self (c.passes_gate.ensures.let_through c.if-not-passes_gate.false) c.do_here.ensures.own;
      moved = now_so self now c.passes_gate.ensures.same c.requires.consistent traffic (IsTrue c.do_here.result) (node_state c.do_here.new.self) c.do_here.ensures.moved;
      held_back = λ unmet. absurd (true≢false (sym c.do_here.ensures.done ∙ unmet));
    }

pub returns-else-doer-self-2 : goal.returns-else-doer-self-2
returns-else-doer-self-2 g c =
    let self = c.args.self.now in
    let now = c.passes_gate.new.self in
    let traffic = g.L.Link.traffic in
    let end = g.L.Link.end in
    let first = now_stepped self now c.passes_gate.ensures.same c.requires.consistent traffic end in
    let second = steps_join traffic end now c.ask.new.self c.send_request.new.self c.ask.ensures.step c.send_request.ensures.step in
    record {
      step = steps_join traffic end self now c.send_request.new.self first second;
      received = λ lane. none_join traffic g.G.Gate.holds lane (node_state self) (node_state now) (node_state c.send_request.new.self)
          (now_received self now c.passes_gate.ensures.same c.requires.consistent traffic lane)
          (none_join traffic g.G.Gate.holds lane (node_state now) (node_state c.ask.new.self) (node_state c.send_request.new.self) (c.ask.ensures.received lane) (c.send_request.ensures.received lane));
      goes = all_go traffic (node_state self) (node_state now) (node_state c.send_request.new.self) (now_goes self now c.passes_gate.ensures.same c.requires.consistent traffic)
          (all_go traffic (node_state now) (node_state c.ask.new.self) (node_state c.send_request.new.self) c.ask.ensures.goes c.send_request.ensures.goes);
      gate = passed_through g.G.Gate.lets self now c.requires.consistent c.passes_gate.ensures.same c.in-Some.command.now.number c.in-Some.doer c.in-Some.ensures.some
          c.passes_gate.ensures.left_alone c.send_request.new.self (c.passes_gate.ensures.let_through c.if-not-passes_gate.false)
          (one_then_none (node_state now) (node_state c.ask.new.self) (node_state c.send_request.new.self) c.ask.ensures.own c.send_request.ensures.own);
      moved = now_so self now c.passes_gate.ensures.same c.requires.consistent traffic (IsTrue c.send_request.result) (node_state c.send_request.new.self)
          (still_so traffic (IsTrue c.send_request.result) (node_state now) (node_state c.ask.new.self) (node_state c.send_request.new.self) c.ask.ensures.peers c.ask.ensures.done c.send_request.ensures.moved);
      held_back = λ unmet.
          asked_back traffic g.G.Gate.holds self c.requires.consistent c.requires.idle now c.ask.new.self c.send_request.new.self c.ask.ensures.waits.0 (c.in-Some.command.now.number, c.in-Some.doer)
          c.passes_gate.ensures.same c.in-Some.ensures.some c.ask.ensures.peers c.ask.ensures.waits.1 c.ask.ensures.idle first.standing (c.send_request.ensures.held_up unmet);
    }
