use Rattle.std.proofs.Common.{refl, sym, subst, ◌∙◌, true≢false}
use Rattle.shard_node.specs.Turns.{IsAnswer}
use Rattle.shard_node.specs.inside.Shards.{node_state}
use Rattle.shard_node.proofs.Turning.Calms.{stays_calm}
use Rattle.shard_node.proofs.Turning.Steps.{counted_done, counted_stands, turn_counted}
use Rattle.shard_node.proofs.Turning.ThroughGate.{none_through, turns_through}
use Rattle.shard_node.proofs.Turning.TurnTold.{answers, never_done}
use Rattle.shard_node.proofs.shard.Shard.turn.Goals as goal

-- a turn more that is counted says nothing of what waits
pub note_waiting-requires : goal.note_waiting-requires
note_waiting-requires g c κs = (
  (refl, tt),
  λ unmet. stays_calm g.L.Link.traffic c.args.calm.now (node_state (record c.args.self.now { turns = c.saturating_add-self.result })) (node_state c.make_steps-seen.new.self)
      c.make_steps-seen.ensures.goes (c.make_steps-seen.ensures.quiet unmet) c.requires.calm,
)

pub returns-then-is_done : goal.returns-then-is_done
returns-then-is_done g c =
    let traffic = g.L.Link.traffic in
    let shard = c.args.self.now in
    let turns = c.saturating_add-self.result in
    record {
      consistent = turn_counted traffic g.L.Link.end shard turns c.requires.consistent;
      calm = c.requires.calm;
      standing = counted_stands traffic g.L.Link.end shard turns;
      same = record { shard = refl; shards = refl; pages = refl; trace = refl; home = refl; ends = refl };
      turns = c.saturating_add-self.ensures;
      gate = none_through g.G.Gate.lets (node_state shard) (node_state (record shard { turns = turns })) (refl, refl);
      done = λ stands. (λ e. (c.is_done.ensures (counted_stands traffic g.L.Link.end shard turns stands)).0 c.if-is_done.true, λ d. refl);
      rests = λ stands d. refl;
      answer = λ stands. (c.is_done.ensures (counted_stands traffic g.L.Link.end shard turns stands)).0 c.if-is_done.true;
    }

pub returns-then-is_done-2-clause-standing : goal.returns-then-is_done-2-clause-standing
returns-then-is_done-2-clause-standing g c stands =
    let traffic = g.L.Link.traffic in
    c.make_steps-seen.ensures.step.standing (counted_stands traffic g.L.Link.end c.args.self.now c.saturating_add-self.result stands)

pub returns-then-is_done-2-clause-done : goal.returns-then-is_done-2-clause-done
returns-then-is_done-2-clause-done g c stands =
    let traffic = g.L.Link.traffic in
    let later = c.make_steps-seen.ensures.step.standing (counted_stands traffic g.L.Link.end c.args.self.now c.saturating_add-self.result stands) in
    (λ e. (c.is_done-2.ensures later).0 c.if-is_done-2.true, λ d. refl)

pub returns-then-is_done-2-clause-rests : goal.returns-then-is_done-2-clause-rests
returns-then-is_done-2-clause-rests g c stands done =
    let traffic = g.L.Link.traffic in
    let turns = c.saturating_add-self.result in
    absurd (true≢false (sym ((c.is_done.ensures (counted_stands traffic g.L.Link.end c.args.self.now turns stands)).1 (counted_done traffic g.L.Link.end c.args.self.now turns done)) ∙ c.if-is_done.false))

pub returns-else-is_done-2-clause-standing : goal.returns-else-is_done-2-clause-standing
returns-else-is_done-2-clause-standing g c stands =
    let traffic = g.L.Link.traffic in
    c.make_steps-seen.ensures.step.standing (counted_stands traffic g.L.Link.end c.args.self.now c.saturating_add-self.result stands)

pub returns-else-is_done-2-clause-done : goal.returns-else-is_done-2-clause-done
returns-else-is_done-2-clause-done g c stands =
    let traffic = g.L.Link.traffic in
    let later = c.make_steps-seen.ensures.step.standing (counted_stands traffic g.L.Link.end c.args.self.now c.saturating_add-self.result stands) in
    (λ e. absurd (never_done c.make_steps-seen.result.stray c.make_steps-seen.result.moved (sym c.turn.ensures ∙ e)), λ d. absurd (true≢false (sym ((c.is_done-2.ensures later).1 d) ∙ c.if-is_done-2.false)))

pub returns-else-is_done-2-clause-rests : goal.returns-else-is_done-2-clause-rests
returns-else-is_done-2-clause-rests g c stands done =
    let traffic = g.L.Link.traffic in
    let turns = c.saturating_add-self.result in
    absurd (true≢false (sym ((c.is_done.ensures (counted_stands traffic g.L.Link.end c.args.self.now turns stands)).1 (counted_done traffic g.L.Link.end c.args.self.now turns done)) ∙ c.if-is_done.false))

pub returns-then-is_done-2-clause-gate : goal.returns-then-is_done-2-clause-gate
returns-then-is_done-2-clause-gate g c =
    turns_through g.G.Gate.lets (node_state c.args.self.now) c.saturating_add-self.result (node_state c.make_steps-seen.new.self) c.make_steps-seen.ensures.gate

pub returns-else-is_done-2-clause-gate : goal.returns-else-is_done-2-clause-gate
returns-else-is_done-2-clause-gate g c =
    turns_through g.G.Gate.lets (node_state c.args.self.now) c.saturating_add-self.result (node_state c.make_steps-seen.new.self) c.make_steps-seen.ensures.gate

pub returns-then-is_done-2-clause-answer : goal.returns-then-is_done-2-clause-answer
returns-then-is_done-2-clause-answer g c stands =
    let traffic = g.L.Link.traffic in
    let later = c.make_steps-seen.ensures.step.standing (counted_stands traffic g.L.Link.end c.args.self.now c.saturating_add-self.result stands) in
    (c.is_done-2.ensures later).0 c.if-is_done-2.true

pub returns-else-is_done-2-clause-answer : goal.returns-else-is_done-2-clause-answer
returns-else-is_done-2-clause-answer g c stands =
    let traffic = g.L.Link.traffic in
    let holds = g.G.Gate.holds in
    let shard = c.args.self.now in
    let new = node_state c.make_steps-seen.new.self in
    let seen = c.make_steps-seen in
    let counted = counted_stands traffic g.L.Link.end shard c.saturating_add-self.result stands in
    let later = seen.ensures.step.standing counted in
    subst (λ t. IsAnswer traffic holds t (node_state shard) new) (sym c.turn.ensures)
    (answers traffic holds seen.result.stray seen.result.moved (node_state shard) c.saturating_add-self.result new
    (λ d. absurd (true≢false (sym ((c.is_done-2.ensures later).1 d) ∙ c.if-is_done-2.false)))
    (seen.ensures.told counted) (seen.ensures.caused counted) (seen.ensures.held_up counted))

pub returns-then-is_done-2-clause-calm : goal.returns-then-is_done-2-clause-calm
returns-then-is_done-2-clause-calm g c = c.note_waiting.ensures

pub returns-else-is_done-2-clause-calm : goal.returns-else-is_done-2-clause-calm
returns-else-is_done-2-clause-calm g c = c.note_waiting.ensures
