use Rattle.std.specs.Prelude.{◌==◌, not}
use Rattle.std.proofs.Common.{inl, inr, arith, sym, ◌∙◌, subst}
use Rattle.shard_node.specs.inside.Moves.{TellsFirst}
use Rattle.shard_node.specs.inside.Shards.{node_state}
use Rattle.shard_node.proofs.Turning.IdleTurn.{or_none, same-other}
use Rattle.shard_node.proofs.Turning.TurnMoves.{or_true, rose-other}
use Rattle.shard_node.proofs.shard.Shard.note_home.Goals as goal

pub returns : goal.returns
returns g c began was sees =
    let old = c.args.seen.now in
    let back = not (c.back.result == c.args.back) in
    let now = c.back.ensures in
    let rose = sees.goes.backs in
    record {
      step = sees.step;
      gate = sees.gate;
      told = λ stands. subst (λ stray. TellsFirst g.L.Link.traffic g.G.Gate.holds stray (node_state began) (node_state c.args.self.now)) (sym c.note.ensures.stray) (sees.told stands);
      caused = λ stands is. elim (or_true old.moved back (sym c.note.ensures.moved ∙ is)) [
        | inl moved ↦ sees.caused stands moved
        | inr more ↦ inl (let less = rose-other c.args.back c.back.result (omega (arith, rose, was, now)) more in omega (arith, less, was, now))
      ];
      held_up = λ stands unmet.
          let none = or_none old.moved back (sym c.note.ensures.moved ∙ unmet) in
          let same = same-other c.back.result c.args.back none.1 in
          sees.held_up stands none.0 (omega (arith, same, was, now));
      goes = sees.goes;
      quiet = λ unmet. sees.quiet (or_none old.moved back (sym c.note.ensures.moved ∙ unmet)).0;
    }
