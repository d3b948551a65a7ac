use Rattle.std.proofs.Common.{◌≡◌, ◌<◌, ◌%◌, ℕ, length, arith, ap, ◌∙◌}
use Rattle.shard_drive.specs.Words.{word}
use Rattle.shard_drive.proofs.Turned.{all-next, lasting-next}
use Rattle.shard_drive.proofs.Drawn.{followed, next-followed}
use Rattle.shard_drive.proofs.by_words.finish_numbered.Goals as goal

pub turns-preserved : goal.turns-preserved
turns-preserved g c =
    let old = c.args.nodes.now in
    let xs = c.turns.nodes in
    let ys = c.turn_of.new.nodes in
    let k = c.next_of-k.result in
    let turn = c.turn_of.ensures in
    let long : length xs ≡ length old = c.turns.auto.nodes in
    let kept : length ys ≡ length xs = c.turn_of.auto.nodes in
    let within : k < length xs = omega (arith, c.next_of-k.ensures.node, long, c.requires.some) in
    let names : k ≡ word c.turns.words % length old = c.next_of-k.ensures.node ∙ ap (λ (n : ℕ). word c.turns.words % n) long in
    record {
      can_next = tt;
      is_finite = tt;
      stands = all-next g.N.Driven.stands xs ys k within kept turn.others turn.stands c.turns.invariant.stands;
      lasting = lasting-next g.N.Driven.lasting old xs ys k within turn.others turn.lasting c.turns.invariant.lasting;
      words = next-followed g.N.Driven.turns c.args.number old xs ys c.turns.words c.next_of-k.new.words k names c.next_of-k.ensures.words within kept turn.others turn.turns
          c.turns.invariant.words;
    }

pub returns-then-have_finished-clause-turns : goal.returns-then-have_finished-clause-turns
returns-then-have_finished-clause-turns g c = followed g.N.Driven.turns c.args.number c.args.nodes.now c.turns.nodes c.turns.words c.turns.invariant.words
