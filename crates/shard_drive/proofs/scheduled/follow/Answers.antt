use Rattle.std.proofs.Common.{◌≡◌, ◌<◌, ◌+◌, ◌++◌, ◌∷◌, [], ℕ, List, length, take, get_or, sym, subst, refl}
use Rattle.std.proofs.lemmas.List.{take_more}
use Rattle.shard_drive.specs.Drives.{Follows}
use Rattle.shard_drive.proofs.Given.{raised-none}
use Rattle.shard_drive.proofs.Turned.{stands-next, lasting-next, turns-next}
use Rattle.shard_drive.proofs.scheduled.follow.Goals as goal

pub loop-k-init : goal.loop-k-init
loop-k-init g c = record {
  stands = λ k d below stood. stood;
  lasting = λ k d below. refl;
  turns = λ k d below. raised-none (g.N.Driven.turns (get_or c.args.nodes.now k d)) (c.turns_are_counts.ensures k d below);
}

pub loop-k-preserved : goal.loop-k-preserved
loop-k-preserved g c =
    let at = c.loop-k.k-index in
    let k = get_or c.args.schedule.now at 0 in
    let old = c.args.nodes.now in
    let xs = c.loop-k.nodes in
    let ys = c.turn_of.new.nodes in
    let front = take at c.args.schedule.now in
    let turn = c.turn_of.ensures in
    let within : k < length xs = subst (λ (n : ℕ). k < n) (sym c.loop-k.auto.nodes) (c.requires at 0 c.loop-k-test.true) in
    let more : take (at + 1) c.args.schedule.now ≡ front ++ k ∷ [] = take_more c.args.schedule.now at 0 c.loop-k-test.true in
    record {
      stands = stands-next g.N.Driven.stands old xs ys k within turn.others turn.stands c.loop-k.invariant.stands;
      lasting = lasting-next g.N.Driven.lasting old xs ys k within turn.others turn.lasting c.loop-k.invariant.lasting;
      turns = subst (λ (schedule : List ℕ). Follows g.N.Driven.turns schedule old ys) (sym more)
          (turns-next g.N.Driven.turns front old xs ys k within turn.others turn.turns c.loop-k.invariant.turns);
    }
