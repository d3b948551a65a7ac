use Rattle.std.proofs.Common.{◌≡◌, take}
use Rattle.shard_drive.specs.Drives.{AtEach, Follows}
use Rattle.shard_drive.proofs.scheduled.follow.Given as goal

-- the turns of the entries so far were made
abbrev pub invariant-loop-k : goal.invariant-loop-k
invariant-loop-k g l = record {
  stands : AtEach (λ _ a b. g.N.Driven.stands a → g.N.Driven.stands b) l.fn.nodes l.nodes;
  lasting : AtEach (λ _ a b. g.N.Driven.lasting b ≡ g.N.Driven.lasting a) l.fn.nodes l.nodes;
  turns : Follows g.N.Driven.turns (take l.k-index l.fn.schedule) l.fn.nodes l.nodes;
}
