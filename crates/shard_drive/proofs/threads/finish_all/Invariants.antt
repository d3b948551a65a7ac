use Rattle.std.proofs.Common.{◌≡◌}
use Rattle.std.specs.List.{All}
use Rattle.shard_drive.specs.Drives.{AtEach}
use Rattle.shard_drive.proofs.threads.finish_all.Given as goal

-- all stand, and what no turn changes is as it was
abbrev pub invariant-rounds : goal.invariant-rounds
invariant-rounds g l = record {
  can_next : (goal.iterator-rounds g).can_next l.iterator';
  is_finite : (goal.iterator-rounds g).is_finite l.iterator';
  stands : All g.N.Driven.stands l.nodes;
  lasting : AtEach (λ _ a b. g.N.Driven.lasting b ≡ g.N.Driven.lasting a) l.fn.nodes l.nodes;
}
