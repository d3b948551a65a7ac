use Rattle.std.proofs.Common.{◌≡◌}
use Rattle.shard_drive.proofs.threads.drive_one.Given as goal

-- it stands, and what no turn changes is as it was
abbrev pub invariant-turns : goal.invariant-turns
invariant-turns g l = record {
  can_next : (goal.iterator-turns g).can_next l.iterator';
  is_finite : (goal.iterator-turns g).is_finite l.iterator';
  stands : g.N.Driven.stands l.node;
  lasting : g.N.Driven.lasting l.node ≡ g.N.Driven.lasting l.fn.node;
}
