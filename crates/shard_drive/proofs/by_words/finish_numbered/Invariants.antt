use Rattle.std.proofs.Common.{◌≡◌}
use Rattle.std.specs.List.{All}
use Rattle.shard_drive.specs.Drives.{AtEach}
use Rattle.shard_drive.proofs.Drawn.{HasFollowed}
use Rattle.shard_drive.proofs.by_words.finish_numbered.Given as goal

-- all stand, and the words so far were followed
abbrev pub invariant-turns : goal.invariant-turns
invariant-turns g l = record {
  can_next : (goal.iterator-turns g).can_next l.iterator';
  is_finite : (goal.iterator-turns g).is_finite l.iterator';
  stands : All g.N.Driven.stands l.nodes;
  lasting : AtEach (λ _ a b. g.N.Driven.lasting b ≡ g.N.Driven.lasting a) l.fn.nodes l.nodes;
  words : HasFollowed g.N.Driven.turns l.fn.number l.fn.nodes l.nodes l.words;
}
