use Rattle.std.proofs.Common.{◌≡◌, arith, subst, sym}
use Rattle.object_log.specs.Objects.{objects, killed, IsSegment}
use Rattle.object_log.proofs.Killing.{lives-inside, objects-killed, IsSegment-killed}
use Rattle.object_log.proofs.log.kill.Goals as goal

pub mark_dead-requires : goal.mark_dead-requires
mark_dead-requires c = let r = c.requires in omega (arith, lives-inside c.args.segment.now r.0 c.args.at r.1 r.2, r.1.inside, r.1.long)

pub returns-clause-dead : goal.returns-clause-dead
returns-clause-dead c used s lives =
    subst (λ bytes. objects bytes used ≡ killed c.args.at (objects c.args.segment.now used)) (sym c.mark_dead.ensures) (objects-killed c.args.segment.now used c.args.at s lives)

pub returns-clause-segment : goal.returns-clause-segment
returns-clause-segment c used s lives = subst (λ bytes. IsSegment bytes used) (sym c.mark_dead.ensures) (IsSegment-killed c.args.segment.now used c.args.at s lives)
