use Rattle.std.proofs.Common.{Some, sym, subst}
use Rattle.std.specs.Prelude.{IsSome}
use Rattle.object_log.specs.Objects.{objects}
use Rattle.regions.specs.Contents.{starts_in}
use Rattle.regions.proofs.Objects.{first-start}
use Rattle.regions.proofs.segment.Segment.used.Goals as goal

pub returns-clause-start : goal.returns-clause-start
returns-clause-start c begun =
    let i = c.self.inside in let v = c.self.invariant in
    subst (λ h. starts_in (Some h) 0) c.self.view_is (first-start i.group i.piece.bytes 0 i.used (objects i.piece.bytes i.used) (v.2 (subst (λ h. IsSome h.group) (sym c.self.view_is) begun)).objects)
