use Rattle.std.proofs.Common.{◌≡◌, ℕ, ◌+◌, ◌≤◌, List, ap, arith}
use Rattle.object_log.specs.Objects.{objects, object_at, IsSize, IsSegment, StandsAt}
use Rattle.object_log.proofs.Reading.{stands-fits}
use Rattle.object_log.proofs.Writing.{has-object, objects-written, IsSegment-written}
use Rattle.object_log.proofs.descriptor.content_extent.Goals as goal

-- an object has a size, and lies within those that stand there
fits : (bytes : List ℕ) (used at : ℕ) → IsSegment bytes used → StandsAt at (objects bytes used) → IsSize (object_at bytes at).size × (at + (object_at bytes at).size ≤ used)
fits bytes used at s stands = stands-fits bytes 0 used at (objects bytes used) s.objects stands

pub returns-clause-segment : goal.returns-clause-segment
returns-clause-segment c used ws s stands long =
    let bytes = c.args.segment.now in let at = c.args.at in
    let f = fits bytes used at s stands in
    let size : c.read_descriptor.result.size ≡ (object_at bytes at).size = ap (λ d. d.size) c.read_descriptor.ensures.read in
    IsSegment-written bytes ws used at (object_at bytes at).size s (has-object bytes 0 used at (objects bytes used) s.objects stands) f.0.0 f.1 (omega (arith, long, size, f.0.0))

pub returns-clause-objects : goal.returns-clause-objects
returns-clause-objects c used ws s stands long =
    let bytes = c.args.segment.now in let at = c.args.at in
    let f = fits bytes used at s stands in
    let size : c.read_descriptor.result.size ≡ (object_at bytes at).size = ap (λ d. d.size) c.read_descriptor.ensures.read in
    objects-written bytes ws used at (object_at bytes at).size s (has-object bytes 0 used at (objects bytes used) s.objects stands) f.0.0 f.1 (omega (arith, long, size, f.0.0))
