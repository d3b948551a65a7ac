-- As many segments are held as were taken of the range, and all of it that is allocated lies in front of the next one.
use Rattle.std.proofs.Common.{◌≡◌, ◌*◌, ◌+◌, ◌≤◌, All, length}
use Rattle.layout.specs.Sizes as sizes
use Rattle.regions.specs.Shapes.{shape, held_count}
use Rattle.part_examples.proofs.tests.caches.add_segments.Given as goal

abbrev pub invariant-loop-number : goal.invariant-loop-number
invariant-loop-number l =
    (l.cache.room ≡ l.fn.cache.room) × (held_count l.cache.region ≡ l.number) × ((shape l.cache.region).most ≡ l.segments)
    × (l.range.pages ≡ sizes.segment_pages * l.segments) × (length l.range.allocated ≡ l.number)
    × All (λ a. a.start + a.len ≤ l.number * sizes.segment) l.range.allocated
