use Rattle.std.proofs.Common.{◌≡◌}
use Rattle.span_lists.specs.Layout.{Divides, IsCoalesced}
use Rattle.number_set.specs.Numbers.{size}
use Rattle.small_pools.specs.Objects.{AreHeldIn, Trims, AreUsed, KeepsRoom}
use Rattle.small_pools.specs.inside.Marks.{AreMarked}
use Rattle.small_pools.proofs.pools.trim_marked.Given as goal

abbrev pub invariant-loop-first : goal.invariant-loop-first
invariant-loop-first l = record {
  marked : AreMarked l.held l.marks;
  trims : Trims l.fn.held l.held l.fn.spans l.spans;
  room : KeepsRoom l.fn.held l.held l.fn.spans l.spans;
  unchanged : AreUsed l.fn.held → (l.held ≡ l.fn.held) × (l.spans ≡ l.fn.spans);
  held : AreHeldIn l.held l.spans;
  divided : Divides l.spans;
  coalesced : IsCoalesced l.spans;
}

abbrev pub decreases-loop-first : goal.decreases-loop-first
decreases-loop-first l = size l.marks
