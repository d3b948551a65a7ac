use Rattle.std.proofs.Common.{◌≡◌, ◌^◌, Some, None, sym, ap, ◌∙◌}
use Rattle.std.specs.Ordering.{nat_cmp}
use Rattle.std.specs.FinMap as map
use Rattle.common_lemmas.proofs.Sums.{sum_of_none}
use Rattle.shard_memory.specs.Room.{IsTrimmed}
use Rattle.shard_memory.proofs.Changes.{all_room, fresh_orders}
use Rattle.shard_memory.proofs.Steps.{all_free}
use Rattle.shard_memory.proofs.piece_allocator.PieceAllocator.open.Goals as goal

pub invariant_of-result : goal.invariant_of-result
invariant_of-result c = (
  sym c.in_ok-range.ensures.numbers.1,
  all_free c.args.pages c.in_ok-range.range.pages c.in_ok-range.range.allocated c.in_ok-spans.spans c.in_ok-pools.pools c.in_ok-range.ensures.numbers.1 c.requires.1 c.requires.2 c.in_ok-range.ensures.none_allocated c.in_ok-spans.ensures.pages c.in_ok-spans.ensures.none_allocated
      c.in_ok-pools.ensures.pages c.in_ok-pools.ensures.none_held c.in_ok-pools.ensures.none_allocated c.in_ok-pools.ensures.objects c.in_ok-spans.ensures.divided c.in_ok-spans.ensures.coalesced,
)

pub returns-clause-trimmed : goal.returns-clause-trimmed
unfolding IsTrimmed
returns-clause-trimmed c = λ first class held. absurd (let clash : None ≡ Some class = sym (ap (λ m. map.get m first) c.in_ok-pools.ensures.none_held ∙ map.get-empty nat_cmp first) ∙ held in cc)

pub returns-clause-pages_out : goal.returns-clause-pages_out
returns-clause-pages_out c = sum_of_none (λ order. 2 ^ order) c.in_ok-spans.spans.allocated (λ k. ap (λ m. map.get m k) c.in_ok-spans.ensures.none_allocated ∙ map.get-empty nat_cmp k)

pub returns-clause-room : goal.returns-clause-room
returns-clause-room c =
    all_room (record { spans = c.in_ok-spans.spans; pools = c.in_ok-pools.pools })
    (fresh_orders c.in_ok-spans.spans c.args.pages c.in_ok-spans.ensures.divided c.in_ok-spans.ensures.none_allocated c.in_ok-spans.ensures.pages c.requires.0 c.in_ok-spans.ensures.greatest)

pub returns-clause-free : goal.returns-clause-free
returns-clause-free c = record {
  none_allocated = c.in_ok-spans.ensures.none_allocated;
  greatest = c.in_ok-spans.ensures.greatest;
  none_held = c.in_ok-pools.ensures.none_held;
  no_object = c.in_ok-pools.ensures.none_allocated;
}
