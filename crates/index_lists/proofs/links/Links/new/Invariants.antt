use Rattle.std.proofs.Common.{◌≡◌, ◌+◌, ◌-◌, ◌≤◌, ◌++◌, replicate}
use Rattle.std.specs.List.{range_with_len}
use Rattle.index_lists.proofs.links.Links.new.Given as goal

abbrev pub invariant-loop-list : goal.invariant-loop-list
invariant-loop-list l =
    (l.links.entries ≡ range_with_len 0 l.list ++ replicate (l.lists + l.indices - l.list) 0)
    × (l.list ≤ l.links.written)
    × (l.links.written ≤ l.lists + l.indices)
