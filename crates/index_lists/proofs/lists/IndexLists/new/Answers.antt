use Rattle.index_lists.proofs.Linked.{linked_new, all_new, keeps_linked, lists_are}
use Rattle.index_lists.proofs.lists.IndexLists.new.Goals as goal

pub invariant_of-result : goal.invariant_of-result
invariant_of-result c =
    keeps_linked _ _ _ _ _ (all_new c.args.indices c.args.lists c.in_ok-next.next c.in_ok-prev.prev c.in_ok-lengths.lengths.items
    (linked_new c.args.indices c.args.lists _ c.in_ok-next.next.links c.in_ok-prev.prev.links c.in_ok-lengths.lengths.items c.in_ok-next.ensures.links c.in_ok-prev.ensures.links c.in_ok-lengths.ensures c.requires)
    c.in_ok-next.ensures.indices c.in_ok-prev.ensures.indices c.in_ok-next.ensures.lists c.in_ok-prev.ensures.lists)

pub returns : goal.returns
returns c =
    lists_are _ _ _ _ _ (linked_new c.args.indices c.args.lists _ c.in_ok-next.next.links c.in_ok-prev.prev.links c.in_ok-lengths.lengths.items c.in_ok-next.ensures.links c.in_ok-prev.ensures.links c.in_ok-lengths.ensures c.requires)
