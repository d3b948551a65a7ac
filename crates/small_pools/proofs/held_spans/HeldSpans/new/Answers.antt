use Rattle.small_pools.specs.inside.Tables.{Tables}
use Rattle.small_pools.proofs.Fresh.{consistent_new, nothing_held, nothing_allocated}
use Rattle.small_pools.proofs.Steps.{written_none}
use Rattle.small_pools.proofs.Tables.{are_objects}
use Rattle.small_pools.proofs.held_spans.HeldSpans.new.Goals as goal

pub invariant_of-result : goal.invariant_of-result
invariant_of-result c =
    (consistent_new _ c.requires.1 c.in_ok-classes.ensures.entries c.in_ok-firsts.ensures.entries c.in_ok-masks.ensures.entries c.in_ok-lists.ensures, written_none c.args.pages _ _ _ _ c.in_ok-classes.ensures.entries)

pub returns-clause-none_held : goal.returns-clause-none_held
returns-clause-none_held c =
    let tables : Tables = record { pages = c.args.pages; classes = c.in_ok-classes.classes.entries; firsts = c.in_ok-firsts.firsts.entries; masks = c.in_ok-masks.masks.entries; lists = c.in_ok-lists.lists } in
    nothing_held tables c.in_ok-classes.ensures.entries

pub returns-clause-none_allocated : goal.returns-clause-none_allocated
returns-clause-none_allocated c =
    let tables : Tables = record { pages = c.args.pages; classes = c.in_ok-classes.classes.entries; firsts = c.in_ok-firsts.firsts.entries; masks = c.in_ok-masks.masks.entries; lists = c.in_ok-lists.lists } in
    nothing_allocated tables c.in_ok-classes.ensures.entries

pub returns-clause-objects : goal.returns-clause-objects
returns-clause-objects c = are_objects (invariant_of-result c).0
