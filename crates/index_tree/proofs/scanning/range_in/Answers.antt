use Rattle.std.proofs.Common.{sym, ◌∙◌, arith}
use Rattle.regions.specs.Contents.{live_at}
use Rattle.index_tree.specs.Store.{nodes_of}
use Rattle.index_tree.proofs.SearchLeaves.{leaf_rises, way_leaf}
use Rattle.index_tree.proofs.SearchNode.{is_live}
use Rattle.index_tree.proofs.SearchScan.{all_written, begins, end_written, few_keys, goes_on, next_leaf, some_more}
use Rattle.index_tree.proofs.scanning.range_in.Goals as goal

pub below_at-first-requires-clause-node : goal.below_at-first-requires-clause-node
below_at-first-requires-clause-node c =
    let live = live_at c.args.region.now in let q = c.leaf_of-at.result in
    let leaf = way_leaf (nodes_of live) c.args.level c.args.root c.args.lo.now q c.requires.tree c.leaf_of-at.ensures in
    c.requires.nodes q (is_live live q leaf.node leaf.is)

pub below_at-first-requires-clause-rising : goal.below_at-first-requires-clause-rising
below_at-first-requires-clause-rising c =
    let nodes = nodes_of (live_at c.args.region.now) in let q = c.leaf_of-at.result in
    leaf_rises nodes q (way_leaf nodes c.args.level c.args.root c.args.lo.now q c.requires.tree c.leaf_of-at.ensures)

pub write_entries-scanned-requires-clause-node : goal.write_entries-scanned-requires-clause-node
write_entries-scanned-requires-clause-node c =
    let live = live_at c.args.region.now in let q = c.leaf_of-at.result in
    let leaf = way_leaf (nodes_of live) c.args.level c.args.root c.args.lo.now q c.requires.tree c.leaf_of-at.ensures in
    c.requires.nodes q (is_live live q leaf.node leaf.is)

pub loop-scanned-init : goal.loop-scanned-init
loop-scanned-init c =
    begins (nodes_of (live_at c.args.region.now)) c.args.level c.args.root c.args.lo.now c.args.count c.leaf_of-at.result c.below_at-first.result c.write_entries-scanned.result.keys
    c.write_entries-scanned.result.bytes c.args.into.now c.write_entries-scanned.new.into c.requires.tree c.requires.linked c.leaf_of-at.ensures c.below_at-first.ensures c.write_entries-scanned.ensures

pub returns-in_default : goal.returns-in_default
returns-in_default c = end_written c.loop-scanned.invariant c.next_at.result c.next_at.ensures (sym c.led_to.ensures ∙ c.in_default.is)

pub write_entries-more-requires-clause-node : goal.write_entries-more-requires-clause-node
write_entries-more-requires-clause-node c =
    let leaf = (next_leaf c.loop-scanned.invariant c.next_at.result c.in-Some.next c.next_at.ensures (sym c.led_to.ensures ∙ c.in-Some.is)).0 in
    c.requires.nodes c.in-Some.next (is_live (live_at c.args.region.now) c.in-Some.next leaf.node leaf.is)

pub overflow_add-scanned : goal.overflow_add-scanned
overflow_add-scanned c =
    let more = c.write_entries-more in
    let on = goes_on c.loop-scanned.invariant c.next_at.result c.in-Some.next more.result.keys more.result.bytes more.new.into c.next_at.ensures (sym c.led_to.ensures ∙ c.in-Some.is) c.loop-scanned-test.true more.ensures in
    let few = few_keys on in let most = c.requires.most in
    omega (arith, few, most)

pub overflow_add-scanned-in-loop-scanned : goal.overflow_add-scanned-in-loop-scanned
overflow_add-scanned-in-loop-scanned c =
    let more = c.write_entries-more in
    let on = goes_on c.loop-scanned.invariant c.next_at.result c.in-Some.next more.result.keys more.result.bytes more.new.into c.next_at.ensures (sym c.led_to.ensures ∙ c.in-Some.is) c.loop-scanned-test.true more.ensures in
    let few = few_keys on in let room = on.written.room in let most = c.requires.most in
    omega (arith, few, most, room)

pub loop-scanned-smaller : goal.loop-scanned-smaller
loop-scanned-smaller c =
    let more = c.write_entries-more in
    let some = some_more c.loop-scanned.invariant c.next_at.result c.in-Some.next more.result.keys more.result.bytes more.new.into c.next_at.ensures (sym c.led_to.ensures ∙ c.in-Some.is) c.loop-scanned-test.true more.ensures in
    let less = c.loop-scanned-test.true in
    omega (arith, some, less)

pub loop-scanned-preserved : goal.loop-scanned-preserved
loop-scanned-preserved c =
    let more = c.write_entries-more in
    goes_on c.loop-scanned.invariant c.next_at.result c.in-Some.next more.result.keys more.result.bytes more.new.into c.next_at.ensures (sym c.led_to.ensures ∙ c.in-Some.is) c.loop-scanned-test.true more.ensures

pub returns : goal.returns
returns c = all_written c.loop-scanned.invariant c.loop-scanned-test.false
