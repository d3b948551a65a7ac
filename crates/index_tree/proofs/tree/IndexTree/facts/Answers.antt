use Rattle.std.proofs.Common.{◌≡◌, ◌*◌, ◌≤◌, All, length, Some, sym, subst}
use Rattle.regions.specs.Shapes.{group_count, held_count}
use Rattle.regions.specs.Contents.{Item, live_at}
use Rattle.regions.specs.declared.place.Place.{Place}
use Rattle.tree_nodes.specs.Nodes.{IsEntry}
use Rattle.index_tree.specs.Indexes.{Index, IsIndex}
use Rattle.layout.specs.Kinds.{node_kind}
use Rattle.layout.specs.Sizes.{segment_pages, most_run_pages}
use Rattle.index_tree.specs.Sizes.{most}
use Rattle.index_tree.specs.Limits.{most_levels, most_run_levels, most_spares}
use Rattle.index_tree.specs.Store.{AreNodes, IndexState, index_in, levels, nodes_of}
use Rattle.index_tree.proofs.Entries.{entries_stand}
use Rattle.index_tree.proofs.States.{low_enough, low_enough_in_run}
use Rattle.index_tree.proofs.tree.IndexTree.facts.Goals as goal

pub returns-clause-nodes : goal.returns-clause-nodes
returns-clause-nodes c = let r = c.self.invariant.roster in subst (λ (s : IndexState). AreNodes s) c.self.view_is (record { nodes = r.holds; tree = r.tree })

pub returns-clause-kinds : goal.returns-clause-kinds
returns-clause-kinds c =
    subst (λ (s : IndexState). (p : Place) (item : Item) → live_at s.region p ≡ Some item → item.kind ≡ node_kind) c.self.view_is
    (λ p item is. (c.self.invariant.roster.kinds p item is).1)

pub returns-clause-spares : goal.returns-clause-spares
returns-clause-spares c = subst (λ (s : IndexState). length s.tree.spares ≤ most_spares) c.self.view_is c.self.invariant.spare

pub returns-clause-index : goal.returns-clause-index
returns-clause-index c =
    let i = c.self.invariant in
    subst (λ (s : IndexState). IsIndex (index_in s)) c.self.view_is (subst (λ (x : Index). IsIndex x) (sym i.roster.index) i.rising)

pub returns-clause-entries : goal.returns-clause-entries
returns-clause-entries c =
    let f = c.self.inside in
    subst (λ (s : IndexState). All IsEntry (index_in s)) c.self.view_is (entries_stand (nodes_of (live_at f.region)) f.roots.tree c.self.invariant.roster.tree)

pub returns-clause-room : goal.returns-clause-room
returns-clause-room c =
    let i = c.self.invariant in let f = c.self.inside in
    subst (λ (s : IndexState). length (index_in s) ≤ most (held_count s.region)) c.self.view_is (subst (λ (x : Index). length x ≤ most (held_count f.region)) (sym i.roster.index) i.room)

pub returns-clause-levels : goal.returns-clause-levels
returns-clause-levels c =
    let f = c.self.inside in
    subst (λ (s : IndexState). levels s.tree ≤ most_levels) c.self.view_is (low_enough f.roots f.region f.keys f.segments c.self.invariant)

pub returns-clause-run_levels : goal.returns-clause-run_levels
returns-clause-run_levels c =
    let f = c.self.inside in
    subst (λ (s : IndexState). segment_pages * held_count s.region ≤ most_run_pages → levels s.tree ≤ most_run_levels) c.self.view_is
    (λ held. low_enough_in_run f.roots f.region f.keys f.segments c.self.invariant held)

pub returns-clause-one : goal.returns-clause-one
returns-clause-one c = subst (λ (s : IndexState). group_count s.region ≡ 1) c.self.view_is c.self.invariant.one
