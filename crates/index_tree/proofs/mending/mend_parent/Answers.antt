use Rattle.std.proofs.Common.{◌≡◌, Option, Some, sym, ap, subst, ◌∙◌}
use Rattle.regions.specs.Contents.{live_at}
use Rattle.regions.specs.declared.place.Place.{Place}
use Rattle.tree_nodes.specs.Nodes.{child_at}
use Rattle.regions.specs.Places.{link_to}
use Rattle.index_tree.specs.Links.{with_child}
use Rattle.index_tree.specs.Store.{nodes_of}
use Rattle.index_tree.specs.inside.Climbs.{child_in}
use Rattle.index_tree.specs.inside.Mends.{ChangesIf}
use Rattle.index_tree.proofs.Climbed.{read_of}
use Rattle.index_tree.proofs.Mended.{changes_if, changes_none, parent_mended}
use Rattle.place_lemmas.proofs.Places.{some_is, some_none}
use Rattle.index_tree.proofs.mending.mend_parent.Goals as goal

pub returns-in-Some : goal.returns-in-Some
returns-in-Some c =
    let old = c.args.region.now in let new = c.lead_down.new.region in let from = c.args.from in let to = c.args.to in
    let p = c.in-Some.parent in let i = c.child_index-i.result in
    let w = c.requires.parent.there p c.in-Some.is in
    let here : child_in (nodes_of (live_at old) p) i ≡ link_to (Some from) =
    ap (λ o. child_in o i) w.1 ∙ (read_of (λ node. child_at node i ≡ c.link_to.result) (nodes_of (live_at old)) p w.0 w.1 c.child_index-i.ensures.child ∙ c.link_to.ensures) in
    parent_mended from to c.args.parent old new i c.requires.parent
    (λ q e. subst (λ (x : Place). child_in (nodes_of (live_at old) x) i ≡ link_to (Some from)) (some_is (sym c.in-Some.is ∙ e)) here)
    (subst (λ (o : Option Place). ChangesIf o (with_child i (link_to (Some to))) old new) (sym c.in-Some.is)
    (changes_if p (with_child i (link_to (Some to))) old new c.lead_down.ensures))

pub returns-in_default : goal.returns-in_default
returns-in_default c =
    let old = c.args.region.now in let from = c.args.from in let to = c.args.to in
    parent_mended from to c.args.parent old old 0 c.requires.parent (λ q e. some_none e c.in_default.is)
    (subst (λ (o : Option Place). ChangesIf o (with_child 0 (link_to (Some to))) old old) (sym c.in_default.is) (changes_none (with_child 0 (link_to (Some to))) old))
