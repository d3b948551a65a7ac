use Rattle.std.proofs.Common.{◌≡◌, ℕ, ◌≤◌, replicate, None, inr, inl, sym, ap, ◌∙◌, arith}
use Rattle.regions.specs.Segments.{RegionState, idle}
use Rattle.regions.specs.Shapes.{group_count, held_count, shape}
use Rattle.regions.specs.Counts.{live_total}
use Rattle.regions.specs.Contents.{item_if_live, live_at, standing_in}
use Rattle.regions.specs.declared.place.Place.{Place}
use Rattle.index_tree.specs.Limits.{most_segments}
use Rattle.index_tree.specs.Store.{nodes_of}
use Rattle.index_tree.specs.Trees.{index_of}
use Rattle.index_tree.specs.inside.Consistent.{IsConsistent}
use Rattle.index_tree.specs.inside.Rosters.{RosterState}
use Rattle.index_tree.proofs.States.{empty_consistent, no_nodes, no_segment, none_held, none_live}
use Rattle.index_tree.proofs.tree.IndexTree.new.Goals as goal

abbrev new_region : ℕ → RegionState
new_region segments = record { most = segments; groups = replicate 1 idle; segments = replicate segments None }

fresh : (t : RosterState) (r : RegionState) (segments : ℕ) → t ≡ no_nodes → r ≡ new_region segments → segments ≤ most_segments → IsConsistent t r 0 0
fresh t r segments is there small =
    let nothing : (p : Place) → live_at r p ≡ None = λ p. ap (λ (x : RegionState). live_at x p) there ∙ ap (λ o. item_if_live (standing_in o p.at)) (no_segment segments p.segment) in
    let held : held_count r ≡ 0 = ap held_count there ∙ none_held segments in
    let total : live_total r ≡ 0 = ap live_total there ∙ none_live segments in
    let numbers : (shape r).most ≡ segments = ap (λ (x : RegionState). (shape x).most) there in
    empty_consistent t r 0 is (ap group_count there) nothing (sym held) (omega (arith, held)) (omega (arith, numbers, small)) (inr (inl held)) total

pub invariant_of-result : goal.invariant_of-result
invariant_of-result c = fresh c.new-2.result c.in_ok-new.field-0 c.args.segments c.new-2.ensures c.in_ok-new.ensures c.requires

pub returns-clause-index : goal.returns-clause-index
returns-clause-index c = ap (λ (t : RosterState). index_of (nodes_of (live_at c.in_ok-new.field-0)) t.tree) c.new-2.ensures

pub returns-clause-held : goal.returns-clause-held
returns-clause-held c = ap held_count c.in_ok-new.ensures ∙ none_held c.args.segments
