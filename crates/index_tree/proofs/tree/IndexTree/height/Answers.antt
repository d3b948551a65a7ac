use Rattle.std.proofs.Common.{◌*◌, ◌≤◌, sym, ap, subst, ◌∙◌}
use Rattle.layout.specs.Sizes.{segment_pages, most_run_pages}
use Rattle.regions.specs.Shapes.{held_count}
use Rattle.index_tree.specs.Limits.{most_levels, most_run_levels}
use Rattle.index_tree.specs.Store.{IndexState, index_in, levels}
use Rattle.index_tree.proofs.States.{low_enough, low_enough_in_run, none_high}
use Rattle.index_tree.proofs.tree.IndexTree.height.Goals as goal

pub returns-clause-levels : goal.returns-clause-levels
returns-clause-levels c = c.height.ensures ∙ ap (λ (s : IndexState). levels s.tree) c.self.view_is

pub returns-clause-most : goal.returns-clause-most
returns-clause-most c =
    let f = c.self.inside in
    subst (λ n. n ≤ most_levels) (sym c.height.ensures) (low_enough f.roots f.region f.keys f.segments c.self.invariant)

pub returns-clause-most_of_run : goal.returns-clause-most_of_run
returns-clause-most_of_run c =
    let f = c.self.inside in
    subst (λ (s : IndexState). segment_pages * held_count s.region ≤ most_run_pages → c.height.result ≤ most_run_levels) c.self.view_is
    (λ held. subst (λ n. n ≤ most_run_levels) (sym c.height.ensures) (low_enough_in_run f.roots f.region f.keys f.segments c.self.invariant held))

pub returns-clause-none : goal.returns-clause-none
returns-clause-none c =
    let f = c.self.inside in let w = none_high f.roots f.region f.keys f.segments c.height.result c.self.invariant c.height.ensures in
    let same = ap (λ (s : IndexState). index_in s) c.self.view_is in
    (λ e. sym same ∙ w.0 e, λ e. w.1 (same ∙ e))
