use Rattle.std.proofs.Common.{length, sym, ap, ◌∙◌}
use Rattle.index_tree.specs.Indexes.{Index}
use Rattle.index_tree.specs.Store.{IndexState, index_in}
use Rattle.index_tree.proofs.tree.IndexTree.len.Goals as goal

pub returns : goal.returns
returns c =
    let i = c.self.invariant in
    i.len ∙ (ap (λ (x : Index). length x) (sym i.roster.index) ∙ ap (λ (s : IndexState). length (index_in s)) c.self.view_is)
