use Rattle.std.proofs.Common.{◌+◌, ℕ, List, ap, ◌∙◌, arith}
use Rattle.std.proofs.lemmas.List.Edits.{paste_more, paste_none}
use Rattle.tree_nodes.specs.Nodes.{TreeNode, no_place, node_in}
use Rattle.index_tree.specs.Pairs.{with_child_at, with_children}
use Rattle.index_tree.proofs.copying.copy_children.Goals as goal

pub loop-k-init : goal.loop-k-init
loop-k-init c =
    let to = node_in c.args.to.now in
    record {
      node = ap (λ (ls : List ℕ). record to { children = ls }) (paste_none to.children c.args.at (node_in c.args.from.now).children);
      holds = c.requires.to;
    }

pub loop-k-preserved : goal.loop-k-preserved
loop-k-preserved c =
    let to = node_in c.args.to.now in
    let links = (node_in c.args.from.now).children in
    let k = c.loop-k.k in
    let size = c.requires.to.node.children in let many = c.requires.from.node.children in let room = c.requires.room in let test = c.loop-k-test.true in
    record {
      node =
          c.set_child.ensures.node
          ∙ (ap (λ (n : TreeNode). with_child_at (c.args.at + k) c.child.result n) c.loop-k.invariant.node
          ∙ (ap (λ l. with_child_at (c.args.at + k) l (with_children c.args.at links k to)) c.child.ensures
          ∙ ap (λ (ls : List ℕ). record to { children = ls }) (paste_more to.children c.args.at links k no_place (omega (arith, size, room, test)) (omega (arith, many, room, test)))));
      holds = c.set_child.ensures.holds;
    }
