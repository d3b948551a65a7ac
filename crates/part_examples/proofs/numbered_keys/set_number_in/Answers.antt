use Rattle.std.proofs.Common.{◌≡◌, true, ◌∙◌, subst, arith}
use Rattle.index_tree.specs.Indexes.{with_number}
use Rattle.index_tree.specs.Ranged.{InRange}
use Rattle.index_tree.specs.Store.{IndexState, index_in}
use Rattle.place_lemmas.proofs.Ranges.{first_kept}
use Rattle.part_examples.proofs.numbered_keys.set_number_in.Goals as goal

pub set_number-requires-clause-held : goal.set_number-requires-clause-held
set_number-requires-clause-held c = let i = c.ranged.invariant in let held = i.first.held in let least = i.are.0 in omega (arith, held, least)

pub set_number-requires-clause-guards : goal.set_number-requires-clause-guards
set_number-requires-clause-guards c = c.ranged.invariant.unguarded

pub invariant_of-ranged : goal.invariant_of-ranged
invariant_of-ranged c =
    let r = c.ranged.inside in let i = c.ranged.invariant in let same = c.set_number.ensures.segments in
    record {
      are = i.are;
      first = first_kept r.range r.store.region c.set_number.new.tree.region _ i.first same.most same.pieces same.held;
      unguarded = same.guards 0 ∙ i.unguarded;
    }

pub returns : goal.returns
returns c =
    subst (λ (r : InRange IndexState). c.set_number.result ≡ true → index_in c.set_number.new.tree ≡ with_number c.args.key.now c.args.number (index_in r.store)) c.ranged.view_is
    c.set_number.ensures.set
