use Rattle.std.proofs.Common.{◌≡◌, true, ◌∙◌, subst, arith}
use Rattle.dirty_region.specs.Ranged.{InRange}
use Rattle.dirty_region.specs.State.{DirtyState, with_put}
use Rattle.place_lemmas.proofs.Ranges.{first_kept}
use Rattle.part_examples.proofs.due_puts.add_put_in.Goals as goal

pub add_put-requires-clause-held : goal.add_put-requires-clause-held
add_put-requires-clause-held c = let i = c.ranged.invariant in let held = i.first.held in let least = i.are.0 in omega (arith, held, least)

pub invariant_of-ranged : goal.invariant_of-ranged
invariant_of-ranged c =
    let r = c.ranged.inside in let i = c.ranged.invariant in let same = c.add_put.ensures.kept.segments in
    record {
      are = i.are;
      first = first_kept r.range r.store.region c.add_put.new.dirty.region _ i.first same.most same.pieces same.held;
      unguarded = same.guards 0 ∙ i.unguarded;
    }

pub returns : goal.returns
returns c =
    subst (λ (r : InRange DirtyState). c.add_put.result ≡ true → c.add_put.new.dirty.queue ≡ with_put c.args.key.now c.args.value.now c.args.number r.store.queue) c.ranged.view_is
    c.add_put.ensures.added
