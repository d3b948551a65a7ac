use Rattle.std.proofs.Common.{◌≡◌, ◌<◌, length, true, Some, sym, ◌∙◌, subst, arith}
use Rattle.std.specs.Prelude.{slice_set}
use Rattle.fragments.specs.Ranged.{InRange}
use Rattle.fragments.specs.Store.{StoreState, values_of}
use Rattle.place_lemmas.proofs.Ranges.{first_kept}
use Rattle.part_examples.proofs.named_values.set_value_in.Goals as goal

pub set_value-requires-clause-name : goal.set_value-requires-clause-name
set_value-requires-clause-name c = subst (λ (r : InRange StoreState). c.args.name < length r.store.firsts) (sym c.ranged.view_is) c.requires

pub set_value-requires-clause-held : goal.set_value-requires-clause-held
set_value-requires-clause-held c = let i = c.ranged.invariant in let held = i.first.held in let least = i.are.0 in omega (arith, held, least)

pub set_value-requires-clause-guards : goal.set_value-requires-clause-guards
set_value-requires-clause-guards c = c.ranged.invariant.unguarded

pub invariant_of-ranged : goal.invariant_of-ranged
invariant_of-ranged c =
    let r = c.ranged.inside in let i = c.ranged.invariant in let same = c.set_value.ensures.segments in
    record {
      are = i.are;
      first = first_kept r.range r.store.region c.set_value.new.store.region _ i.first same.most same.pieces same.held;
      unguarded = same.guards 0 ∙ i.unguarded;
    }

pub returns : goal.returns
returns c =
    subst (λ (r : InRange StoreState). c.set_value.result ≡ true → values_of c.set_value.new.store ≡ slice_set (values_of r.store) c.args.name (Some c.args.bytes.now)) c.ranged.view_is
    c.set_value.ensures.set
