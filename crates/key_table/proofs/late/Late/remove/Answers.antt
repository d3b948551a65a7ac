use Rattle.std.proofs.Common.{◌≡◌, ℕ, ◌<◌, ◌≤◌, ◌++◌, ◌∷◌, List, length, set, get_or, sym, ap, subst, ◌∙◌, arith}
use Rattle.std.specs.Vec.{vec_capacity}
use Rattle.common_lemmas.specs.Lists.{times}
use Rattle.key_table.specs.Table.{AreSame}
use Rattle.key_table.specs.Late.{Numbers}
use Rattle.key_table.specs.inside.Places.{ArePlaced}
use Rattle.std.specs.Option.{option_to_list}
use Rattle.key_table.proofs.Listed.{listed_at, removed, placed_less}
use Rattle.key_table.proofs.late.Late.remove.Goals as goal

pub number_at-place-requires : goal.number_at-place-requires
number_at-place-requires c =
    let there = listed_at c.args.number c.self.inside.numbers.items (subst (λ (v : Numbers). 1 ≤ times c.args.number v.numbers) (sym c.self.view_is) c.requires) in
    subst (λ n. n < length c.self.inside.places.items) there.is (c.self.invariant.0.placed there.at there.inside)

pub invariant_of-self : goal.invariant_of-self
invariant_of-self c =
    let numbers = c.self.inside.numbers.items in
    let there = listed_at c.args.number numbers (subst (λ (v : Numbers). 1 ≤ times c.args.number v.numbers) (sym c.self.view_is) c.requires) in
    let place : c.number_at-place.result ≡ there.at = c.number_at-place.ensures ∙ (ap (λ n. get_or c.self.inside.places.items n 0) (sym there.is) ∙ c.self.invariant.0.at there.at there.inside) in
    let cut = c.pop.ensures.items ∙ ap (λ o. c.pop.new.self.items ++ option_to_list o) c.unwrap-last.ensures in
    let less = placed_less c.self.inside.bound numbers c.pop.new.self.items c.self.inside.places.items _ _ (vec_capacity c.fill.new.numbers) (vec_capacity c.fill.new.places) c.unwrap-last.result c.number_at-place.result
    c.self.invariant.0 cut (omega (arith, place, there.inside)) (omega (arith, c.self.invariant.0.numbers_fit, c.pop.ensures.capacity, c.fill.ensures.capacity.0)) (omega (arith, c.self.invariant.0.places_fit, c.fill.ensures.capacity.1)) in (
      subst (λ (xs : List ℕ). ArePlaced c.self.inside.bound xs c.fill.new.places.items (vec_capacity c.fill.new.numbers) (vec_capacity c.fill.new.places)) (sym c.fill.ensures.numbers)
          (subst (λ (xs : List ℕ). ArePlaced c.self.inside.bound (set c.pop.new.self.items c.number_at-place.result c.unwrap-last.result) xs (vec_capacity c.fill.new.numbers) (vec_capacity c.fill.new.places)) (sym c.fill.ensures.places) less),
      c.self.invariant.1,
    )

pub returns-clause-numbers : goal.returns-clause-numbers
returns-clause-numbers c =
    let numbers = c.self.inside.numbers.items in
    let there = listed_at c.args.number numbers (subst (λ (v : Numbers). 1 ≤ times c.args.number v.numbers) (sym c.self.view_is) c.requires) in
    let place : c.number_at-place.result ≡ there.at = c.number_at-place.ensures ∙ (ap (λ n. get_or c.self.inside.places.items n 0) (sym there.is) ∙ c.self.invariant.0.at there.at there.inside) in
    let cut = c.pop.ensures.items ∙ ap (λ o. c.pop.new.self.items ++ option_to_list o) c.unwrap-last.ensures in
    let same = removed numbers c.pop.new.self.items c.unwrap-last.result c.number_at-place.result c.args.number cut (omega (arith, place, there.inside)) (ap (λ k. get_or numbers k 0) place ∙ there.is) in
    subst (λ (v : Numbers). AreSame v.numbers (c.args.number ∷ c.fill.new.numbers.items)) c.self.view_is (subst (λ (xs : List ℕ). AreSame numbers (c.args.number ∷ xs)) (sym c.fill.ensures.numbers) same)
