use Rattle.std.proofs.Common.{◌≡◌, ℕ, ◌<◌, length, set, get_or, sym, subst, ◌∙◌, arith}
use Rattle.std.proofs.lemmas.List.{length-set}
use Rattle.key_table.proofs.Listed.{placed_next}
use Rattle.key_table.proofs.waiting.place_all.Goals as goal

pub loop-at-preserved : goal.loop-at-preserved
loop-at-preserved c =
    let numbers = c.args.numbers.now.items in
    let places = c.loop-at.places.items in
    let at = c.loop-at.at in
    let inside : at < length numbers = omega arith in
    let fits : get_or numbers at 0 < length places = (let i = c.requires.inside at inside in omega (arith, i)) in
    let next = placed_next numbers places at c.requires.once inside fits c.loop-at.invariant.placed in
    record {
      placed = λ k h. subst (λ (n : ℕ). get_or (set places n at) (get_or numbers k 0) 0 ≡ k) (sym c.number_at-number.ensures) (next k h);
      long = length-set places c.number_at-number.result at ∙ c.loop-at.invariant.long;
      capacity = omega arith;
    }
