use Rattle.std.proofs.Common.{◌≡◌, ℕ, ◌<◌, ◌++◌, ◌∷◌, [], List, length, set, is_ok, sym, ap, subst, ◌∙◌, arith}
use Rattle.std.specs.Prelude.{if◌then◌else◌}
use Rattle.std.specs.Vec.{vec_capacity}
use Rattle.common_lemmas.specs.Lists.{times}
use Rattle.key_table.specs.Late.{Numbers}
use Rattle.key_table.specs.inside.Places.{ArePlaced}
use Rattle.key_table.proofs.Listed.{one_more_fits, placed_more}
use Rattle.key_table.proofs.late.Late.add.Goals as goal

pub overflow_cast-len : goal.overflow_cast-len
overflow_cast-len c =
    let absent = subst (λ (v : Numbers). times c.args.number v.numbers ≡ 0) (sym c.self.view_is) c.requires.absent in
    let below = subst (λ (v : Numbers). c.args.number < v.bound) (sym c.self.view_is) c.requires.below in
    let fits = one_more_fits c.self.inside.bound c.args.number c.self.inside.numbers.items c.self.inside.places.items _ _ c.self.invariant.0 below absent in
    omega (arith, fits, c.self.ranges)

pub unwrap-requires : goal.unwrap-requires
unwrap-requires c =
    let absent = subst (λ (v : Numbers). times c.args.number v.numbers ≡ 0) (sym c.self.view_is) c.requires.absent in
    let below = subst (λ (v : Numbers). c.args.number < v.bound) (sym c.self.view_is) c.requires.below in
    let fits = one_more_fits c.self.inside.bound c.args.number c.self.inside.numbers.items c.self.inside.places.items _ _ c.self.invariant.0 below absent in
    c.push.ensures.succeeds (omega (arith, fits, c.self.invariant.0.numbers_fit))

pub invariant_of-self : goal.invariant_of-self
invariant_of-self c =
    let old = c.self.inside.numbers.items in
    let absent = subst (λ (v : Numbers). times c.args.number v.numbers ≡ 0) (sym c.self.view_is) c.requires.absent in
    let below = subst (λ (v : Numbers). c.args.number < v.bound) (sym c.self.view_is) c.requires.below in
    let pushed = c.push.ensures.items ∙ ap (λ r. if is_ok r then old ++ c.args.number ∷ [] else old) c.unwrap.ensures in
    let long : c.len.result ≡ length old = omega arith in
    let reached = c.reach.new.places.items in (
      subst (λ (xs : List ℕ). ArePlaced c.self.inside.bound xs (set reached c.args.number c.len.result) (vec_capacity c.push.new.self) c.reach.new.places.cap) (sym pushed)
          (subst (λ (n : ℕ). ArePlaced c.self.inside.bound (old ++ c.args.number ∷ []) (set reached c.args.number n) (vec_capacity c.push.new.self) c.reach.new.places.cap) (sym long)
          (placed_more c.self.inside.bound c.args.number old c.self.inside.places.items reached _ _ (vec_capacity c.push.new.self) c.reach.new.places.cap c.self.invariant.0 absent c.reach.ensures.reached c.reach.ensures.long
          (c.reach.ensures.few c.self.inside.bound c.self.invariant.0.few below) c.reach.ensures.same (omega (arith, c.self.invariant.0.numbers_fit, c.push.ensures.capacity)) (omega (arith, c.self.invariant.0.places_fit, c.reach.ensures.capacity)))),
      c.self.invariant.1,
    )
