use Rattle.std.proofs.Common.{◌<◌, refl}
use Rattle.number_set.proofs.Sets.{missed, found, at-end}
use Rattle.number_set.proofs.number_set.NumberSet.greatest.Goals as goal

pub returns-in_err-number-clause-none : goal.returns-in_err-number-clause-none
returns-in_err-number-clause-none c =
    let i = c.self.inside in
    missed i.bound i.count i.words.items c.self.invariant c.args.self.now c.self.view_is c.deref.result.now c.deref.ensures.value c.from_residual.result c.from_residual.ensures (c.in_err-number.ensures.none refl)

pub returns-clause-none : goal.returns-clause-none
returns-clause-none c = let i = c.self.inside in found i.bound i.count i.words.items c.self.invariant c.args.self.now c.self.view_is c.deref.result.now c.deref.ensures.value c.in_ok-number.number c.in_ok-number.number c.in_ok-number.ensures.here

pub returns-clause-greatest : goal.returns-clause-greatest
returns-clause-greatest c =
    let i = c.self.inside in
    at-end i.bound i.count i.words.items c.self.invariant c.args.self.now c.self.view_is c.deref.result.now c.deref.ensures.value (λ m. c.in_ok-number.number < m) c.in_ok-number.number c.in_ok-number.ensures.here c.in_ok-number.ensures.above
