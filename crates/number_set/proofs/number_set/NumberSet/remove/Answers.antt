use Rattle.std.proofs.Common.{◌≡◌, ◌-◌, ◌*◌, ◌<◌, true, false, length, sym, ap, ◌∙◌, subst, arith}
use Rattle.std.specs.Prelude.{slice_set}
use Rattle.number_set.specs.Numbers.{size}
use Rattle.number_set.specs.inside.Words.{bit_of}
use Rattle.number_set.proofs.Sets.{one-if, long, has-is, low-bit, has-some, set-same, bits-set, count-set, consistent}
use Rattle.number_set.proofs.number_set.NumberSet.remove.Goals as goal

pub bit-requires : goal.bit-requires
bit-requires c =
    let i = c.self.inside in
    subst (λ w. c.args.number < 64 * length w) (sym c.deref.ensures.value) (low-bit i.bound i.count i.words.items c.self.invariant c.args.self.now c.self.view_is c.args.number c.requires)

pub clear-requires : goal.clear-requires
clear-requires c = let i = c.self.inside in low-bit i.bound i.count i.words.items c.self.invariant c.args.self.now c.self.view_is c.args.number c.requires

pub overflow_sub-self : goal.overflow_sub-self
overflow_sub-self c =
    let i = c.self.inside in let inv = c.self.invariant in
    let was : bit_of i.words.items c.args.number ≡ true = ap (λ w. bit_of w c.args.number) (sym c.deref.ensures.value) ∙ sym c.bit.ensures ∙ c.if-bit.true in
    let some = has-some i.bound i.count i.words.items inv c.args.self.now c.self.view_is c.args.number was in
    let counted : i.count ≡ size c.args.self.now = inv.counted ∙ ap size c.self.view_is in omega (arith, some, counted)

pub invariant_of-self : goal.invariant_of-self
invariant_of-self c =
    let i = c.self.inside in let s = c.clear.ensures in
    let low = long i.bound i.count i.words.items c.self.invariant c.args.self.now c.self.view_is in
    let was : bit_of i.words.items c.args.number ≡ true = ap (λ w. bit_of w c.args.number) (sym c.deref.ensures.value) ∙ sym c.bit.ensures ∙ c.if-bit.true in
    let counted = count-set i.bound i.count i.words.items c.self.invariant c.clear.new.words.items c.args.number false (omega (arith, low, c.requires)) s.long s.here s.others in
    let one : one-if (bit_of i.words.items c.args.number) ≡ 1 = ap one-if was in
    consistent i.bound i.count i.words.items c.self.invariant c.clear.new.words.items c.args.number false (omega (arith, low, c.requires)) s.long s.here s.others (i.count - 1) (omega (arith, counted, one))

pub returns-then-bit : goal.returns-then-bit
returns-then-bit c =
    let i = c.self.inside in let s = c.clear.ensures in
    let low = long i.bound i.count i.words.items c.self.invariant c.args.self.now c.self.view_is in
    bits-set i.bound i.count i.words.items c.self.invariant c.clear.new.words.items c.args.number false (omega (arith, low, c.requires)) s.long s.here s.others ∙ ap (λ xs. slice_set xs c.args.number false) c.self.view_is

pub returns-else-bit : goal.returns-else-bit
returns-else-bit c =
    let i = c.self.inside in
    set-same c.args.self.now c.args.number false (has-is i.bound i.count i.words.items c.self.invariant c.args.self.now c.self.view_is c.args.number
    ∙ ap (λ w. bit_of w c.args.number) (sym c.deref.ensures.value) ∙ sym c.bit.ensures ∙ c.if-bit.false)
